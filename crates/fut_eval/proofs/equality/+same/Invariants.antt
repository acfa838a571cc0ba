use Rattle.std.proofs.Common.{drop}
use Rattle.array_data.specs.Held.{held_all}
use Rattle.fut_eval.specs.Answers.{parts_equal}
use Rattle.fut_eval.proofs.SameData.{Same_up_to}
use Rattle.fut_eval.proofs.equality.+same.Given as goal

abbrev pub invariant-same_parts-loop-i : goal.invariant-same_parts-loop-i
invariant-same_parts-loop-i l = Same_up_to (parts_equal (held_all l.lefts) (held_all l.rights)) l.all (parts_equal (held_all (drop l.i l.lefts)) (held_all (drop l.i l.rights)))
