use Rattle.alias_sets.proofs.Merging.{Left_from}
use Rattle.alias_sets.proofs.sets.left_by.Given as goal

abbrev pub invariant-loop-i : goal.invariant-loop-i
invariant-loop-i l = Left_from l.from l.i l.set l.made.items
