use Rattle.std.proofs.Common.{◌≡◌}
use Rattle.fut_eval.proofs.slots.give_up_moved.Given as goal

abbrev pub invariant-loop-i : goal.invariant-loop-i
invariant-loop-i l = l.table ≡ l.initial.table
