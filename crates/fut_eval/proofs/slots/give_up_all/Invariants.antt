use Rattle.std.proofs.Common.{◌≡◌}
use Rattle.fut_eval.proofs.slots.give_up_all.Given as goal

abbrev pub invariant-loop-name : goal.invariant-loop-name
invariant-loop-name l = l.table ≡ l.initial.table
