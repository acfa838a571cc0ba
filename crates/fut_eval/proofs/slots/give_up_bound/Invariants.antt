use Rattle.std.proofs.Common.{◌≡◌}
use Rattle.fut_eval.proofs.slots.give_up_bound.Given as goal

abbrev pub invariant-loop-step : goal.invariant-loop-step
invariant-loop-step l = l.table ≡ l.initial.table
