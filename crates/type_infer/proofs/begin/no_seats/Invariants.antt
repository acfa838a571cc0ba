use Rattle.std.proofs.Common.{ℕ, ◌≤◌, ◌-◌}
use Rattle.type_scopes.specs.Table.{IsSeated}
use Rattle.type_infer.proofs.begin.no_seats.Given as goal

abbrev pub invariant-loop-at : goal.invariant-loop-at
invariant-loop-at l = record {
  within : l.at ≤ l.count;
  none : (n : ℕ) → IsSeated l.seats n → ⊥;
}

abbrev pub decreases-loop-at : goal.decreases-loop-at
decreases-loop-at l = l.count - l.at
