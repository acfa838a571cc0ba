use Rattle.std.proofs.Common.{length, ◌-◌, ◌≡◌, ℕ, suc, ◌<◌, ◌≤◌, true}
use Rattle.fut_flat.specs.Erased.{texts}
use Rattle.sizing_laws.specs.Order.{is_before}
use Rattle.typed_programs.specs.Ordered.{name_at}
use Rattle.typed_programs.proofs.ordered.rise.Given as goal

-- of those before, each stands behind the one before it
abbrev pub invariant-loop-at : goal.invariant-loop-at
invariant-loop-at l = record { some : 1 ≤ l.at; rise : (k : ℕ) → suc k < l.at → is_before (name_at (texts l.names) k) (name_at (texts l.names) (suc k)) ≡ true }

abbrev pub decreases-loop-at : goal.decreases-loop-at
decreases-loop-at l = length l.names - l.at
