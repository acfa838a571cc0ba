use Rattle.std.proofs.Common.{length, ◌-◌, ◌≡◌, ℕ, ◌<◌, ◌≤◌, Some}
use Rattle.fut_flat.specs.Erased.{texts}
use Rattle.type_rules.specs.Labels.{number_of}
use Rattle.typed_programs.specs.Ordered.{name_at}
use Rattle.typed_programs.proofs.ordered.are_numbered.Given as goal

-- those before have the numbers of their places
abbrev pub invariant-loop-at : goal.invariant-loop-at
invariant-loop-at l = record { within : l.at ≤ length l.names; numbered : (k : ℕ) → k < l.at → number_of l.labels (name_at (texts l.names) k) ≡ Some k }

abbrev pub decreases-loop-at : goal.decreases-loop-at
decreases-loop-at l = length l.names - l.at
