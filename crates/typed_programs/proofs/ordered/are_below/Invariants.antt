use Rattle.std.proofs.Common.{length, ◌-◌, ℕ, ◌<◌, ◌≤◌}
use Rattle.fut_types.specs.Shapes.{label_at}
use Rattle.typed_programs.proofs.ordered.are_below.Given as goal

-- those before are below
abbrev pub invariant-loop-at : goal.invariant-loop-at
invariant-loop-at l = record { within : l.at ≤ length l.labels; below : (k : ℕ) → k < l.at → label_at l.labels k < l.many }

abbrev pub decreases-loop-at : goal.decreases-loop-at
decreases-loop-at l = length l.labels - l.at
