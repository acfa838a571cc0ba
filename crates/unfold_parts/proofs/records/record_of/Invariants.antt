use Rattle.std.proofs.Common.{◌≤◌, length}
use Rattle.unfold_parts.proofs.Fielding.{Recorded}
use Rattle.unfold_parts.proofs.records.record_of.Given as goal

abbrev pub invariant-loop-at : goal.invariant-loop-at
invariant-loop-at l = (l.at ≤ length l.parts) × Recorded l.names l.parts l.fields.items l.at

abbrev pub decreases-loop-at : goal.decreases-loop-at
decreases-loop-at l = l.at
