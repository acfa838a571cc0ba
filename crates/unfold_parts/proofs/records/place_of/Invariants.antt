use Rattle.std.proofs.Common.{◌≡◌}
use Rattle.unfold_parts.proofs.Fielding.{Ahead}
use Rattle.unfold_parts.proofs.records.place_of.Given as goal

abbrev pub invariant-loop-field : goal.invariant-loop-field
invariant-loop-field l = (l.at ≡ l.field-index) × Ahead l.name l.fields l.field-index
