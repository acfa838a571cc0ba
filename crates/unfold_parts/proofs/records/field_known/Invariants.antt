use Rattle.std.proofs.Common.{◌≡◌}
use Rattle.unfold.specs.Knowns.{field}
use Rattle.unfold_parts.proofs.Fielding.{Rest}
use Rattle.unfold_parts.proofs.records.field_known.Given as goal

abbrev pub invariant-loop-field : goal.invariant-loop-field
invariant-loop-field l = field l.name (Rest l.fields 0) ≡ field l.name (Rest l.fields l.field-index)
