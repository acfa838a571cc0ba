use Rattle.std.proofs.Common.{◌≡◌}
use Rattle.unfold.specs.Telling.{field_at}
use Rattle.told_rows.proofs.ShapeForms.{fields_from}
use Rattle.told_rows.proofs.shapes.field_at.Given as goal

abbrev pub invariant-loop-field : goal.invariant-loop-field
invariant-loop-field l = field_at l.name (fields_from l.fields 0) ≡ field_at l.name (fields_from l.fields l.field-index)
