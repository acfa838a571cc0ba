use Rattle.form_parts.proofs.FieldForms.{Placed_from}
use Rattle.form_parts.proofs.fields.field_at.Given as goal

abbrev pub invariant-loop-i : goal.invariant-loop-i
invariant-loop-i l = Placed_from l.name l.names l.forms l.i
