use Rattle.form_parts.proofs.FieldForms.{Names_taken}
use Rattle.form_parts.proofs.fields.field_names.Given as goal

abbrev pub invariant-loop-field : goal.invariant-loop-field
invariant-loop-field l = Names_taken l.fields l.field-index l.all
