use Rattle.array_data.proofs.Forms.{Forms_made}
use Rattle.array_data.proofs.form.+forms.Given as goal

abbrev pub invariant-forms_of-loop-part : goal.invariant-forms_of-loop-part
invariant-forms_of-loop-part l = Forms_made l.parts l.part-index l.forms
