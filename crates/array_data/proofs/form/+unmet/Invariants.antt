use Rattle.array_data.proofs.Forms.{Unmet_from}
use Rattle.array_data.proofs.form.+unmet.Given as goal

abbrev pub invariant-forms_unmet-loop-form : goal.invariant-forms_unmet-loop-form
invariant-forms_unmet-loop-form l = Unmet_from l.forms l.form-index
