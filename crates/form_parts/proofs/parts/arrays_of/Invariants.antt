use Rattle.form_parts.proofs.PartForms.{Arrays_up_to}
use Rattle.form_parts.proofs.parts.arrays_of.Given as goal

abbrev pub invariant-loop-form : goal.invariant-loop-form
invariant-loop-form l = Arrays_up_to l.many l.forms l.form-index l.arrays
