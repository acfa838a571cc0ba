use Rattle.std.proofs.Common.{◌≡◌, take}
use Rattle.array_data.proofs.form.+copies.Given as goal

abbrev pub invariant-copy_forms-loop-form : goal.invariant-copy_forms-loop-form
invariant-copy_forms-loop-form l = l.copies ≡ take l.form-index l.forms
