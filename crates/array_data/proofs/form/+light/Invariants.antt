use Rattle.array_data.proofs.Weights.{Flat_from}
use Rattle.array_data.proofs.form.+light.Given as goal

abbrev pub invariant-are_flat-loop-form : goal.invariant-are_flat-loop-form
invariant-are_flat-loop-form l = Flat_from l.count l.forms l.form-index
