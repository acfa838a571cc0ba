use Rattle.array_primitives.proofs.Zipping.{Row_forms}
use Rattle.array_primitives.proofs.zips.row_forms.Given as goal

abbrev pub invariant-loop-array : goal.invariant-loop-array
invariant-loop-array l = Row_forms l.arrays l.array-index l.forms
