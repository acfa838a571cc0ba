use Rattle.array_primitives.proofs.Nesting.{Arrays_to}
use Rattle.array_primitives.proofs.nested.all_arrays.Given as goal

abbrev pub invariant-loop-array : goal.invariant-loop-array
invariant-loop-array l = Arrays_to l.rows l.array-index
