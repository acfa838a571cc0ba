use Rattle.array_data.specs.Held.{built_rows}
use Rattle.array_primitives.proofs.Nesting.{Elements_to}
use Rattle.array_primitives.proofs.nested.elements_at.Given as goal

abbrev pub invariant-loop-array : goal.invariant-loop-array
invariant-loop-array l = Elements_to l.rows l.at l.array-index (built_rows l.built)
