use Rattle.array_data.specs.Held.{built_rows}
use Rattle.array_primitives.proofs.Nesting.{Joined_to}
use Rattle.array_primitives.proofs.nested.rows_of_rows.Given as goal

abbrev pub invariant-loop-array : goal.invariant-loop-array
invariant-loop-array l = Joined_to l.rows l.array-index (built_rows l.built)
