use Rattle.array_data.specs.Held.{built_rows, held_all, shape_held}
use Rattle.array_primitives.proofs.Nesting.{Crossed_to}
use Rattle.array_primitives.proofs.nested.columns.Given as goal

abbrev pub invariant-loop-at : goal.invariant-loop-at
invariant-loop-at l = Crossed_to (shape_held l.form) (held_all l.rows) l.at (built_rows l.built)
