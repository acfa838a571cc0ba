use Rattle.array_data.specs.Held.{built_rows, held, rows_in, shape_held}
use Rattle.array_primitives.proofs.Nesting.{Grouped_to}
use Rattle.array_primitives.proofs.nested.groups.Given as goal

abbrev pub invariant-loop-i : goal.invariant-loop-i
invariant-loop-i l = Grouped_to (shape_held l.form) l.long (rows_in (held l.whole)) l.i (built_rows l.built)
