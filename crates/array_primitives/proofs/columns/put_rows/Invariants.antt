use Rattle.array_data.specs.Held.{held_all}
use Rattle.array_primitives.proofs.Columning.{Half_put}
use Rattle.array_primitives.proofs.columns.put_rows.Given as goal

abbrev pub invariant-loop-array : goal.invariant-loop-array
invariant-loop-array l = Half_put (held_all l.arrays) l.at l.array-index (held_all l.initial.stack.items) (held_all l.stack.items)
