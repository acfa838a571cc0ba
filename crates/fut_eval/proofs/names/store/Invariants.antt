use Rattle.fut_eval.proofs.Storing.{Stores}
use Rattle.array_data.specs.Held.{held_all}
use Rattle.fut_eval.proofs.names.store.Given as goal

abbrev pub invariant-loop-i : goal.invariant-loop-i
invariant-loop-i l = Stores l.names (held_all l.values) (held_all l.initial.table) l.i (held_all l.table)
