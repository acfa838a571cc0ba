use Rattle.array_data.specs.Held.{built_rows, held_all}
use Rattle.array_primitives.proofs.Zipping.{Tuples_pushed}
use Rattle.array_primitives.proofs.zips.push_tuples.Given as goal

abbrev pub invariant-loop-i : goal.invariant-loop-i
invariant-loop-i l = Tuples_pushed (held_all l.arrays) l.n l.i (built_rows l.initial.built) (built_rows l.built)
