use Rattle.array_data.specs.Held.{built_rows, held, rows_in}
use Rattle.array_primitives.proofs.Cutting.{Back_pushed}
use Rattle.array_primitives.proofs.parts.push_backwards.Given as goal

abbrev pub invariant-loop-i : goal.invariant-loop-i
invariant-loop-i l = Back_pushed (rows_in (held l.array)) l.n l.i (built_rows l.initial.built) (built_rows l.built)
