use Rattle.array_data.specs.Held.{built_rows, held, rows_in}
use Rattle.array_primitives.proofs.Cutting.{Part_pushed}
use Rattle.array_primitives.proofs.parts.push_part.Given as goal

abbrev pub invariant-loop-i : goal.invariant-loop-i
invariant-loop-i l = Part_pushed (rows_in (held l.array)) l.from l.i (built_rows l.initial.built) (built_rows l.built)
