use Rattle.array_data.specs.Held.{built_rows, held, rows_in}
use Rattle.array_primitives.proofs.Scattering.{Chosen_up_to}
use Rattle.array_primitives.proofs.writes.write_rows.Given as goal

abbrev pub invariant-loop-i : goal.invariant-loop-i
invariant-loop-i l = Chosen_up_to (built_rows l.initial.rows) (rows_in (held l.indices)) (rows_in (held l.values)) l.m l.i (built_rows l.rows)
