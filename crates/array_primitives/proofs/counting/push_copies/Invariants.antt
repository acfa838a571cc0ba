use Rattle.array_data.specs.Held.{built_rows, held}
use Rattle.array_primitives.proofs.Numbering.{Copies_pushed}
use Rattle.array_primitives.proofs.counting.push_copies.Given as goal

abbrev pub invariant-loop : goal.invariant-loop
invariant-loop l = Copies_pushed (held l.row) l.counter (built_rows l.initial.built) (built_rows l.built)
