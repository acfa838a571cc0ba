use Rattle.array_data.specs.Held.{built_rows, held, rows_in}
use Rattle.array_primitives.proofs.Sifting.{Kept_up_to}
use Rattle.array_primitives.proofs.sieve.sift.Given as goal

abbrev pub invariant-loop-i : goal.invariant-loop-i
invariant-loop-i l = Kept_up_to l.wanted (rows_in (held l.whole)) l.truths l.i (built_rows l.kept)
