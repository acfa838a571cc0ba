use Rattle.core_steps.proofs.Counting.{Counts}
use Rattle.core_steps.proofs.rows.rows_count.Given as goal

abbrev pub invariant-loop-atom : goal.invariant-loop-atom
invariant-loop-atom l = Counts l.table l.arrays.arrays l.atoms l.place l.count l.atom-index
