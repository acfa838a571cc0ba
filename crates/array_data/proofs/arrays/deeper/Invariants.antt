use Rattle.array_data.proofs.Depths.{Deepest_from}
use Rattle.array_data.proofs.arrays.deeper.Given as goal

abbrev pub invariant-loop-row : goal.invariant-loop-row
invariant-loop-row l = Deepest_from l.deep l.most l.rows l.row-index
