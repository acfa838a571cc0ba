use Rattle.array_data.proofs.Making.{Like_from}
use Rattle.array_data.proofs.arrays.are_like.Given as goal

abbrev pub invariant-loop-row : goal.invariant-loop-row
invariant-loop-row l = Like_from l.form l.rows l.row-index
