use Rattle.fut_flat.specs.declared.exp.Exp.{size-Exp}
use Rattle.unfold_measure.proofs.lets.+left_of_row.Given as goal

abbrev pub decreases-left_of_row : goal.decreases-left_of_row
decreases-left_of_row l = size-Exp l.body.now
