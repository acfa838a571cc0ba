use Rattle.std.proofs.Common.{length}
use Rattle.fut_value.proofs.shape.+weight_of.Given as goal

abbrev pub decreases-weight_of : goal.decreases-weight_of
decreases-weight_of l = length l.sizes.now
