use Rattle.std.proofs.Common.{length}
use Rattle.data_values.proofs.taking.+product.Given as goal

abbrev pub decreases-product : goal.decreases-product
decreases-product l = length l.sizes.now
