use Rattle.std.proofs.Common.{length}
use Rattle.array_primitives.proofs.columns.+same_counts.Given as goal

abbrev pub decreases-same_counts : goal.decreases-same_counts
decreases-same_counts l = length l.arrays.now
