use Rattle.std.proofs.Common.{length}
use Rattle.core_steps.proofs.gluing.+extent_within.Given as goal

abbrev pub decreases-extent_within : goal.decreases-extent_within
decreases-extent_within l = length l.sizes.now
