use Rattle.std.proofs.Common.{length}
use Rattle.array_primitives.proofs.cuts.+push_cuts.Given as goal

abbrev pub decreases-push_cuts : goal.decreases-push_cuts
decreases-push_cuts l = length l.parts.now
