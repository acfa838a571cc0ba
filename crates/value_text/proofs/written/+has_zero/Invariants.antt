use Rattle.std.proofs.Common.{length}
use Rattle.value_text.proofs.written.+has_zero.Given as goal

abbrev pub decreases-has_zero : goal.decreases-has_zero
decreases-has_zero l = length l.sizes.now
