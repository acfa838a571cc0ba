use Rattle.std.proofs.Common.{length}
use Rattle.value_text.proofs.words.+common.Given as goal

abbrev pub decreases-common : goal.decreases-common
decreases-common l = length l.text.now
