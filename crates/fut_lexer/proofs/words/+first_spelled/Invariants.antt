use Rattle.std.proofs.Common.{length}
use Rattle.fut_lexer.proofs.words.+first_spelled.Given as goal

abbrev pub decreases-first_spelled : goal.decreases-first_spelled
decreases-first_spelled l = length l.words.now
