-- Each call is one deeper.
use Rattle.std.proofs.Common.{◌+◌, ◌*◌}
use Rattle.parse_exps.proofs.expressions.+expressions.Given as goal

abbrev pub decreases-expression : goal.decreases-expression
decreases-expression l = 2 * l.depth

abbrev pub decreases-node_by : goal.decreases-node_by
decreases-node_by l = 2 * l.inner + 1
