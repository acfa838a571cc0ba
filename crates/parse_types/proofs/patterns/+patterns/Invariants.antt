-- Each call is at a smaller depth, or hands what reads one over.
use Rattle.std.proofs.Common.{◌+◌, ◌*◌}
use Rattle.parse_types.proofs.patterns.+patterns.Given as goal

abbrev pub decreases-pattern_of : goal.decreases-pattern_of
decreases-pattern_of l = 2 * l.depth

abbrev pub decreases-pattern_node : goal.decreases-pattern_node
decreases-pattern_node l = 2 * l.inner + 1
