-- Each call is at a smaller depth, or hands what reads one over.
use Rattle.std.proofs.Common.{◌+◌, ◌*◌}
use Rattle.parse_types.proofs.types.+types.Given as goal

abbrev pub decreases-type_of : goal.decreases-type_of
decreases-type_of l = 2 * l.depth

abbrev pub decreases-node : goal.decreases-node
decreases-node l = 2 * l.inner + 1
