-- Each call is at a smaller depth, or hands what reads one over.
use Rattle.std.proofs.Common.{◌+◌, ◌*◌}
use Rattle.parse_module_types.proofs.cycle.+module_types.Given as goal

abbrev pub decreases-module_type : goal.decreases-module_type
decreases-module_type l = 2 * l.depth

abbrev pub decreases-member : goal.decreases-member
decreases-member l = 2 * l.depth

abbrev pub decreases-module_type-whole_node+arg2 : goal.decreases-module_type-whole_node+arg2
decreases-module_type-whole_node+arg2 l = 2 * l.inner + 1

abbrev pub decreases-module_type-whole_node+arg3 : goal.decreases-module_type-whole_node+arg3
decreases-module_type-whole_node+arg3 l = 2 * l.inner + 1

abbrev pub decreases-member-member_node : goal.decreases-member-member_node
decreases-member-member_node l = 2 * l.inner + 1
