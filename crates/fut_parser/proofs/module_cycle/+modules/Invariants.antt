-- Each call is at a smaller depth, or hands what reads one over.
use Rattle.std.proofs.Common.{◌+◌, ◌*◌}
use Rattle.fut_parser.proofs.module_cycle.+modules.Given as goal

abbrev pub decreases-module : goal.decreases-module
decreases-module l = 2 * l.depth

abbrev pub decreases-declaration : goal.decreases-declaration
decreases-declaration l = 2 * l.depth

abbrev pub decreases-declaration-declaration_node : goal.decreases-declaration-declaration_node
decreases-declaration-declaration_node l = 2 * l.inner + 1

abbrev pub decreases-module-module_node+arg2 : goal.decreases-module-module_node+arg2
decreases-module-module_node+arg2 l = 2 * l.inner + 1

abbrev pub decreases-module-module_node+arg3 : goal.decreases-module-module_node+arg3
decreases-module-module_node+arg3 l = 2 * l.inner + 1
