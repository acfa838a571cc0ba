use Rattle.std.proofs.Common.{◌+◌, ◌*◌}
use Rattle.sized_programs.specs.Trees.{Are_made}
use Rattle.sized_programs.proofs.trees.+making.Given as goal

abbrev pub decreases-make : goal.decreases-make
decreases-make l = 3 * l.depth

abbrev pub decreases-make_row : goal.decreases-make_row
decreases-make_row l = 3 * l.depth + 1

abbrev pub decreases-make_parts : goal.decreases-make_parts
decreases-make_parts l = 3 * l.depth + 2

abbrev pub invariant-make_row-loop-i : goal.invariant-make_row-loop-i
invariant-make_row-loop-i l = Are_made l.nodes l.made
