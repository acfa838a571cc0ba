use Rattle.sized_programs.specs.Trees.{Are_made}
use Rattle.sized_programs.proofs.trees.type_trees.Given as goal

abbrev pub invariant-loop-at : goal.invariant-loop-at
invariant-loop-at l = Are_made l.nodes l.made
