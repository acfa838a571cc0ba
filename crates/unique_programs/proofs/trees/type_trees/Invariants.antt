use Rattle.std.proofs.Common.{◌≡◌, []}
use Rattle.unique_programs.specs.Layers.{Are_made}
use Rattle.unique_programs.proofs.trees.type_trees.Given as goal

abbrev pub invariant-loop-at : goal.invariant-loop-at
invariant-loop-at l = record { made : Are_made l.nodes l.made; none : l.waiting ≡ [] }
