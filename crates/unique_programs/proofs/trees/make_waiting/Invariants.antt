use Rattle.unique_programs.specs.Layers.{Are_made, Inside}
use Rattle.unique_programs.proofs.trees.make_waiting.Given as goal

abbrev pub invariant-loop : goal.invariant-loop
invariant-loop l = record { made : Are_made l.nodes l.made; inside : Inside l.made l.waiting }
