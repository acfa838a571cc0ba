use Rattle.unique_programs.specs.Layers.{Inside}
use Rattle.unique_programs.proofs.trees.wait_for_row.Given as goal

abbrev pub invariant-loop-i : goal.invariant-loop-i
invariant-loop-i l = Inside l.made l.waiting
