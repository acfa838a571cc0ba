use Rattle.std.proofs.Common.{◌≤◌}
use Rattle.unique_programs.proofs.trees.size_of_row.Given as goal

abbrev pub invariant-loop-i : goal.invariant-loop-i
invariant-loop-i l = 1 ≤ l.size.parts
