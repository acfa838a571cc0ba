use Rattle.std.proofs.Common.{◌≡◌, length}
use Rattle.sized_programs.specs.Trees.{Row_made}
use Rattle.sized_programs.proofs.trees.made_row.Given as goal

abbrev pub invariant-loop-i : goal.invariant-loop-i
invariant-loop-i l = record { trees : Row_made l.made l.first l.row.items; long : length l.row.items ≡ l.i }
