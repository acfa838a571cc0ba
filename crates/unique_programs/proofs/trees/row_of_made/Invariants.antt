use Rattle.std.proofs.Common.{◌≡◌, length}
use Rattle.unique_programs.specs.Layers.{Row_made}
use Rattle.unique_programs.proofs.trees.row_of_made.Given as goal

abbrev pub invariant-loop-i : goal.invariant-loop-i
invariant-loop-i l = record { trees : Row_made l.made l.first l.row.items; long : length l.row.items ≡ l.i }
