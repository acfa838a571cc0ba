use Rattle.std.proofs.Common.{◌≡◌, ℕ, length}
use Rattle.std.specs.Prelude.{None}
use Rattle.sized_programs.specs.Trees.{tree_at}
use Rattle.sized_programs.proofs.trees.none_made.Given as goal

abbrev pub invariant-loop : goal.invariant-loop
invariant-loop l = record { long : length l.made ≡ l.counter; none : (i : ℕ) → tree_at l.made i ≡ None }
