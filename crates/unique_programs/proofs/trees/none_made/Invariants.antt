use Rattle.std.proofs.Common.{◌≡◌, ℕ, length}
use Rattle.std.specs.Prelude.{None}
use Rattle.unique_programs.specs.Layers.{sized_at}
use Rattle.unique_programs.proofs.trees.none_made.Given as goal

abbrev pub invariant-loop : goal.invariant-loop
invariant-loop l = record { long : length l.made ≡ l.counter; none : (i : ℕ) → sized_at l.made i ≡ None }
