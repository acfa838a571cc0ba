use Rattle.std.proofs.Common.{◌≡◌, ◌<◌, ◌≤◌, ◌-◌, ℕ, [], length, true}
use Rattle.type_graph.specs.State.{Tops}
use Rattle.type_answers.specs.Left.{Seen, seen_at}
use Rattle.type_answers.proofs.left.undetermined.Given as goal

abbrev pub invariant-loop-at : goal.invariant-loop-at
invariant-loop-at l = record {
  long : length l.seen ≡ length l.nodes;
  seen : (top : ℕ → ℕ) → Tops l.nodes top → Seen l.nodes l.seen [] top;
  done : (n : ℕ) → n < l.at → (top : ℕ → ℕ) → Tops l.nodes top → seen_at l.seen (top n) ≡ true;
  within : l.at ≤ l.base;
}

abbrev pub decreases-loop-at : goal.decreases-loop-at
decreases-loop-at l = l.base - l.at
