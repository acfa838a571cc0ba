use Rattle.std.proofs.Common.{◌≡◌, ◌<◌, ◌≤◌, ◌-◌, length, ℕ, []}
use Rattle.type_graph.specs.Resolving.{Walked}
use Rattle.type_graph.specs.Walking.{Underway}
use Rattle.type_graph.proofs.resolving.resolve.Given as goal

abbrev pub invariant-loop-at : goal.invariant-loop-at
invariant-loop-at l = record {
  empty : l.steps ≡ [];
  underway : Underway l.nodes l.entries l.marks [];
  here : (i : ℕ) → i < l.at → Walked l.nodes l.entries i;
  within : l.at ≤ length l.nodes;
}

abbrev pub decreases-loop-at : goal.decreases-loop-at
decreases-loop-at l = length l.nodes - l.at
