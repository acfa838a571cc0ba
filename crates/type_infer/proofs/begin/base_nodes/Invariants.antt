use Rattle.std.proofs.Common.{ℕ, ◌≡◌, ◌≤◌, ◌<◌, ◌-◌, length, map, take}
use Rattle.type_graph.specs.Graph.{far}
use Rattle.type_infer.specs.Graphs.{base_node, home_at}
use Rattle.type_infer.proofs.begin.base_nodes.Given as goal

abbrev pub invariant-loop-at : goal.invariant-loop-at
invariant-loop-at l = record {
  within : l.at ≤ length l.homes;
  so_far : l.nodes ≡ map base_node (take l.at l.homes);
  near : (n : ℕ) → n < l.at → home_at l.homes n ≤ far;
}

abbrev pub decreases-loop-at : goal.decreases-loop-at
decreases-loop-at l = length l.homes - l.at
