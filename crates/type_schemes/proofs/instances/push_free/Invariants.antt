use Rattle.std.proofs.Common.{◌≡◌, ◌≤◌, ◌+◌, ◌-◌, ℕ, length}
use Rattle.fut_types.specs.declared.shapes.ShapeTable.{ShapeTable}
use Rattle.type_graph.specs.Graph.{Tables, IsGraph, IsBound}
use Rattle.type_graph.specs.Claims.{Inside}
use Rattle.type_schemes.specs.Instances.{Frees}
use Rattle.type_schemes.proofs.instances.push_free.Given as goal

abbrev pub invariant-loop-at : goal.invariant-loop-at
invariant-loop-at l = record {
  graph : IsGraph l.nodes;
  long : length l.nodes ≡ length l.fn.nodes + l.at;
  bound : (table : ShapeTable) (m : ℕ) → IsBound table m l.fn.nodes → IsBound table m l.nodes;
  so_far : (T : Tables) → Inside T l.fn.nodes → Frees T l.fn.nodes l.nodes;
  within : l.at ≤ l.count;
}

abbrev pub decreases-loop-at : goal.decreases-loop-at
decreases-loop-at l = l.count - l.at
