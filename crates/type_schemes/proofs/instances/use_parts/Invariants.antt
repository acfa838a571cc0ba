use Rattle.std.proofs.Common.{◌≤◌, ◌-◌, ℕ, length}
use Rattle.fut_types.specs.declared.shapes.ShapeTable.{ShapeTable}
use Rattle.type_graph.specs.Graph.{Tables, Each, IsGraph, IsBound}
use Rattle.type_graph.specs.Claims.{Inside}
use Rattle.type_schemes.specs.Schemes.{Known}
use Rattle.type_schemes.specs.Instances.{IsUse, IsLabelled, Pushes, Uses}
use Rattle.type_schemes.proofs.instances.use_parts.Given as goal

abbrev pub invariant-loop-at : goal.invariant-loop-at
invariant-loop-at l = record {
  graph : IsGraph l.nodes;
  longer : length l.fn.nodes ≤ length l.nodes;
  tasks : Each (IsUse (length l.nodes)) l.tasks;
  bound : (table : ShapeTable) (m : ℕ) → Known table l.store l.first l.count → IsBound table m l.fn.nodes → IsBound table m l.nodes;
  labels : (table : ShapeTable) → Known table l.store l.first l.count → Each (IsLabelled table) l.fn.tasks → Each (IsLabelled table) l.tasks;
  so_far : (T : Tables) → Inside T l.fn.nodes → Pushes T l.fn.nodes l.fn.tasks (Uses T.shapes l.store l.first l.start l.at) l.nodes l.tasks;
  within : l.at ≤ l.count;
}

abbrev pub decreases-loop-at : goal.decreases-loop-at
decreases-loop-at l = l.count - l.at
