use Rattle.std.proofs.Common.{◌≡◌, ◌≤◌, ◌<◌, length}
use Rattle.fut_types.specs.Types.{Ty, Sub}
use Rattle.type_graph.specs.Graph.{node_at}
use Rattle.type_infer.specs.Reading.{Reads}
use Rattle.type_infer.proofs.types.root_of.Given as goal

abbrev pub invariant-loop-root : goal.invariant-loop-root
invariant-loop-root l = record {
  within : l.at < length l.inference.nodes;
  low : l.at ≤ l.node;
  root : l.root ≡ node_at l.inference.nodes l.at;
  reads : (s : Sub) (t : Ty) → Reads s l.inference.nodes l.node t → Reads s l.inference.nodes l.at t;
}

abbrev pub decreases-loop-root : goal.decreases-loop-root
decreases-loop-root l = l.at
