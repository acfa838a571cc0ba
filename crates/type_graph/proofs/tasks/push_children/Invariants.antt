use Rattle.std.proofs.Common.{◌≡◌, ◌<◌, ◌++◌, length}
use Rattle.type_graph.specs.Graph.{Tables, Listed, children, all_have}
use Rattle.type_graph.proofs.tasks.push_children.Given as goal

abbrev pub invariant-loop-rest : goal.invariant-loop-rest
invariant-loop-rest l = record {
  within : l.at < length l.entries;
  so_far : (T : Tables) → Listed l.entries T → l.tasks ++ all_have (children T l.at l.rest) l.kind l.depth ≡ l.initial.tasks ++ all_have (children T l.start l.count) l.kind l.depth;
}

abbrev pub decreases-loop-rest : goal.decreases-loop-rest
decreases-loop-rest l = l.rest
