use Rattle.std.proofs.Common.{◌≡◌, ◌+◌, ◌<◌, ◌^◌, ◌++◌}
use Rattle.type_graph.specs.Graph.{pairs}
use Rattle.type_graph.proofs.tasks.push_pairs.Given as goal

abbrev pub invariant-loop-rest : goal.invariant-loop-rest
invariant-loop-rest l = record {
  so_far : l.tasks ++ pairs l.x l.y l.rest ≡ l.initial.tasks ++ pairs l.left l.right l.count;
  left : l.x + l.rest < 2 ^ 32;
  right : l.y + l.rest < 2 ^ 32;
}

abbrev pub decreases-loop-rest : goal.decreases-loop-rest
decreases-loop-rest l = l.rest
