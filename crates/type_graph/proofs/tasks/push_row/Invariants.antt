use Rattle.std.proofs.Common.{◌≡◌, ◌+◌, ◌<◌, ◌^◌, ◌++◌}
use Rattle.type_graph.specs.Graph.{numbers, all_have}
use Rattle.type_graph.proofs.tasks.push_row.Given as goal

abbrev pub invariant-loop-rest : goal.invariant-loop-rest
invariant-loop-rest l = record {
  so_far : l.tasks ++ all_have (numbers l.x l.rest) l.kind l.depth ≡ l.initial.tasks ++ all_have (numbers l.first l.count) l.kind l.depth;
  fits : l.x + l.rest < 2 ^ 32;
}

abbrev pub decreases-loop-rest : goal.decreases-loop-rest
decreases-loop-rest l = l.rest
