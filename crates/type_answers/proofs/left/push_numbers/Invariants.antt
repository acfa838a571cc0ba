use Rattle.std.proofs.Common.{◌≡◌, ◌+◌, ◌<◌, ◌^◌, ◌++◌}
use Rattle.type_graph.specs.Graph.{numbers}
use Rattle.type_answers.proofs.left.push_numbers.Given as goal

abbrev pub invariant-loop-rest : goal.invariant-loop-rest
invariant-loop-rest l = record {
  so_far : l.stack ++ numbers l.at l.rest ≡ l.initial.stack ++ numbers l.first l.count;
  fits : l.at + l.rest < 2 ^ 32;
}

abbrev pub decreases-loop-rest : goal.decreases-loop-rest
decreases-loop-rest l = l.rest
