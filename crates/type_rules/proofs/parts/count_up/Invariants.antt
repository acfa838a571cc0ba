use Rattle.std.proofs.Common.{◌≡◌, ◌≤◌, ◌-◌, ◌+◌, ◌++◌}
use Rattle.type_graph.specs.Graph.{numbers}
use Rattle.type_rules.proofs.parts.count_up.Given as goal

abbrev pub invariant-loop-at : goal.invariant-loop-at
invariant-loop-at l = record {
  so_far : l.list ++ numbers (l.first + l.at) (l.count - l.at) ≡ numbers l.first l.count;
  within : l.at ≤ l.count;
}

abbrev pub decreases-loop-at : goal.decreases-loop-at
decreases-loop-at l = l.count - l.at
