use Rattle.std.proofs.Common.{◌≤◌, ◌-◌}
use Rattle.type_graph.specs.Levels.{Over}
use Rattle.type_graph.proofs.levels.deepest.Given as goal

abbrev pub invariant-loop-at : goal.invariant-loop-at
invariant-loop-at l = record {
  over : Over l.nodes l.first l.at l.most;
  within : l.at ≤ l.count;
}

abbrev pub decreases-loop-at : goal.decreases-loop-at
decreases-loop-at l = l.count - l.at
