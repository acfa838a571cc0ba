use Rattle.std.proofs.Common.{◌≤◌, ◌-◌}
use Rattle.type_rules.specs.Own.{Freed}
use Rattle.type_rules.proofs.own.push_own.Given as goal

abbrev pub invariant-loop-at : goal.invariant-loop-at
invariant-loop-at l = record {
  so_far : Freed l.fn.nodes l.at l.nodes;
  within : l.at ≤ l.count;
}

abbrev pub decreases-loop-at : goal.decreases-loop-at
decreases-loop-at l = l.count - l.at
