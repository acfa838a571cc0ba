use Rattle.std.proofs.Common.{◌≤◌, ◌-◌}
use Rattle.unify.specs.Putting.{Blank}
use Rattle.unify.proofs.load.variables.Given as goal

abbrev pub invariant-loop-at : goal.invariant-loop-at
invariant-loop-at l = record {
  blank : Blank l.at l.nodes;
  within : l.at ≤ l.count;
}

abbrev pub decreases-loop-at : goal.decreases-loop-at
decreases-loop-at l = l.count - l.at
