use Rattle.std.proofs.Common.{◌≡◌, ◌≤◌, ◌-◌, ◌+◌, ◌++◌}
use Rattle.type_primitives.specs.Uses.{variable_demands}
use Rattle.type_primitives.proofs.uses.push_variables.Given as goal

abbrev pub invariant-loop-at : goal.invariant-loop-at
invariant-loop-at l = record {
  so_far : l.demands ++ variable_demands l.places (l.first + l.at) (l.count - l.at) ≡ l.fn.demands ++ variable_demands l.places l.first l.count;
  within : l.at ≤ l.count;
}

abbrev pub decreases-loop-at : goal.decreases-loop-at
decreases-loop-at l = l.count - l.at
