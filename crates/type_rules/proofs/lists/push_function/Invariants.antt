use Rattle.std.proofs.Common.{◌≡◌, ◌≤◌, ◌-◌, ◌+◌, ◌++◌, length, drop}
use Rattle.type_rules.specs.Lists.{function_demands}
use Rattle.type_rules.proofs.lists.push_function.Given as goal

abbrev pub invariant-loop-at : goal.invariant-loop-at
invariant-loop-at l = record {
  so_far : l.demands ++ function_demands (drop l.at l.params) l.body (l.from + l.at) ≡ l.fn.demands ++ function_demands l.params l.body l.from;
  within : l.at ≤ length l.params;
}

abbrev pub decreases-loop-at : goal.decreases-loop-at
decreases-loop-at l = length l.params - l.at
