use Rattle.std.proofs.Common.{◌≡◌, ◌≤◌, ◌-◌, ◌+◌, ◌++◌, length, drop}
use Rattle.type_rules.specs.Lists.{index_demands}
use Rattle.type_rules.proofs.lists.push_index.Given as goal

abbrev pub invariant-loop-at : goal.invariant-loop-at
invariant-loop-at l = record {
  so_far : l.demands ++ index_demands l.places (drop l.at l.parts) (l.array + l.at) (l.whole + l.at) ≡ l.fn.demands ++ index_demands l.places l.parts l.array l.whole;
  within : l.at ≤ length l.parts;
}

abbrev pub decreases-loop-at : goal.decreases-loop-at
decreases-loop-at l = length l.parts - l.at
