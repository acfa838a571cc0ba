use Rattle.std.proofs.Common.{◌≡◌, ◌≤◌, ◌-◌, ◌++◌, length, drop}
use Rattle.type_rules.specs.Lists.{all_same}
use Rattle.type_rules.proofs.lists.push_same.Given as goal

abbrev pub invariant-loop-at : goal.invariant-loop-at
invariant-loop-at l = record {
  so_far : l.demands ++ all_same l.node (drop l.at l.parts) ≡ l.fn.demands ++ all_same l.node (drop l.from l.parts);
  within : l.at ≤ length l.parts;
}

abbrev pub decreases-loop-at : goal.decreases-loop-at
decreases-loop-at l = length l.parts - l.at
