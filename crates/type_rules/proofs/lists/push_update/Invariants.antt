use Rattle.std.proofs.Common.{◌≡◌, ◌≤◌, ◌<◌, ◌-◌, ◌+◌, ◌++◌, length, drop}
use Rattle.type_rules.specs.Lists.{update_demands}
use Rattle.type_rules.proofs.lists.push_update.Given as goal

abbrev pub invariant-loop-at : goal.invariant-loop-at
invariant-loop-at l = record {
  so_far : l.demands ++ update_demands l.places (drop l.at l.parts) (l.array + (l.at - 1)) ≡ l.fn.demands ++ update_demands l.places (drop 1 l.parts) l.array;
  some : 1 ≤ l.at;
  within : l.at < length l.parts;
}

abbrev pub decreases-loop-at : goal.decreases-loop-at
decreases-loop-at l = length l.parts - l.at
