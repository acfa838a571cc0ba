use Rattle.std.proofs.Common.{◌≡◌, ◌↔◌, ◌≤◌, ◌-◌, length, drop}
use Rattle.fut_typing.specs.Rules.{bounds}
use Rattle.type_rules.proofs.lists.takes.Given as goal

abbrev pub invariant-loop-at : goal.invariant-loop-at
invariant-loop-at l = record {
  so_far : (l.count ≡ bounds l.parts) ↔ (l.left ≡ bounds (drop l.at l.parts));
  within : l.at ≤ length l.parts;
}

abbrev pub decreases-loop-at : goal.decreases-loop-at
decreases-loop-at l = length l.parts - l.at
