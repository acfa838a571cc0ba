use Rattle.std.proofs.Common.{◌≡◌, ◌≤◌, ◌-◌, ◌++◌, length, drop}
use Rattle.type_rules.specs.Records.{part_demands}
use Rattle.type_rules.proofs.parts.parts_list.Given as goal

abbrev pub invariant-loop-at : goal.invariant-loop-at
invariant-loop-at l = record {
  so_far : l.list ++ part_demands l.id (drop l.at l.row) (drop l.at l.parts) ≡ part_demands l.id l.row l.parts;
  within : l.at ≤ length l.row;
}

abbrev pub decreases-loop-at : goal.decreases-loop-at
decreases-loop-at l = length l.row - l.at
