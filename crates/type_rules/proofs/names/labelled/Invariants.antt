use Rattle.std.proofs.Common.{◌≤◌, ◌-◌, length, take}
use Rattle.fut_flat.specs.Erased.{texts}
use Rattle.type_rules.specs.Labels.{Goes_on, IsLabels}
use Rattle.type_rules.specs.Fields.{Numbered}
use Rattle.type_rules.proofs.names.labelled.Given as goal

abbrev pub invariant-loop-at : goal.invariant-loop-at
invariant-loop-at l = record {
  is : IsLabels l.labels l.table;
  on : Goes_on l.fn.labels l.fn.table l.labels l.table;
  so_far : Numbered l.labels (take l.at (texts l.names)) l.row;
  within : l.at ≤ length l.names;
}

abbrev pub decreases-loop-at : goal.decreases-loop-at
decreases-loop-at l = length l.names - l.at
