use Rattle.std.proofs.Common.{length, ◌-◌}
use Rattle.type_rules.specs.Labels.{IsLabels}
use Rattle.typed_programs.proofs.ordered.enter_names.Given as goal

-- the table is well-formed
abbrev pub invariant-loop-at : goal.invariant-loop-at
invariant-loop-at l = IsLabels l.inference.labels l.inference.table

abbrev pub decreases-loop-at : goal.decreases-loop-at
decreases-loop-at l = length l.names - l.at
