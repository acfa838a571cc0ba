use Rattle.std.proofs.Common.{◌≡◌, drop}
use Rattle.fut_aliases.specs.Operations.{row}
use Rattle.alias_values.proofs.Rows.{values_before}
use Rattle.uniqueness.specs.Held.{helds_of}
use Rattle.alias_operations.proofs.values.row_of.Given as goal

abbrev pub invariant-loop-i : goal.invariant-loop-i
invariant-loop-i l = row (helds_of l.held) ≡ values_before l.made.items (row (helds_of (drop l.i l.held)))
