use Rattle.std.proofs.Common.{◌≡◌, drop}
use Rattle.alias_values.proofs.Rows.{values_before}
use Rattle.uniqueness.specs.Held.{helds_of}
use Rattle.alias_operations.specs.Recording.{chosen}
use Rattle.alias_operations.proofs.records.chosen.Given as goal

abbrev pub invariant-loop-i : goal.invariant-loop-i
invariant-loop-i l = chosen (helds_of l.held) l.places ≡ values_before l.made.items (chosen (helds_of l.held) (drop l.i l.places))
