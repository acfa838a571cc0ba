use Rattle.std.proofs.Common.{◌≡◌, drop}
use Rattle.fut_aliases.specs.Values.{all_at_type}
use Rattle.alias_types.specs.Kinds.{kinds_of}
use Rattle.alias_values.specs.Trees.{types_of, values_of}
use Rattle.alias_values.proofs.Rows.{values_before}
use Rattle.alias_types.proofs.reshaping.+at_type.Given as goal

abbrev pub invariant-all_at_type-loop-i : goal.invariant-all_at_type-loop-i
invariant-all_at_type-loop-i l = all_at_type (kinds_of l.kinds) (types_of l.types) (values_of l.values) ≡ values_before l.made.items (all_at_type (kinds_of l.kinds) (types_of (drop l.i l.types)) (values_of (drop l.i l.values)))
