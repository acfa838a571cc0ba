use Rattle.std.proofs.Common.{◌≡◌, drop}
use Rattle.fut_aliases.specs.Values.{of_types}
use Rattle.alias_types.specs.Kinds.{kinds_of}
use Rattle.alias_values.specs.Trees.{types_of}
use Rattle.alias_values.proofs.Rows.{values_before}
use Rattle.alias_types.proofs.making.+of_type.Given as goal

abbrev pub invariant-of_types-loop-ty : goal.invariant-of_types-loop-ty
invariant-of_types-loop-ty l = of_types (kinds_of l.kinds) l.set (types_of l.types) ≡ values_before l.made.items (of_types (kinds_of l.kinds) l.set (types_of (drop l.ty-index l.types)))
