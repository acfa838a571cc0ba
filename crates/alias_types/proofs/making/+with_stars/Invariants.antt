use Rattle.std.proofs.Common.{◌≡◌, drop}
use Rattle.fut_aliases.specs.Values.{all_with_stars}
use Rattle.alias_types.specs.Kinds.{kinds_of}
use Rattle.alias_values.specs.Trees.{row_of, types_of}
use Rattle.alias_values.proofs.Rows.{values_before}
use Rattle.alias_types.proofs.making.+with_stars.Given as goal

abbrev pub invariant-all_with_stars-loop-i : goal.invariant-all_with_stars-loop-i
invariant-all_with_stars-loop-i l = all_with_stars (kinds_of l.kinds) l.set (row_of l.row) (types_of l.types) ≡ values_before l.made.items (all_with_stars (kinds_of l.kinds) l.set (row_of (drop l.i l.row)) (types_of (drop l.i l.types)))
