use Rattle.std.proofs.Common.{◌≡◌, drop}
use Rattle.fut_aliases.specs.Values.{all_ascribed}
use Rattle.alias_values.specs.Trees.{row_of, values_of}
use Rattle.alias_values.proofs.Rows.{values_before}
use Rattle.alias_types.proofs.reshaping.+ascribed.Given as goal

abbrev pub invariant-all_ascribed-loop-i : goal.invariant-all_ascribed-loop-i
invariant-all_ascribed-loop-i l = all_ascribed (row_of l.row) (values_of l.values) ≡ values_before l.made.items (all_ascribed (row_of (drop l.i l.row)) (values_of (drop l.i l.values)))
