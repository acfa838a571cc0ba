use Rattle.std.proofs.Common.{◌≡◌, drop}
use Rattle.fut_aliases.specs.Stars.{all_either}
use Rattle.alias_values.specs.Trees.{row_of}
use Rattle.alias_values.proofs.Rows.{row_before}
use Rattle.alias_joins.proofs.declared.+either.Given as goal

abbrev pub invariant-all_either-loop-i : goal.invariant-all_either-loop-i
invariant-all_either-loop-i l = all_either (row_of l.parts) (row_of l.others) ≡ row_before l.made.items (all_either (row_of (drop l.i l.parts)) (row_of (drop l.i l.others)))
