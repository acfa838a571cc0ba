use Rattle.std.proofs.Common.{◌≡◌, drop}
use Rattle.fut_aliases.specs.Values.{all_functions}
use Rattle.alias_values.specs.Trees.{values_of}
use Rattle.alias_values.proofs.Rows.{row_before}
use Rattle.alias_types.proofs.reshaping.+functions.Given as goal

abbrev pub invariant-all_functions-loop-value : goal.invariant-all_functions-loop-value
invariant-all_functions-loop-value l = all_functions (values_of l.values) ≡ row_before l.made.items (all_functions (values_of (drop l.value-index l.values)))
