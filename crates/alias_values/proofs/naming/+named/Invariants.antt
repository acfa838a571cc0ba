use Rattle.std.proofs.Common.{◌≡◌, drop}
use Rattle.fut_aliases.specs.Aliases.{first_name_alone}
use Rattle.fut_aliases.specs.Values.{all_named}
use Rattle.alias_values.specs.Trees.{values_of}
use Rattle.alias_values.proofs.Rows.{values_before}
use Rattle.alias_values.proofs.naming.+named.Given as goal

abbrev pub invariant-all_named-loop-value : goal.invariant-all_named-loop-value
invariant-all_named-loop-value l = all_named first_name_alone l.parameter l.node l.bind l.first (values_of l.values) ≡ values_before l.made.items (all_named first_name_alone l.parameter l.node l.bind l.next (values_of (drop l.value-index l.values)))
