use Rattle.std.proofs.Common.{◌≡◌, ◌++◌, drop}
use Rattle.fut_aliases.specs.Values.{all_components}
use Rattle.alias_values.specs.Trees.{values_of}
use Rattle.alias_joins.specs.SetRows.{sets_of}
use Rattle.alias_joins.proofs.uniting.+add_components.Given as goal

abbrev pub invariant-add_all_components-loop-value : goal.invariant-add_all_components-loop-value
invariant-add_all_components-loop-value l = sets_of l.fn.made.items ++ all_components (values_of l.values) ≡ sets_of l.made.items ++ all_components (values_of (drop l.value-index l.values))
