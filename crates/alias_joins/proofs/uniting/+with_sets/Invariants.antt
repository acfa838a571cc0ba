use Rattle.std.proofs.Common.{◌≡◌, drop}
use Rattle.fut_aliases.specs.Values.{all_with_sets, nth}
use Rattle.alias_values.specs.Trees.{values_of}
use Rattle.alias_values.proofs.Rows.{values_before}
use Rattle.alias_joins.specs.SetRows.{sets_of}
use Rattle.alias_joins.proofs.uniting.+with_sets.Given as goal

abbrev pub invariant-all_with_sets-loop-value : goal.invariant-all_with_sets-loop-value
invariant-all_with_sets-loop-value l = all_with_sets (λ i s. nth (sets_of l.sets) i) l.first (values_of l.values) ≡ values_before l.made.items (all_with_sets (λ i s. nth (sets_of l.sets) i) l.next (values_of (drop l.value-index l.values)))
