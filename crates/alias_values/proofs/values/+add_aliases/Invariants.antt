use Rattle.std.proofs.Common.{◌≡◌, ◌≤◌, drop, length}
use Rattle.fut_aliases.specs.Values.{all_components}
use Rattle.alias_values.specs.Components.{onto}
use Rattle.alias_values.specs.Trees.{values_of}
use Rattle.alias_values.proofs.values.+add_aliases.Given as goal

abbrev pub invariant-add_all_aliases-parts : goal.invariant-add_all_aliases-parts
invariant-add_all_aliases-parts l = (l.all ≡ onto (all_components (values_of (drop l.i l.parts))) l.set) × (l.i ≤ length l.parts)

abbrev pub decreases-add_all_aliases-parts : goal.decreases-add_all_aliases-parts
decreases-add_all_aliases-parts l = l.i
