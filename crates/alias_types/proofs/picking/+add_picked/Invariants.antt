use Rattle.std.proofs.Common.{◌≡◌, ◌≤◌, drop, length}
use Rattle.fut_aliases.specs.Values.{all_starring}
use Rattle.alias_types.specs.Picked.{those_onto}
use Rattle.alias_values.specs.Trees.{row_of, values_of}
use Rattle.alias_types.proofs.picking.+add_picked.Given as goal

abbrev pub invariant-add_all_picked-parts : goal.invariant-add_all_picked-parts
invariant-add_all_picked-parts l = (l.all ≡ those_onto l.starred (all_starring (row_of (drop l.i l.row)) (values_of (drop l.i l.values))) l.set) × (l.i ≤ length l.row) × (l.i ≤ length l.values)

abbrev pub decreases-add_all_picked-parts : goal.decreases-add_all_picked-parts
decreases-add_all_picked-parts l = l.i
