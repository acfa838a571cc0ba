use Rattle.std.proofs.Common.{◌≡◌, ◌++◌, drop}
use Rattle.fut_aliases.specs.Calls.{sides}
use Rattle.fut_aliases.specs.Values.{all_starring}
use Rattle.alias_calls.specs.Sides.{sides_of}
use Rattle.alias_values.specs.Trees.{row_of, values_of}
use Rattle.alias_applications.proofs.sides.+add_sides.Given as goal

abbrev pub invariant-add_all_sides-loop-i : goal.invariant-add_all_sides-loop-i
invariant-add_all_sides-loop-i l = sides_of l.fn.made.items ++ sides l.node (all_starring (row_of l.row) (values_of l.values)) ≡ sides_of l.made.items ++ sides l.node (all_starring (row_of (drop l.i l.row)) (values_of (drop l.i l.values)))
