use Rattle.std.proofs.Common.{◌≡◌, ◌++◌, drop}
use Rattle.fut_aliases.specs.Calls.{sides}
use Rattle.fut_aliases.specs.Values.{all_starred}
use Rattle.alias_calls.specs.Sides.{sides_of}
use Rattle.alias_joins.specs.SetRows.{sets_of}
use Rattle.alias_applications.proofs.sides.add_whole.Given as goal

abbrev pub invariant-loop-i : goal.invariant-loop-i
invariant-loop-i l = sides_of l.fn.made.items ++ sides l.node (all_starred l.starred (sets_of l.sets)) ≡ sides_of l.made.items ++ sides l.node (all_starred l.starred (sets_of (drop l.i l.sets)))
