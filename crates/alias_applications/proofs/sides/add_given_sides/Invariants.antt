use Rattle.std.proofs.Common.{◌≡◌, ◌++◌, drop}
use Rattle.fut_aliases.specs.Calls.{given_sides}
use Rattle.alias_calls.specs.Sides.{sides_of}
use Rattle.alias_applications.specs.Givens.{givens_of}
use Rattle.alias_applications.proofs.sides.add_given_sides.Given as goal

abbrev pub invariant-loop-i : goal.invariant-loop-i
invariant-loop-i l = sides_of l.fn.made.items ++ given_sides (givens_of l.all) ≡ sides_of l.made.items ++ given_sides (givens_of (drop l.i l.all))
