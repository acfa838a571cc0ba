use Rattle.std.proofs.Common.{◌≡◌, ◌++◌, drop}
use Rattle.fut_aliases.specs.Calls.{given}
use Rattle.alias_values.specs.Trees.{stars_of}
use Rattle.uniqueness.specs.Held.{helds_of}
use Rattle.alias_applications.specs.Givens.{givens_of}
use Rattle.alias_applications.proofs.given.all_given.Given as goal

abbrev pub invariant-loop-i : goal.invariant-loop-i
invariant-loop-i l = given (helds_of l.arguments) (stars_of l.stars) ≡ givens_of l.all.items ++ given (helds_of (drop l.i l.arguments)) (stars_of l.rest.stars.now)
