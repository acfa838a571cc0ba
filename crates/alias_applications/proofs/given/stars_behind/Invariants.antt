use Rattle.std.proofs.Common.{◌≡◌, drop}
use Rattle.fut_aliases.specs.Calls.{stars_behind}
use Rattle.alias_values.specs.Trees.{stars_of}
use Rattle.uniqueness.specs.Held.{helds_of}
use Rattle.alias_applications.proofs.given.stars_behind.Given as goal

abbrev pub invariant-loop-i : goal.invariant-loop-i
invariant-loop-i l = stars_behind (helds_of l.arguments) (stars_of l.stars) ≡ stars_behind (helds_of (drop l._i l.arguments)) (stars_of l.rest)
