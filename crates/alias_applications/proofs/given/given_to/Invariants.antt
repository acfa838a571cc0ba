use Rattle.std.proofs.Common.{◌≡◌, ◌≤◌, drop, length}
use Rattle.fut_aliases.specs.Calls.{given_to}
use Rattle.uniqueness.specs.Held.{helds_of}
use Rattle.alias_applications.proofs.given.given_to.Given as goal

abbrev pub invariant-arguments : goal.invariant-arguments
invariant-arguments l = (l.set ≡ given_to (helds_of (drop l.i l.arguments))) × (l.i ≤ length l.arguments)

abbrev pub decreases-arguments : goal.decreases-arguments
decreases-arguments l = l.i
