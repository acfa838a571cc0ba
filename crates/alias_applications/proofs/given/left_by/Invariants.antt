use Rattle.std.proofs.Common.{◌≡◌, ◌≤◌, drop, length}
use Rattle.fut_aliases.specs.Calls.{left_by}
use Rattle.alias_applications.specs.Givens.{givens_of}
use Rattle.alias_applications.proofs.given.left_by.Given as goal

abbrev pub invariant-arguments : goal.invariant-arguments
invariant-arguments l = (l.set ≡ left_by (givens_of (drop l.i l.all))) × (l.i ≤ length l.all)

abbrev pub decreases-arguments : goal.decreases-arguments
decreases-arguments l = l.i
