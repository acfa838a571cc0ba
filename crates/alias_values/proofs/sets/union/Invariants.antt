use Rattle.std.proofs.Common.{◌≡◌, ◌≤◌, drop, length}
use Rattle.fut_aliases.specs.Aliases.{union}
use Rattle.alias_values.proofs.sets.union.Given as goal

abbrev pub invariant-members : goal.invariant-members
invariant-members l = (l.all ≡ union (drop l.i l.left) l.right) × (l.i ≤ length l.left)

abbrev pub decreases-members : goal.decreases-members
decreases-members l = l.i
