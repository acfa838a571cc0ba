use Rattle.std.specs.Prelude.{ℕ, ◌-◌, ◌≤◌, length}
use Rattle.alias_sets.proofs.Merging.{Within_from}
use Rattle.alias_sets.proofs.sets.holds_all.Given as goal

abbrev pub invariant-others : goal.invariant-others
invariant-others l = Within_from l.i l.j l.set l.others × (l.i ≤ length l.set)

abbrev pub decreases-others : goal.decreases-others
decreases-others l = length l.set - l.i
