use Rattle.std.specs.Prelude.{ℕ, ◌+◌, ◌-◌, ◌≤◌, length}
use Rattle.alias_sets.proofs.Merging.{Merged_from}
use Rattle.alias_sets.proofs.sets.merged.Given as goal

abbrev pub invariant-both : goal.invariant-both
invariant-both l = Merged_from l.i l.j l.left l.right l.made.items × (l.i ≤ length l.left) × (l.j ≤ length l.right)

abbrev pub decreases-both : goal.decreases-both
decreases-both l = (length l.left - l.i) + (length l.right - l.j)
