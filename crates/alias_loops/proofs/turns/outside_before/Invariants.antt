use Rattle.std.proofs.Common.{◌≡◌, ◌≤◌, drop, length}
use Rattle.fut_aliases.specs.Aliases.{is_outside, those, union}
use Rattle.alias_loops.proofs.turns.outside_before.Given as goal

abbrev pub invariant-members : goal.invariant-members
invariant-members l = record { all : l.all ≡ union (those (is_outside l.from) (drop l.i l.set)) l.behind; within : l.i ≤ length l.set }

abbrev pub decreases-members : goal.decreases-members
decreases-members l = l.i
