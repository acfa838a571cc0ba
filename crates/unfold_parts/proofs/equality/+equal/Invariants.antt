use Rattle.std.proofs.Common.{◌≡◌, ◌+◌, ◌-◌, ◌*◌}
use Rattle.unfold.specs.Held.{known_of}
use Rattle.unfold_parts.specs.States.{steps_of}
use Rattle.unfold_parts.proofs.Equating.{So_far}
use Rattle.unfold_parts.proofs.equality.+equal.Given as goal

abbrev pub decreases-equal : goal.decreases-equal
decreases-equal l = 2 * (1001 - l.deep)

abbrev pub decreases-equal_all : goal.decreases-equal_all
decreases-equal_all l = 2 * (1001 - l.deep) + 1

abbrev pub invariant-equal_all-loop-left : goal.invariant-equal_all-loop-left
invariant-equal_all-loop-left l = (l.left-index ≡ l.at) × So_far known_of l.place l.lefts l.rights l.fn.work.next l.left-index l.at l.work.next (steps_of l.fn.work) (steps_of l.work) l.truths.items
