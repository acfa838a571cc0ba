use Rattle.std.proofs.Common.{◌≤◌, drop, length}
use Rattle.unfold_parts.specs.States.{steps_of}
use Rattle.unfold_parts.proofs.Equating.{Held_so_far}
use Rattle.unfold_parts.proofs.equality.all_hold.Given as goal

abbrev pub invariant-loop-at : goal.invariant-loop-at
invariant-loop-at l = (l.at ≤ length l.truths) × Held_so_far (drop l.at l.truths) l.fn.work.next l.work.next (steps_of l.fn.work) (steps_of l.work) l.all

abbrev pub decreases-loop-at : goal.decreases-loop-at
decreases-loop-at l = l.at
