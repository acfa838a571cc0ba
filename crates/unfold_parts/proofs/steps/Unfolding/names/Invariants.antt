use Rattle.std.proofs.Common.{◌≤◌, ◌-◌, length}
use Rattle.unfold_parts.specs.States.{steps_of}
use Rattle.unfold_parts.proofs.NewNaming.{Names_so_far}
use Rattle.unfold_parts.proofs.steps.Unfolding.names.Given as goal

abbrev pub invariant-loop-self : goal.invariant-loop-self
invariant-loop-self l = (length l.names.items ≤ l.count) × Names_so_far l.fn.self.next l.self.next l.names.items l.knowns.items (steps_of l.fn.self) (steps_of l.self)

abbrev pub decreases-loop-self : goal.decreases-loop-self
decreases-loop-self l = l.count - length l.names.items
