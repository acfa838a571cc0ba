use Rattle.std.proofs.Common.{◌≡◌, ◌+◌, ◌-◌, length}
use Rattle.unfold_parts.specs.States.{steps_of}
use Rattle.unfold_parts.proofs.steps.Unfolding.note.Given as goal

abbrev pub invariant-loop-self : goal.invariant-loop-self
invariant-loop-self l = (steps_of l.self ≡ steps_of l.fn.self) × (l.self.next ≡ l.fn.self.next)

abbrev pub decreases-loop-self : goal.decreases-loop-self
decreases-loop-self l = l.at + 1 - length l.self.packing.items
