use Rattle.std.proofs.Common.{◌≡◌, ℕ, ◌-◌, ◌+◌, length}
use Rattle.size_slots.specs.Held.{slot_at}
use Rattle.size_slots.proofs.slots.set_slot.Given as goal

abbrev pub invariant-loop-slots : goal.invariant-loop-slots
invariant-loop-slots l = (j : ℕ) → slot_at l.slots j ≡ slot_at l.fn.slots j

abbrev pub decreases-loop-slots : goal.decreases-loop-slots
decreases-loop-slots l = (l.at + 1) - length l.slots
