use Rattle.std.proofs.Common.{◌≡◌}
use Rattle.fut_sizes.specs.Matching.{Found}
use Rattle.size_slots.specs.Held.{Follows, slot_at}
use Rattle.size_slots.proofs.slots.find.Given as goal

abbrev pub invariant-loop-slot : goal.invariant-loop-slot
invariant-loop-slot l = record {
  is : l.slot ≡ slot_at l.slots l.at;
  same : (σ : Found) → Follows l.slots σ → σ.size l.number ≡ σ.size l.at;
}

abbrev pub decreases-loop-slot : goal.decreases-loop-slot
decreases-loop-slot l = l.at
