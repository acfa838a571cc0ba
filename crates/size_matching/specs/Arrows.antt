-- Function types that meet.
use Rattle.std.specs.Prelude.{◌≡◌, ℕ, ◌+◌, Bool, true, false, Result, Ok, Err}
use Rattle.sized_types.specs.Sizes.{Size}
use Rattle.fut_sizes.specs.Matching.{Way, frame_numbers, left_frame, right_frame}
use Rattle.size_arena.specs.declared.agreeing.Refusal.TheVariants as refusal
use Rattle.size_arena.specs.declared.agreeing.SizeErr.{SizeErr}
use Rattle.size_arena.specs.declared.agreeing.SizeErr.TheVariants as size_err
use Rattle.size_arena.specs.Frames.{frame_of}
use Rattle.size_slots.specs.declared.slots.Found.{Found}
use Rattle.size_matching.specs.declared.opening.Sides.{Sides}

-- two function types whose callers choose k and l sizes, and which give r and s, are opened: their positions take the next numbers
pub data Opens (w : Way) (lo k l : ℕ) (r s : Size) (old new : Found) : Result Sides SizeErr → Type 0 where
  opens : {both : Sides} → frame_of both.left ≡ left_frame w lo old.next k l s → frame_of both.right ≡ right_frame w lo old.next k l r → new.slots ≡ old.slots → new.chosen ≡ old.chosen → new.next ≡ frame_numbers k l r s + old.next → new.makers ≡ old.makers → Opens w lo k l r s old new (Ok both)
  no_memory_opens : Opens w lo k l r s old new (Err size_err.Memory)

-- whether what a found function gives is refused; memory may run out
pub data Checks (at : ℕ) (irregular : Bool) : Result (Unit {0}) SizeErr → Type 0 where
  regular : irregular ≡ false → Checks at irregular (Ok tt)
  refused : irregular ≡ true → Checks at irregular (Err (size_err.Refused (refusal.Irregular at)))
  no_memory_checks : Checks at irregular (Err size_err.Memory)
