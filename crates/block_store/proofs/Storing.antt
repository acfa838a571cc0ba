-- Blocks in the slots of a store.
use Rattle.std.proofs.Common.{◌≡◌, ℕ, zero, suc, ◌+◌, ◌<◌, ◌≤◌, List, [], ◌∷◌, ◌++◌, map, length, get_or, set, arith, refl, sym, ap, ◌∙◌, subst}
use Rattle.std.specs.Prelude.{Option, Some, None, slice_get}
use Rattle.std.proofs.lemmas.List.{get_or-map}
use Rattle.block_store.specs.declared.slots.Slot.{Slot}
use Rattle.block_store.specs.declared.slots.Slot.TheVariants as slot
use Rattle.block_store.specs.Blocks.{Block, In, Out, Free, block_at, placed, words_in}
use Rattle.block_store.specs.Slots.{block_of, blocks_of}

pub block_is : (slots : List Slot) (at : ℕ) (s : Slot) → at < length slots → s ≡ get_or slots at s → block_at (blocks_of slots) at ≡ block_of s
block_is slots at s l e = get_or-map block_of slots at s Free l ∙ ap block_of (sym e)

pub got : (slots : List Slot) (at : ℕ) (s : Slot) → slice_get slots at ≡ Some s → (at < length slots) × (block_at (blocks_of slots) at ≡ block_of s)
got [] at s e = absurd (cc)
got (x ∷ xs) zero s e = (omega arith, ap block_of (let h : x ≡ s = cc in h))
got (x ∷ xs) (suc at) s e = let r = got xs at s e in (omega (arith, r.0), r.1)

pub not_got : (slots : List Slot) (at : ℕ) → slice_get slots at ≡ None → block_at (blocks_of slots) at ≡ Free
not_got [] at e = refl
not_got (x ∷ xs) zero e = absurd (cc)
not_got (x ∷ xs) (suc at) e = not_got xs at e

pub slot_put : (slots : List Slot) (at : ℕ) (s : Slot) → at < length slots → blocks_of (set slots at s) ≡ placed (blocks_of slots) at (block_of s)
slot_put [] at s l = absurd (omega (arith, l))
slot_put (x ∷ xs) zero s l = refl
slot_put (x ∷ xs) (suc at) s l = ap (λ z. block_of x ∷ z) (slot_put xs at s (omega (arith, l)))

pub slot_pushed : (slots : List Slot) (s : Slot) → blocks_of (slots ++ s ∷ []) ≡ placed (blocks_of slots) (length slots) (block_of s)
slot_pushed [] s = refl
slot_pushed (x ∷ xs) s = ap (λ z. block_of x ∷ z) (slot_pushed xs s)

pub free_behind : (slots : List Slot) → block_at (blocks_of slots) (length slots) ≡ Free
free_behind [] = refl
free_behind (x ∷ xs) = free_behind xs

-- a block with words has its slot
pub has_slot : (slots : List Slot) (at place : ℕ) → place < length (words_in (block_at (blocks_of slots) at)) → at < length slots
has_slot [] at place l = absurd (omega (arith, l))
has_slot (x ∷ xs) zero place l = omega arith
has_slot (x ∷ xs) (suc at) place l = let h = has_slot xs at place l in omega (arith, h)

pub has_slot_in : (slots : List Slot) (at : ℕ) (words : List ℕ) → block_at (blocks_of slots) at ≡ In words → at < length slots
has_slot_in [] at words e = absurd (cc)
has_slot_in (x ∷ xs) zero words e = omega arith
has_slot_in (x ∷ xs) (suc at) words e = let h = has_slot_in xs at words e in omega (arith, h)

pub has_slot_out : (slots : List Slot) (at count : ℕ) → block_at (blocks_of slots) at ≡ Out count → at < length slots
has_slot_out [] at count e = absurd (cc)
has_slot_out (x ∷ xs) zero count e = omega arith
has_slot_out (x ∷ xs) (suc at) count e = let h = has_slot_out xs at count e in omega (arith, h)

pub ruleset storing = (got, not_got, slot_put, slot_pushed, free_behind, has_slot, has_slot_in, has_slot_out, block_is)
