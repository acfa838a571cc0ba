-- What the tables of an application hold of the definition's substitution.
use Rattle.std.specs.Prelude.{◌≡◌, ◌&&◌, ℕ, ◌<◌, Bool, cond, nat_lt, List, [], ◌∷◌, Option, Some, None, Result, Ok, Err, slice_index_or}
use Rattle.std.specs.Borrow.{Bor}
use Rattle.fut_types.specs.Types.{Ty}
use Rattle.sized_types.specs.Sizes.{Free, Slot, Variable, Size, Open, renamed, has}
use Rattle.fut_sizes.specs.Agreeing.{Answer, Irregular}
use Rattle.fut_sizes.specs.Matching as matching
use Rattle.fut_sizes.specs.Matching.{found_size, is_open, is_unknown, type_found, with_any_sizes}
use Rattle.size_arena.specs.declared.agreeing.Refusal.{Refusal}
use Rattle.size_arena.specs.declared.agreeing.SizeErr.{SizeErr}
use Rattle.size_arena.specs.declared.agreeing.SizeErr.TheVariants as size_err
use Rattle.size_arena.specs.declared.dims.Free as frees
use Rattle.size_arena.specs.declared.dims.Free.TheVariants as free
use Rattle.size_arena.specs.declared.trees.SizeTree.{SizeTree}
use Rattle.size_arena.specs.Answers.{refusal_of}
use Rattle.size_arena.specs.Trees.{free_of, variable_of, size_of}
use Rattle.size_slots.specs.declared.meeting.Way as ways
use Rattle.size_slots.specs.declared.slots.Chosen.{Chosen}
use Rattle.size_slots.specs.declared.slots.Found.{Found}
use Rattle.size_slots.specs.declared.slots.Maker.{Maker}
use Rattle.size_slots.specs.declared.slots.Slot as slots
use Rattle.size_slots.specs.declared.slots.Slot.TheVariants as slot

abbrev pub way_of : ways.Way → matching.Way
way_of w = record { left_wanted = w.left_wanted; in_result = w.in_result; regular = w.regular }

-- ---- slots

abbrev pub slot_at : List slots.Slot → ℕ → slots.Slot
slot_at s i = slice_index_or s i slot.Open

-- links lead to smaller numbers
abbrev pub Fall : List slots.Slot → Type 0
Fall s = (i j : ℕ) → slot_at s i ≡ slot.Taken (free.Slot j) → j < i

-- slots stand for what the substitution gives, which it leaves as it is
pub record Follows (s : List slots.Slot) (σ : matching.Found) : Type 0 where
  pub stays : (i : ℕ) → slot_at s i ≡ slot.Open → σ.size i ≡ Slot i
  pub taken : (i : ℕ) (d : frees.Free) → slot_at s i ≡ slot.Taken d → σ.size i ≡ found_size σ (free_of d)
  pub ends : (i : ℕ) → found_size σ (σ.size i) ≡ σ.size i

-- one more slot stands for a size, and all others for what they did
pub record Sets (s : List slots.Slot) (i : ℕ) (d : frees.Free) (t : List slots.Slot) : Type 0 where
  pub here : slot_at t i ≡ slot.Taken d
  pub there : (j : ℕ) → (j ≡ i → ⊥) → slot_at t j ≡ slot_at s j

-- whether a size is a slot, and which
pub data Is_slot (d : Free) : Option ℕ → Type 0 where
  the_slot : {i : ℕ} → d ≡ Slot i → Is_slot d (Some i)
  no_slot : ((i : ℕ) → d ≡ Slot i → ⊥) → Is_slot d None

-- ---- open variables

-- what a variable of the use at n took, and if it took nothing this
abbrev pub chosen_or : List Chosen → ℕ → Variable → Size → Size
chosen_or [] n v t = t
chosen_or (c ∷ cs) n v t = cond (is_open c.node (variable_of c.variable) n v) (size_of c.size.now) (chosen_or cs n v t)

abbrev pub chosen_size : List Chosen → ℕ → Variable → Ty → Size
chosen_size cs n v u = chosen_or cs n v (Open n v u)

-- all that is taken is changed, and what is taken for nothing
abbrev pub Filled : List Chosen → (Size → Size) → List Chosen → Type 0
Filled cs fill ds = (n : ℕ) (v : Variable) (t : Size) → chosen_or ds n v (fill t) ≡ fill (chosen_or cs n v t)

-- what an open variable of the use at n took, if it took something
pub data Choice (cs : List Chosen) (n : ℕ) (v : Variable) : Option (Bor SizeTree) → Type 0 where
  chosen : {t : Bor SizeTree} → ((u : Ty) → chosen_size cs n v u ≡ size_of t.now) → Choice cs n v (Some t)
  unchosen : ((u : Ty) → chosen_size cs n v u ≡ Open n v u) → Choice cs n v None

-- ---- makers

-- as before, but from a number on by another node
abbrev pub since : (ℕ → ℕ) → Maker → ℕ → ℕ
since maker m i = cond (nat_lt i m.first) (maker i) m.node

abbrev pub makers_since : (ℕ → ℕ) → List Maker → ℕ → ℕ
makers_since maker [] = maker
makers_since maker (m ∷ ms) = makers_since (since maker m) ms

abbrev pub maker_of : List Maker → ℕ → ℕ
maker_of = makers_since (λ i. 0)

-- ---- all

pub record Holds (f : Found) (σ : matching.Found) : Type 0 where
  pub fall : Fall f.slots
  pub sizes : Follows f.slots σ
  pub types : (n : ℕ) (v : Variable) (u : Ty) → σ.type n v u ≡ renamed (found_size σ) (chosen_size f.chosen n v u)
  pub next : σ.next ≡ f.next
  pub makers : σ.maker ≡ maker_of f.makers

-- a table that holds some substitution
abbrev pub Held : Found → Type 0
Held f = (σ : matching.Found) × Holds f σ

-- what is found behind a step of matching, or its refusal; memory may run out
pub data Met (a : Answer matching.Found) (new : Found) : Result (Unit {0}) SizeErr → Type 0 where
  met : (σ : matching.Found) → a ≡ Ok σ → Holds new σ → Met a new (Ok tt)
  unmet : {e : Refusal} → a ≡ Err (refusal_of e) → Met a new (Err (size_err.Refused e))
  no_memory_met : Met a new (Err size_err.Memory)

-- what an open variable makes of a sized type that is no variable
abbrev pub takes_formed : Bool → matching.Way → ℕ → ℕ → Variable → Size → matching.Found → Answer matching.Found
takes_formed wanted w at n v t σ = cond (wanted && (w.in_result && has is_unknown t)) (Err (Irregular at)) (Ok (type_found n v (with_any_sizes σ t) σ))
