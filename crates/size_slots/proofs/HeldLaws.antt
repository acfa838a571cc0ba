-- The tables and the substitution, slot by slot.
use Rattle.std.proofs.Common.{◌≡◌, ℕ, zero, suc, ◌<◌, ◌≤◌, List, [], ◌∷◌, ◌++◌, length, Bool, true, false, cond, nat_eq, refl, sym, ap, ◌∙◌, arith, eq-eqb, ne_eqb}
use Rattle.std.specs.Prelude.{slice_set}
use Rattle.std.proofs.lemmas.Bool.{eqb-true, eqb-false}
use Rattle.std.proofs.lemmas.List.{get_or-set_same, get_or-set_other}
use Rattle.fut_types.specs.Types.{Ty}
use Rattle.sized_types.specs.Sizes.{Free, Const, Name, Own, Unknown, Slot, Variable, Open, replaced, renamed}
use Rattle.fut_sizes.specs.Matching as matching
use Rattle.fut_sizes.specs.Matching.{nothing_found, found_size, put, size_found}
use Rattle.size_arena.specs.declared.dims.Free as frees
use Rattle.size_arena.specs.declared.dims.Free.TheVariants as free
use Rattle.size_arena.specs.Trees.{free_of}
use Rattle.size_slots.specs.declared.slots.Found.{Found}
use Rattle.size_slots.specs.declared.slots.Slot as slots
use Rattle.size_slots.specs.declared.slots.Slot.TheVariants as slot
use Rattle.size_slots.specs.Held.{slot_at, Fall, Follows, Sets, chosen_size, maker_of, Holds}
use Rattle.size_slots.proofs.Renaming.{renamed_twice}

abbrev pub Slots : Type 0
Slots = List slots.Slot

-- ---- nothing is found

none_at : (i : ℕ) → slot_at [] i ≡ slot.Open
none_at zero = refl
none_at (suc i) = refl

nothing_ends : (d : Free) → found_size nothing_found d ≡ d
nothing_ends (Const c) = refl
nothing_ends (Name b) = refl
nothing_ends (Own n i) = refl
nothing_ends (Unknown n i) = refl
nothing_ends (Slot i) = refl

open_taken : (d : frees.Free) → slot.Open ≡ slot.Taken d → ⊥
open_taken d e = cc

nothing_open : (m : ℕ) (v : Variable) (u : Ty) → Open m v u ≡ renamed (found_size nothing_found) (Open m v u)
unfolding replaced
nothing_open m v u = refl

pub nothing_held : (f : Found) → f.slots ≡ [] → f.chosen ≡ [] → f.next ≡ 0 → f.makers ≡ [] → Holds f nothing_found
nothing_held f s c n k = record {
  fall = λ i j h. elim (open_taken (free.Slot j) (sym (ap (λ z. slot_at z i) s ∙ none_at i) ∙ h)) [ ];
  sizes = record {
    stays = λ i h. refl;
    taken = λ i d h. elim (open_taken d (sym (ap (λ z. slot_at z i) s ∙ none_at i) ∙ h)) [ ];
    ends = λ i. refl;
  };
  types = λ m v u. nothing_open m v u ∙ ap (λ z. renamed (found_size nothing_found) (chosen_size z m v u)) (sym c);
  next = sym n;
  makers = ap maker_of (sym k);
}

-- ---- slots behind the last are open

pub slots_behind : (s : Slots) (i : ℕ) → length s ≤ i → slot.Open ≡ slot_at s i
slots_behind [] zero l = refl
slots_behind [] (suc i) l = refl
slots_behind (x ∷ s) zero l = absurd (omega arith)
slots_behind (x ∷ s) (suc i) l = slots_behind s i (omega arith)

pub one_more : (s : Slots) (j : ℕ) → slot_at (s ++ slot.Open ∷ []) j ≡ slot_at s j
one_more [] zero = refl
one_more [] (suc j) = refl
one_more (x ∷ s) zero = refl
one_more (x ∷ s) (suc j) = one_more s j

pub as_before : (s t u : Slots) → u ≡ t ++ slot.Open ∷ [] → ((j : ℕ) → slot_at t j ≡ slot_at s j) → (j : ℕ) → slot_at u j ≡ slot_at s j
as_before s t u e h j = ap (λ z. slot_at z j) e ∙ one_more t j ∙ h j

pub slot_set : (s t u : Slots) (i : ℕ) (d : frees.Free) → i < length t → ((j : ℕ) → slot_at t j ≡ slot_at s j) → u ≡ slice_set t i (slot.Taken d) → Sets s i d u
slot_set s t u i d l h e = record {
  here = ap (λ z. slot_at z i) e ∙ get_or-set_same t i (slot.Taken d) slot.Open l;
  there = λ j ne. ap (λ z. slot_at z j) e ∙ get_or-set_other t i j (slot.Taken d) slot.Open ne ∙ h j;
}

pub ruleset set_slots = (as_before, slot_set)

-- ---- a slot takes a size

taken_is : (d e : frees.Free) → slot.Taken d ≡ slot.Taken e → d ≡ e
taken_is d e h = cc

module _ (s t : Slots) (σ : matching.Found) (i : ℕ) (d : frees.Free) (f : Follows s σ) (stays : σ.size i ≡ Slot i) (fixed : found_size σ (free_of d) ≡ free_of d) (below : (j : ℕ) → free_of d ≡ Slot j → j < i) (x : Sets s i d t) where
  put_slot : (j : ℕ) (b : Bool) → nat_eq i j ≡ b → put i (free_of d) (Slot j) ≡ cond b (free_of d) (Slot j)
  put_slot j b h = ap (λ z. cond z (free_of d) (Slot j)) h

  put_through : (e : Free) → put i (free_of d) (found_size σ e) ≡ found_size (size_found i (free_of d) σ) e
  put_through (Const c) = refl
  put_through (Name b) = refl
  put_through (Own n k) = refl
  put_through (Unknown n k) = refl
  put_through (Slot k) = refl

  put_other : (e : Free) → ((j : ℕ) → e ≡ Slot j → j < i) → put i (free_of d) e ≡ e
  put_other (Const c) l = refl
  put_other (Name b) l = refl
  put_other (Own n k) l = refl
  put_other (Unknown n k) l = refl
  put_other (Slot j) l = put_slot j false (ne_eqb i j (λ e. let k : j < i = l j refl in omega (arith, k, e)))

  settled : found_size (size_found i (free_of d) σ) (free_of d) ≡ free_of d
  settled = sym (put_through (free_of d)) ∙ ap (put i (free_of d)) fixed ∙ put_other (free_of d) below

  ends_put : (e : Free) → found_size σ e ≡ e → found_size (size_found i (free_of d) σ) (put i (free_of d) e) ≡ put i (free_of d) e
  ends_put (Const c) h = refl
  ends_put (Name b) h = refl
  ends_put (Own n k) h = refl
  ends_put (Unknown n k) h = refl
  ends_put (Slot j) h = go (nat_eq i j) refl
    where
      go : (b : Bool) → nat_eq i j ≡ b → found_size (size_found i (free_of d) σ) (put i (free_of d) (Slot j)) ≡ put i (free_of d) (Slot j)
      go true e = ap (found_size (size_found i (free_of d) σ)) (put_slot j true e) ∙ settled ∙ sym (put_slot j true e)
      go false e = ap (found_size (size_found i (free_of d) σ)) (put_slot j false e) ∙ ap (put i (free_of d)) h

  stays_put : (k : ℕ) (b : Bool) → nat_eq k i ≡ b → slot_at t k ≡ slot.Open → put i (free_of d) (σ.size k) ≡ Slot k
  stays_put k true e h = elim (open_taken d (sym h ∙ ap (slot_at t) (eqb-true k i e) ∙ x.here)) [ ]
  stays_put k false e h = ap (put i (free_of d)) (f.stays k (sym (x.there k (eqb-false k i e)) ∙ h)) ∙ put_slot k false (ne_eqb i k (λ q. eqb-false k i e (sym q)))

  taken_put : (k : ℕ) (b : Bool) (c : frees.Free) → nat_eq k i ≡ b → slot_at t k ≡ slot.Taken c → put i (free_of d) (σ.size k) ≡ found_size (size_found i (free_of d) σ) (free_of c)
  taken_put k true c e h =
      let is : d ≡ c = taken_is d c (sym x.here ∙ ap (slot_at t) (sym (eqb-true k i e)) ∙ h) in
      ap (λ z. put i (free_of d) (σ.size z)) (eqb-true k i e) ∙ ap (put i (free_of d)) stays ∙ put_slot i true (eq-eqb i i refl) ∙ sym settled ∙ ap (λ z. found_size (size_found i (free_of d) σ) (free_of z)) is
  taken_put k false c e h = ap (put i (free_of d)) (f.taken k c (sym (x.there k (eqb-false k i e)) ∙ h)) ∙ put_through (free_of c)

  pub follows_put : Follows t (size_found i (free_of d) σ)
  follows_put = record {
    stays = λ k h. stays_put k (nat_eq k i) refl h;
    taken = λ k c h. taken_put k (nat_eq k i) c refl h;
    ends = λ k. ends_put (σ.size k) (f.ends k);
  }

  fall_put : Fall s → (k j : ℕ) (b : Bool) → nat_eq k i ≡ b → slot_at t k ≡ slot.Taken (free.Slot j) → j < k
  fall_put l k j true e h = let is : d ≡ free.Slot j = taken_is d (free.Slot j) (sym x.here ∙ ap (slot_at t) (sym (eqb-true k i e)) ∙ h) in let q : k ≡ i = eqb-true k i e in let m : j < i = below j (ap free_of is) in omega (arith, q, m)
  fall_put l k j false e h = l k j (sym (x.there k (eqb-false k i e)) ∙ h)

  pub falls : Fall s → Fall t
  falls l k j h = fall_put l k j (nat_eq k i) refl h

-- a table whose slot took a size
pub holds_put : (g h : Found) (σ : matching.Found) (i : ℕ) (d : frees.Free) → Holds g σ → σ.size i ≡ Slot i → found_size σ (free_of d) ≡ free_of d → ((j : ℕ) → free_of d ≡ Slot j → j < i) → Sets g.slots i d h.slots → h.chosen ≡ g.chosen → h.next ≡ g.next → h.makers ≡ g.makers
    → Holds h (size_found i (free_of d) σ)
holds_put g h σ i d held stays fixed below x c n k = record {
  fall = falls g.slots h.slots σ i d held.sizes stays fixed below x held.fall;
  sizes = follows_put g.slots h.slots σ i d held.sizes stays fixed below x;
  types = λ m v u. ap (renamed (put i (free_of d))) (held.types m v u) ∙ renamed_twice (put i (free_of d)) (found_size σ) (found_size (size_found i (free_of d) σ)) (put_through g.slots h.slots σ i d held.sizes stays fixed below x) (chosen_size g.chosen m v u)
      ∙ ap (λ z. renamed (found_size (size_found i (free_of d) σ)) (chosen_size z m v u)) (sym c);
  next = held.next ∙ sym n;
  makers = held.makers ∙ ap maker_of (sym k);
}

-- ---- links are followed

module _ (s : Slots) (at : ℕ) (σ : matching.Found) (f : Follows s σ) where
  pub link_followed : (x : slots.Slot) (next : ℕ) → x ≡ slot_at s at → x ≡ slot.Taken (free.Slot next) → σ.size at ≡ σ.size next
  link_followed x next is taken = f.taken at (free.Slot next) (sym is ∙ taken)

  pub link_open : (x : slots.Slot) → x ≡ slot_at s at → x ≡ slot.Open → Slot at ≡ σ.size at
  link_open x is stays = sym (f.stays at (sym is ∙ stays))

  pub link_taken : (x : slots.Slot) (d : frees.Free) → x ≡ slot_at s at → x ≡ slot.Taken d → ((next : ℕ) → d ≡ free.Slot next → ⊥) → free_of d ≡ σ.size at
  link_taken x d is taken never = sym (f.taken at d (sym is ∙ taken) ∙ ends d never)
    where
      ends : (d : frees.Free) → ((next : ℕ) → d ≡ free.Slot next → ⊥) → found_size σ (free_of d) ≡ free_of d
      ends (free.Const c) never = refl
      ends (free.Name b) never = refl
      ends (free.Own n i) never = refl
      ends (free.Unknown n i) never = refl
      ends (free.Slot i) never = elim (never i refl) [ ]

pub ruleset finds = (link_followed, link_open, link_taken)
