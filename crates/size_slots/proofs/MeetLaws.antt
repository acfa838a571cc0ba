-- A size that is wanted meets one that is found.
use Rattle.std.proofs.Common.{◌≡◌, ℕ, ◌<◌, ◌≤◌, List, Bool, true, false, cond, nat_eq, nat_lt, Some, None, Result, Ok, Err, refl, sym, ap, ◌∙◌, subst, arith, eq-eqb, ne_eqb, lt-ltb, le-ltb}
use Rattle.std.specs.Prelude.{◌&&◌}
use Rattle.sized_types.specs.Sizes.{Free, Const, Name, Own, Unknown, Slot, Dim, At, Bound, is_free}
use Rattle.fut_sizes.specs.Agreeing.{Mismatch, Irregular}
use Rattle.fut_sizes.specs.Matching as matching
use Rattle.fut_sizes.specs.Matching.{found_size, size_found, linked, is_unknown, slot_takes, meet_size, meet_dim, meet_dims}
use Rattle.size_arena.specs.declared.agreeing.Refusal.TheVariants as refusal
use Rattle.size_arena.specs.declared.agreeing.SizeErr.{SizeErr}
use Rattle.size_arena.specs.declared.agreeing.SizeErr.TheVariants as size_err
use Rattle.size_arena.specs.declared.dims.Dim.TheVariants as dim
use Rattle.size_arena.specs.declared.dims.Free as frees
use Rattle.size_arena.specs.declared.dims.Free.TheVariants as free
use Rattle.size_arena.specs.Trees.{free_of}
use Rattle.size_slots.specs.declared.slots.Found.{Found}
use Rattle.size_slots.specs.declared.slots.Slot as slots
use Rattle.size_slots.specs.Held.{Follows, Sets, Holds, Is_slot, the_slot, no_slot, Met, met, unmet}
use Rattle.size_slots.proofs.HeldLaws.{holds_put}

-- ---- which slot

pub slot_const : (c : ℕ) → Is_slot (Const c) None
slot_const c = no_slot (λ i e. cc)

pub slot_name : (b : ℕ) → Is_slot (Name b) None
slot_name b = no_slot (λ i e. cc)

pub slot_own : (n k : ℕ) → Is_slot (Own n k) None
slot_own n k = no_slot (λ i e. cc)

pub slot_unknown : (n k : ℕ) → Is_slot (Unknown n k) None
slot_unknown n k = no_slot (λ i e. cc)

pub slot_slot : (i : ℕ) → Is_slot (Slot i) (Some i)
slot_slot i = the_slot refl

pub ruleset which_slot = (slot_const, slot_name, slot_own, slot_unknown, slot_slot)

-- ---- a slot takes a size

pub slot_taken : (g h : Found) (i : ℕ) (d : frees.Free) (σ : matching.Found) → ((j : ℕ) → free_of d ≡ Slot j → j < i) → Sets g.slots i d h.slots → h.chosen ≡ g.chosen → h.next ≡ g.next → h.makers ≡ g.makers
    → Holds g σ → σ.size i ≡ Slot i → found_size σ (free_of d) ≡ free_of d → Met (Ok (size_found i (free_of d) σ)) h (Ok tt)
slot_taken g h i d σ below x c n k held stays fixed = met (size_found i (free_of d) σ) refl (holds_put g h σ i d held stays fixed below x c n k)

-- ---- two slots become one

abbrev pub Told : Type 0
Told = Result (Unit {0}) SizeErr

module _ (g h : Found) (i j : ℕ) where
  linked_by : (b c : Bool) (σ : matching.Found) → nat_eq i j ≡ b → nat_lt i j ≡ c → linked i j σ ≡ cond b σ (cond c (size_found j (Slot i) σ) (size_found i (Slot j) σ))
  linked_by b c σ p q = ap (λ z. cond z σ (cond (nat_lt i j) (size_found j (Slot i) σ) (size_found i (Slot j) σ))) p ∙ ap (λ z. cond b σ (cond z (size_found j (Slot i) σ) (size_found i (Slot j) σ))) q

  pub links_same : i ≡ j → (σ : matching.Found) → Holds g σ → σ.size i ≡ Slot i → σ.size j ≡ Slot j → Met (Ok (linked i j σ)) g (Ok tt)
  links_same e σ held a b = met σ (ap Ok (linked_by true (nat_lt i j) σ (eq-eqb i j e) refl)) held

  pub links_up : (r : Told) → i < j → ((σ : matching.Found) → Holds g σ → σ.size j ≡ Slot j → found_size σ (Slot i) ≡ Slot i → Met (Ok (size_found j (Slot i) σ)) h r)
      → (σ : matching.Found) → Holds g σ → σ.size i ≡ Slot i → σ.size j ≡ Slot j → Met (Ok (linked i j σ)) h r
  links_up r l take σ held a b = subst (λ z. Met (Ok z) h r) (sym (linked_by false true σ (ne_eqb i j (λ e. omega (arith, l, e))) (lt-ltb i j l))) (take σ held b a)

  pub links_down : (r : Told) → (i ≡ j → ⊥) → j ≤ i → ((σ : matching.Found) → Holds g σ → σ.size i ≡ Slot i → found_size σ (Slot j) ≡ Slot j → Met (Ok (size_found i (Slot j) σ)) h r)
      → (σ : matching.Found) → Holds g σ → σ.size i ≡ Slot i → σ.size j ≡ Slot j → Met (Ok (linked i j σ)) h r
  links_down r ne l take σ held a b = subst (λ z. Met (Ok z) h r) (sym (linked_by false false σ (ne_eqb i j ne) (le-ltb i j l))) (take σ held a b)

pub below_up : (i j : ℕ) → i < j → (k : ℕ) → free_of (free.Slot i) ≡ Slot k → k < j
below_up i j l k e = let q : i ≡ k = cc in omega (arith, l, q)

pub below_down : (i j : ℕ) → (i ≡ j → ⊥) → j ≤ i → (k : ℕ) → free_of (free.Slot j) ≡ Slot k → k < i
below_down i j ne l k e = let q : j ≡ k = cc in let m : j < i = grind (arith, ne, l) in omega (arith, m, q)

pub ruleset links = (links_same, links_up, links_down, below_up, below_down)

-- ---- an open slot meets a size that is none

module _ (g h : Found) (w : matching.Way) (at i : ℕ) (d : frees.Free) where
  pub slot_refuses : true ≡ (w.in_result && is_unknown (At (free_of d))) → (σ : matching.Found) → Holds g σ → σ.size i ≡ Slot i → found_size σ (free_of d) ≡ free_of d → Met (slot_takes w at i (free_of d) σ) g (Err (size_err.Refused (refusal.Irregular at)))
  slot_refuses e σ held a b = unmet (ap (λ z. cond z (Err (Irregular at)) (Ok (size_found i (free_of d) σ))) (sym e))

  pub slot_accepts : (r : Told) → false ≡ (w.in_result && is_unknown (At (free_of d))) → ((σ : matching.Found) → Holds g σ → σ.size i ≡ Slot i → found_size σ (free_of d) ≡ free_of d → Met (Ok (size_found i (free_of d) σ)) h r)
      → (σ : matching.Found) → Holds g σ → σ.size i ≡ Slot i → found_size σ (free_of d) ≡ free_of d → Met (slot_takes w at i (free_of d) σ) h r
  slot_accepts r e take σ held a b = subst (λ z. Met z h r) (ap (λ z. cond z (Err (Irregular at)) (Ok (size_found i (free_of d) σ))) e) (take σ held a b)

pub ruleset slot_meets = (slot_refuses, slot_accepts)

-- ---- two sizes that are read

fixed_slot : (σ : matching.Found) (d : Free) (i : ℕ) → d ≡ Slot i → found_size σ d ≡ d → σ.size i ≡ Slot i
fixed_slot σ d i e h = sym (ap (found_size σ) e) ∙ h ∙ e

right_other : (w : matching.Way) (at i : ℕ) (e : Free) (σ : matching.Found) → ((j : ℕ) → e ≡ Slot j → ⊥) → meet_size w at (Slot i) e σ ≡ slot_takes w at i e σ
right_other w at i (Const c) σ never = refl
right_other w at i (Name b) σ never = refl
right_other w at i (Own n k) σ never = refl
right_other w at i (Unknown n k) σ never = refl
right_other w at i (Slot j) σ never = elim (never j refl) [ ]

left_other : (w : matching.Way) (at j : ℕ) (d : Free) (σ : matching.Found) → ((i : ℕ) → d ≡ Slot i → ⊥) → meet_size w at d (Slot j) σ ≡ Ok (size_found j d σ)
left_other w at j (Const c) σ never = refl
left_other w at j (Name b) σ never = refl
left_other w at j (Own n k) σ never = refl
left_other w at j (Unknown n k) σ never = refl
left_other w at j (Slot i) σ never = elim (never i refl) [ ]

neither : (w : matching.Way) (at : ℕ) (d e : Free) (σ : matching.Found) → ((i : ℕ) → d ≡ Slot i → ⊥) → ((j : ℕ) → e ≡ Slot j → ⊥) → meet_size w at d e σ ≡ cond (is_free d e) (Ok σ) (Err (Mismatch at (At d) (At e)))
neither w at (Const c) e σ never nowhere = by_right e nowhere
  where
    by_right : (e : Free) → ((j : ℕ) → e ≡ Slot j → ⊥) → meet_size w at (Const c) e σ ≡ cond (is_free (Const c) e) (Ok σ) (Err (Mismatch at (At (Const c)) (At e)))
    by_right (Const b) nowhere = refl
    by_right (Name b) nowhere = refl
    by_right (Own n k) nowhere = refl
    by_right (Unknown n k) nowhere = refl
    by_right (Slot j) nowhere = elim (nowhere j refl) [ ]
neither w at (Name c) e σ never nowhere = by_right e nowhere
  where
    by_right : (e : Free) → ((j : ℕ) → e ≡ Slot j → ⊥) → meet_size w at (Name c) e σ ≡ cond (is_free (Name c) e) (Ok σ) (Err (Mismatch at (At (Name c)) (At e)))
    by_right (Const b) nowhere = refl
    by_right (Name b) nowhere = refl
    by_right (Own n k) nowhere = refl
    by_right (Unknown n k) nowhere = refl
    by_right (Slot j) nowhere = elim (nowhere j refl) [ ]
neither w at (Own m l) e σ never nowhere = by_right e nowhere
  where
    by_right : (e : Free) → ((j : ℕ) → e ≡ Slot j → ⊥) → meet_size w at (Own m l) e σ ≡ cond (is_free (Own m l) e) (Ok σ) (Err (Mismatch at (At (Own m l)) (At e)))
    by_right (Const b) nowhere = refl
    by_right (Name b) nowhere = refl
    by_right (Own n k) nowhere = refl
    by_right (Unknown n k) nowhere = refl
    by_right (Slot j) nowhere = elim (nowhere j refl) [ ]
neither w at (Unknown m l) e σ never nowhere = by_right e nowhere
  where
    by_right : (e : Free) → ((j : ℕ) → e ≡ Slot j → ⊥) → meet_size w at (Unknown m l) e σ ≡ cond (is_free (Unknown m l) e) (Ok σ) (Err (Mismatch at (At (Unknown m l)) (At e)))
    by_right (Const b) nowhere = refl
    by_right (Name b) nowhere = refl
    by_right (Own n k) nowhere = refl
    by_right (Unknown n k) nowhere = refl
    by_right (Slot j) nowhere = elim (nowhere j refl) [ ]
neither w at (Slot i) e σ never nowhere = elim (never i refl) [ ]

module _ (g h : Found) (w : matching.Way) (at : ℕ) (d e : frees.Free) where
  abbrev pub Meets : Found → Told → Type 0
  Meets f r = (σ : matching.Found) → Holds g σ → found_size σ (free_of d) ≡ free_of d → found_size σ (free_of e) ≡ free_of e → Met (meet_size w at (free_of d) (free_of e) σ) f r

  pub both_slots : (i j : ℕ) (r : Told) → Is_slot (free_of d) (Some i) → Is_slot (free_of e) (Some j) → ((σ : matching.Found) → Holds g σ → σ.size i ≡ Slot i → σ.size j ≡ Slot j → Met (Ok (linked i j σ)) h r) → Meets h r
  both_slots i j r (the_slot p) (the_slot q) link σ held a b =
      subst (λ z. Met z h r) (sym (ap (λ z. meet_size w at z (free_of e) σ) p ∙ ap (λ z. meet_size w at (Slot i) z σ) q)) (link σ held (fixed_slot σ (free_of d) i p a) (fixed_slot σ (free_of e) j q b))

  pub left_slot : (i : ℕ) (r : Told) → Is_slot (free_of d) (Some i) → Is_slot (free_of e) None → ((σ : matching.Found) → Holds g σ → σ.size i ≡ Slot i → found_size σ (free_of e) ≡ free_of e → Met (slot_takes w at i (free_of e) σ) h r) → Meets h r
  left_slot i r (the_slot p) (no_slot never) taking σ held a b = subst (λ z. Met z h r) (sym (ap (λ z. meet_size w at z (free_of e) σ) p ∙ right_other w at i (free_of e) σ never)) (taking σ held (fixed_slot σ (free_of d) i p a) b)

  pub right_slot : (j : ℕ) (r : Told) → Is_slot (free_of d) None → Is_slot (free_of e) (Some j) → ((σ : matching.Found) → Holds g σ → σ.size j ≡ Slot j → found_size σ (free_of d) ≡ free_of d → Met (Ok (size_found j (free_of d) σ)) h r) → Meets h r
  right_slot j r (no_slot never) (the_slot q) taking σ held a b = subst (λ z. Met z h r) (sym (ap (λ z. meet_size w at (free_of d) z σ) q ∙ left_other w at j (free_of d) σ never)) (taking σ held (fixed_slot σ (free_of e) j q b) a)

  pub one_size : Is_slot (free_of d) None → Is_slot (free_of e) None → true ≡ is_free (free_of d) (free_of e) → Meets g (Ok tt)
  one_size (no_slot never) (no_slot nowhere) s σ held a b = met σ (neither w at (free_of d) (free_of e) σ never nowhere ∙ ap (λ z. cond z (Ok σ) (Err (Mismatch at (At (free_of d)) (At (free_of e))))) (sym s)) held

  pub two_sizes : Is_slot (free_of d) None → Is_slot (free_of e) None → false ≡ is_free (free_of d) (free_of e) → Meets g (Err (size_err.Refused (refusal.Mismatch at (dim.At d) (dim.At e))))
  two_sizes (no_slot never) (no_slot nowhere) s σ held a b = unmet (neither w at (free_of d) (free_of e) σ never nowhere ∙ ap (λ z. cond z (Ok σ) (Err (Mismatch at (At (free_of d)) (At (free_of e))))) (sym s))

pub no_slot_below : (d : frees.Free) (i j : ℕ) → Is_slot (free_of d) None → free_of d ≡ Slot j → j < i
no_slot_below d i j (no_slot never) e = elim (never j e) [ ]

pub no_slot_at : (d : frees.Free) (j : ℕ) → Is_slot (free_of d) None → free_of d ≡ Slot j → ⊥
no_slot_at d j (no_slot never) e = never j e

pub ruleset sizes_meet = (both_slots, left_slot, right_slot, one_size, two_sizes, no_slot_below, no_slot_at)

-- ---- levels

pub fixed_by : (s : List slots.Slot) (σ : matching.Found) → Follows s σ → (d : Free) → found_size σ (found_size σ d) ≡ found_size σ d
fixed_by s σ f (Const c) = refl
fixed_by s σ f (Name b) = refl
fixed_by s σ f (Own n k) = refl
fixed_by s σ f (Unknown n k) = refl
fixed_by s σ f (Slot i) = f.ends i

module _ (g h : Found) (w : matching.Way) (at : ℕ) where
  pub levels_meet : (d e x y : frees.Free) (r : Told) → ((σ : matching.Found) → Holds g σ → free_of x ≡ found_size σ (free_of d)) → ((σ : matching.Found) → Holds g σ → free_of y ≡ found_size σ (free_of e))
      → ((σ : matching.Found) → Holds g σ → found_size σ (free_of x) ≡ free_of x → found_size σ (free_of y) ≡ free_of y → Met (meet_size w at (free_of x) (free_of y) σ) h r)
      → (σ : matching.Found) → Holds g σ → Met (meet_dim w at (At (free_of d)) (At (free_of e)) σ) h r
  levels_meet d e x y r p q meet σ held =
      subst (λ z. Met z h r) (ap (λ z. meet_size w at z (free_of y) σ) (p σ held) ∙ ap (λ z. meet_size w at (found_size σ (free_of d)) z σ) (q σ held))
      (meet σ held (fixed (free_of x) (free_of d) (p σ held)) (fixed (free_of y) (free_of e) (q σ held)))
    where
      fixed : (z c : Free) → z ≡ found_size σ c → found_size σ z ≡ z
      fixed z c o = ap (found_size σ) o ∙ fixed_by g.slots σ held.sizes c ∙ sym o

  pub bound_left : (k i : ℕ) (e : Dim) (σ : matching.Found) → Holds g σ → Met (meet_dim w at (Bound k i) e σ) g (Ok tt)
  bound_left k i e σ held = met σ refl held

  pub bound_right : (d : Free) (k i : ℕ) (σ : matching.Found) → Holds g σ → Met (meet_dim w at (At d) (Bound k i) σ) g (Ok tt)
  bound_right d k i σ held = met σ refl held

pub ruleset dims_meet = (levels_meet, bound_left, bound_right)

-- ---- which is wanted

module _ (g h : Found) (w : matching.Way) (at : ℕ) (d e : Dim) (r : Told) where
  pub wanted_left : w.left_wanted ≡ true → ((σ : matching.Found) → Holds g σ → Met (meet_dim w at d e σ) h r) → (σ : matching.Found) → Holds g σ → Met (meet_dims w at d e σ) h r
  wanted_left is meet σ held = subst (λ z. Met z h r) (sym (ap (λ z. cond z (meet_dim w at d e σ) (meet_dim w at e d σ)) is)) (meet σ held)

  pub wanted_right : w.left_wanted ≡ false → ((σ : matching.Found) → Holds g σ → Met (meet_dim w at e d σ) h r) → (σ : matching.Found) → Holds g σ → Met (meet_dims w at d e σ) h r
  wanted_right is meet σ held = subst (λ z. Met z h r) (sym (ap (λ z. cond z (meet_dim w at d e σ) (meet_dim w at e d σ)) is)) (meet σ held)

pub ruleset either_way = (wanted_left, wanted_right)

-- ---- a size is read

module _ (f : Found) where
  pub read_slot : (i : ℕ) (d : frees.Free) → ((σ : matching.Found) → Follows f.slots σ → free_of d ≡ σ.size i) → (σ : matching.Found) → Holds f σ → free_of d ≡ found_size σ (Slot i)
  read_slot i d find σ held = find σ held.sizes

pub ruleset reads = (read_slot)
