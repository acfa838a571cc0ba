-- What positions stand for, frame by frame.
use Rattle.std.proofs.Common.{◌≡◌, ℕ, suc, ◌+◌, ◌-◌, ◌<◌, ◌≤◌, Bool, true, false, cond, nat_eq, nat_lt, Option, Some, None, Result, Ok, Err, refl, sym, ap, ◌∙◌, arith, eq-eqb, ne_eqb, lt-ltb, le-ltb}
use Rattle.std.proofs.lemmas.Bool.{eqb-true}
use Rattle.std.specs.Prelude.{IfOk}
use Rattle.std.specs.Borrow.{Bor}
use Rattle.fut_scalar.specs.declared.memory.NoMemory.{NoMemory}
use Rattle.sized_types.specs.Sizes.{Free, Unknown, Slot, Dim, At, Bound}
use Rattle.fut_sizes.specs.Matching.{Opened, none_opened, inside, wanted_frame, found_frame, lifted, dim_in}
use Rattle.size_arena.specs.declared.dims.Dim as dims
use Rattle.size_arena.specs.declared.dims.Free as frees
use Rattle.size_arena.specs.declared.opened.Frame as frame
use Rattle.size_arena.specs.declared.opened.Frames.{Frames, fold-roll-Frames}
use Rattle.size_arena.specs.declared.opened.Frames.TheOpen as layer
use Rattle.size_arena.specs.declared.opened.Frames.TheVariants as form
use Rattle.size_arena.specs.Frames.{value_at, applied_at, frame_of, frames_form, opened_of}
use Rattle.size_arena.specs.Trees.{free_of, dim_of}

-- ---- one frame

module _ (lo next k l i n : ℕ) where
  pub wanted_met : k < i → n ≡ next + i → Bound 0 n ≡ wanted_frame lo next k i
  wanted_met h e = ap (Bound 0) e ∙ ap (λ z. cond z (Bound 0 (next + i)) (At (Unknown lo (next + i)))) (sym (lt-ltb k i h))

  pub wanted_chosen : i ≤ k → n ≡ next + i → At (Unknown lo n) ≡ wanted_frame lo next k i
  wanted_chosen h e = ap (λ z. At (Unknown lo z)) e ∙ ap (λ z. cond z (Bound 0 (next + i)) (At (Unknown lo (next + i)))) (sym (le-ltb k i h))

  -- k is the argument's number here
  found_by : (a b : Bool) → nat_lt i l ≡ a → nat_eq i l ≡ b → found_frame lo next k l i ≡ cond a (At (Slot (next + i))) (At (Unknown lo (cond b k (next + i))))
  found_by a b p q = ap (λ z. cond z (At (Slot (next + i))) (At (Unknown lo (cond (nat_eq i l) k (next + i))))) p ∙ ap (λ z. cond a (At (Slot (next + i))) (At (Unknown lo (cond z k (next + i))))) q

  pub found_value : i ≡ l → At (Unknown lo k) ≡ found_frame lo next k l i
  found_value h = sym (found_by false true (le-ltb i l (omega (arith, h))) (eq-eqb i l h))

  pub found_slot : i < l → n ≡ next + i → At (Slot n) ≡ found_frame lo next k l i
  found_slot h e = ap (λ z. At (Slot z)) e ∙ sym (found_by true (nat_eq i l) (lt-ltb i l h) refl)

  pub found_met : (i ≡ l → ⊥) → l ≤ i → n ≡ next + i → At (Unknown lo n) ≡ found_frame lo next k l i
  found_met ne h e = ap (λ z. At (Unknown lo z)) e ∙ sym (found_by false false (le-ltb i l h) (ne_eqb i l ne))

  applied_by : (v : Option frees.Free) (a b : Bool) → nat_lt i k ≡ a → nat_eq i k ≡ b → applied_at lo next k v i ≡ cond a (At (Slot (next + i))) (cond b (At (value_at v (Unknown lo (next + k)))) (At (Unknown lo (next + i))))
  applied_by v a b p q = ap (λ z. cond z (At (Slot (next + i))) (cond (nat_eq i k) (At (value_at v (Unknown lo (next + k)))) (At (Unknown lo (next + i))))) p ∙ ap (λ z. cond a (At (Slot (next + i))) (cond z (At (value_at v (Unknown lo (next + k)))) (At (Unknown lo (next + i))))) q

  pub applied_slot : (v : Option frees.Free) → i < k → n ≡ next + i → At (Slot n) ≡ applied_at lo next k v i
  applied_slot v h e = ap (λ z. At (Slot z)) e ∙ sym (applied_by v true (nat_eq i k) (lt-ltb i k h) refl)

  pub applied_value : (d : frees.Free) → i ≡ k → At (free_of d) ≡ applied_at lo next k (Some d) i
  applied_value d h = sym (applied_by (Some d) false true (le-ltb i k (omega (arith, h))) (eq-eqb i k h))

  pub applied_met : (d : frees.Free) → (i ≡ k → ⊥) → k ≤ i → n ≡ next + i → At (Unknown lo n) ≡ applied_at lo next k (Some d) i
  applied_met d ne h e = ap (λ z. At (Unknown lo z)) e ∙ sym (applied_by (Some d) false false (le-ltb i k h) (ne_eqb i k ne))

  pub applied_unknown : k ≤ i → n ≡ next + i → At (Unknown lo n) ≡ applied_at lo next k None i
  applied_unknown h e = go (nat_eq i k) refl
    where
      go : (b : Bool) → nat_eq i k ≡ b → At (Unknown lo n) ≡ applied_at lo next k None i
      go true q = let x : n ≡ next + k = omega (arith, e, eqb-true i k q) in ap (λ z. At (Unknown lo z)) x ∙ sym (applied_by None false true (le-ltb i k h) q)
      go false q = ap (λ z. At (Unknown lo z)) e ∙ sym (applied_by None false false (le-ltb i k h) q)

pub ruleset positions = (wanted_met, wanted_chosen, found_value, found_slot, found_met, applied_slot, applied_value, applied_met, applied_unknown)

-- ---- frames in one another

pub opened_closed : opened_of form.Closed ≡ none_opened
unfolding opened_of frames_form
opened_closed = ap opened_of (sym form.rolls-Closed) ∙ fold-roll-Frames _ frames_form layer.Closed

pub opened_inside : (f : frame.Frame) (rest : Bor Frames) → opened_of (form.Inside f rest) ≡ inside (frame_of f) (opened_of rest.now)
unfolding opened_of frames_form
opened_inside f rest = ap opened_of (sym (form.rolls-Inside f rest)) ∙ fold-roll-Frames _ frames_form (layer.Inside f rest)

abbrev pub Told : Type 0
Told = Result dims.Dim NoMemory

module _ (t : Frames) (b i : ℕ) where
  pub at_closed : t ≡ form.Closed → Bound b i ≡ opened_of t b i
  at_closed is = rw (is, opened_closed) refl

  module _ (f : frame.Frame) (rest : Bor Frames) (o : Told) (is : t ≡ form.Inside f rest) where
    here : opened_of t b i ≡ inside (frame_of f) (opened_of rest.now) b i
    here = ap (λ z. opened_of z b i) is ∙ ap (λ (z : Opened). z b i) (opened_inside f rest)

    pub at_nearest : b ≡ 0 → IfOk o (λ d. dim_of d ≡ frame_of f i) → IfOk o (λ d. dim_of d ≡ opened_of t b i)
    unfolding inside
    at_nearest e h = by_answer o h
      where
        zero_inside : inside (frame_of f) (opened_of rest.now) 0 i ≡ frame_of f i
        zero_inside = refl

        by_answer : (o : Told) → IfOk o (λ d. dim_of d ≡ frame_of f i) → IfOk o (λ d. dim_of d ≡ opened_of t b i)
        by_answer (Ok d) h = h ∙ sym (here ∙ ap (λ z. inside (frame_of f) (opened_of rest.now) z i) e ∙ zero_inside)
        by_answer (Err x) h = tt

    pub at_outer : (c : ℕ) → (b ≡ 0 → ⊥) → c ≡ b - 1 → IfOk o (λ d. dim_of d ≡ opened_of rest.now c i) → IfOk o (λ d. dim_of d ≡ opened_of t b i)
    unfolding inside
    at_outer c ne e h = by_answer o h
      where
        next_inside : (m : ℕ) → inside (frame_of f) (opened_of rest.now) (suc m) i ≡ opened_of rest.now m i
        next_inside m = refl

        by_answer : (o : Told) → IfOk o (λ d. dim_of d ≡ opened_of rest.now c i) → IfOk o (λ d. dim_of d ≡ opened_of t b i)
        by_answer (Ok d) h = let k : b ≡ suc c = grind (arith, ne, e) in h ∙ sym (here ∙ ap (λ z. inside (frame_of f) (opened_of rest.now) z i) k ∙ next_inside c)
        by_answer (Err x) h = tt

pub ruleset frames = (at_closed, at_nearest, at_outer)

-- ---- sizes under frames

module _ (φ : Opened) (j k i : ℕ) where
  pub in_near : k < j → Bound k i ≡ dim_in φ j (Bound k i)
  in_near h = ap (λ z. cond z (Bound k i) (lifted j (φ (k - j) i))) (sym (lt-ltb k j h))

  pub in_far : (c : ℕ) (d : dims.Dim) (o : Told) → j ≤ k → c ≡ k - j → dim_of d ≡ φ c i → IfOk o (λ x. dim_of x ≡ lifted j (dim_of d)) → IfOk o (λ x. dim_of x ≡ dim_in φ j (Bound k i))
  in_far c d (Ok x) h e is p = p ∙ ap (lifted j) is ∙ ap (λ z. lifted j (φ z i)) e ∙ ap (λ z. cond z (Bound k i) (lifted j (φ (k - j) i))) (sym (le-ltb k j h))
  in_far c d (Err x) h e is p = tt

pub ruleset dims_in = (in_near, in_far)
