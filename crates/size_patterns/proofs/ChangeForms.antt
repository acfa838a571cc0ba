-- Sizes are changed, one by one.
use Rattle.std.proofs.Common.{◌≡◌, ℕ, suc, ◌+◌, ◌-◌, ◌<◌, ◌≤◌, Bool, true, false, cond, nat_eq, nat_lt, Option, Some, None, refl, sym, ap, ◌∙◌, arith, eq-eqb, ne_eqb, lt-ltb, le-ltb}
use Rattle.sized_types.specs.Sizes.{Free, Name, Own, Slot, Dim, At, Bound}
use Rattle.fut_sizes.specs.Matching.{Opened, dim_in, inside, lifted, none_opened}
use Rattle.fut_sizes.specs.Sizing.{value_of_parameter}
use Rattle.size_patterns.specs.Changes.{entry_frame, own_frame}

-- ---- what is wanted of a parameter

module _ (stays_open : Bool) (b : Option ℕ) (q k i : ℕ) where
  own_by : (t : Bool) → nat_eq i k ≡ t → own_frame b q k i ≡ cond t (value_of_parameter q k b) (At (Own q i))
  own_by t e = ap (λ z. cond z (value_of_parameter q k b) (At (Own q i))) e

  open_by : (t : Bool) → nat_lt i k ≡ t → entry_frame true b q k i ≡ cond t (At (Slot i)) (own_frame b q k i)
  open_by t e = ap (λ z. cond z (At (Slot i)) (own_frame b q k i)) e

  -- where nothing stays open, or none of those that the caller chooses is asked for
  entry_own : (stays_open ≡ true → k ≤ i) → entry_frame stays_open b q k i ≡ own_frame b q k i
  entry_own h = by_open stays_open h
    where
      by_open : (s : Bool) → (s ≡ true → k ≤ i) → entry_frame s b q k i ≡ own_frame b q k i
      by_open true h = open_by false (le-ltb i k (h refl))
      by_open false h = refl

  pub entry_slot : i < k → stays_open ≡ true → At (Slot i) ≡ entry_frame stays_open b q k i
  entry_slot l e = sym (ap (λ z. entry_frame z b q k i) e ∙ open_by true (lt-ltb i k l))

  pub entry_chosen : i < k → (i ≡ k → ⊥) → stays_open ≡ false → At (Own q i) ≡ entry_frame stays_open b q k i
  entry_chosen l ne e = sym (ap (λ z. entry_frame z b q k i) e ∙ own_by false (ne_eqb i k ne))

  pub entry_met : k ≤ i → (i ≡ k → ⊥) → At (Own q i) ≡ entry_frame stays_open b q k i
  entry_met l ne = sym (entry_own (λ e. l) ∙ own_by false (ne_eqb i k ne))

  value_here : i ≡ k → value_of_parameter q k b ≡ entry_frame stays_open b q k i
  value_here e = sym (entry_own (λ z. omega (arith, e)) ∙ own_by true (eq-eqb i k e))

  pub entry_name : (c : ℕ) → i ≡ k → b ≡ Some c → At (Name c) ≡ entry_frame stays_open b q k i
  entry_name c e h = sym (ap (value_of_parameter q k) h) ∙ value_here e

  pub entry_value : i ≡ k → b ≡ None → At (Own q k) ≡ entry_frame stays_open b q k i
  entry_value e h = sym (ap (value_of_parameter q k) h) ∙ value_here e

pub ruleset entries = (entry_slot, entry_chosen, entry_met, entry_name, entry_value)

-- ---- one function type is opened

module _ (δ : ℕ → Dim) (j k i : ℕ) where
  abbrev one_opened : Opened
  one_opened = inside δ none_opened

  past : j ≤ k → dim_in one_opened j (Bound k i) ≡ lifted j (one_opened (k - j) i)
  past l = ap (λ z. cond z (Bound k i) (lifted j (one_opened (k - j) i))) (le-ltb k j l)

  nearest : one_opened 0 i ≡ δ i
  unfolding inside
  nearest = refl

  outer : (m : ℕ) → one_opened (suc m) i ≡ Bound m i
  unfolding inside
  outer m = refl

  pub opened_near : k < j → Bound k i ≡ dim_in (inside δ none_opened) j (Bound k i)
  opened_near l = sym (ap (λ z. cond z (Bound k i) (lifted j (one_opened (k - j) i))) (lt-ltb k j l))

  pub opened_here : (d : Free) → At d ≡ δ i → k ≡ j → At d ≡ dim_in (inside δ none_opened) j (Bound k i)
  opened_here d h e =
      let o : k - j ≡ 0 = omega (arith, e) in
      sym (past (omega (arith, e)) ∙ ap (λ z. lifted j (one_opened z i)) o ∙ ap (lifted j) (nearest ∙ sym h))

  pub opened_far : (m : ℕ) → j ≤ k → (k ≡ j → ⊥) → m ≡ k - 1 → Bound m i ≡ dim_in (inside δ none_opened) j (Bound k i)
  opened_far m l ne e =
      let o : k - j ≡ suc (k - j - 1) = grind (arith, l, ne) in
      let s : j + (k - j - 1) ≡ m = grind (arith, l, ne, e) in
      sym (past l ∙ ap (λ z. lifted j (one_opened z i)) o ∙ ap (lifted j) (outer (k - j - 1)) ∙ ap (λ z. Bound z i) s)

pub ruleset changed_dims = (opened_near, opened_here, opened_far)
