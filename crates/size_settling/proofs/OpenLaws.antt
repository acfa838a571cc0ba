-- Where nothing is open, nothing is chosen again and nothing becomes unknown.
use Rattle.std.proofs.Common.{◌≡◌, ℕ, suc, ◌+◌, ◌-◌, List, [], ◌∷◌, ◌++◌, length, Bool, true, false, cond, nat_eq, nat_lt, refl, sym, ap, ◌∙◌, arith}
use Rattle.std.specs.Prelude.{◌&&◌, not}
use Rattle.fut_types.specs.declared.Head.{Head}
use Rattle.sized_types.specs.Sizes.{Free, Const, Name, Own, Unknown, Slot, Dim, At, Bound, Size, Hole, Open, Level, Built, Fun, Sizes, no_size, size_and, replaced, all_replaced, renaming, renamed}
use Rattle.fut_sizes.specs.Functions.{all_collected, behind, chosen_again, chosen_in, closed, collected, is_slot, quantified, sizes_in, stands_among, unknown_slot, with_free}
use Rattle.size_arena.specs.declared.dims.Free as frees
use Rattle.size_making.specs.Placing.{frees_of}
use Rattle.size_settling.specs.Choosing.{Replacing}

-- ---- what is found is kept

pushed : {A : Type 0} (ds : List A) (d : A) → ds ++ d ∷ [] ≡ [] → ⊥
pushed [] d h = cc
pushed (e ∷ ds) d h = cc

none_before : {A : Type 0} (b : Bool) (ds : List A) (d : A) → cond b (ds ++ d ∷ []) ds ≡ [] → ds ≡ []
none_before true ds d h = absurd (pushed ds d h)
none_before false ds d h = h

module _ (q : Free → Bool) where
  none_with : (d : Dim) (ds : List Free) → with_free q d ds ≡ [] → ds ≡ []
  none_with (At d) ds h = none_before (q d && not (stands_among ds d)) ds d h
  none_with (Bound l i) ds h = h

  mutual
    unfolding collected all_collected

    none_first : (t : Size) (ds : List Free) → collected q t ds ≡ [] → ds ≡ []
    none_first (Hole v) ds h = h
    none_first (Open n v u) ds h = h
    none_first (Level d t) ds h = none_with d ds (none_first t (with_free q d ds) h)
    none_first (Built g ts) ds h = all_none_first ts ds h
    none_first (Fun k p r) ds h = none_first p ds (none_first r (collected q p ds) h)

    all_none_first : (ts : Sizes) (ds : List Free) → all_collected q ts ds ≡ [] → ds ≡ []
    all_none_first no_size ds h = h
    all_none_first (size_and t ts) ds h = none_first t ds (all_none_first ts (collected q t ds) h)

-- ---- nothing is open

abbrev pub Settled : Size → Type 0
Settled t = collected is_slot t [] ≡ []

abbrev All_settled : Sizes → Type 0
All_settled ts = all_collected is_slot ts [] ≡ []

abbrev is_open : Dim → Bool
is_open (At d) = is_slot d
is_open (Bound l i) = false

not_open : (d : Dim) → with_free is_slot d [] ≡ [] → is_open d ≡ false
not_open (At (Const c)) h = refl
not_open (At (Name b)) h = refl
not_open (At (Own n i)) h = refl
not_open (At (Unknown n i)) h = refl
not_open (At (Slot i)) h = cc
not_open (Bound l i) h = refl

module _ (d : Dim) (t : Size) (h : Settled (Level d t)) where
  level_none : with_free is_slot d [] ≡ []
  unfolding collected
  level_none = none_first is_slot t (with_free is_slot d []) h

  row_settled : Settled t
  unfolding collected
  row_settled = sym (ap (collected is_slot t) level_none) ∙ h

module _ (k : ℕ) (p r : Size) (h : Settled (Fun k p r)) where
  from_settled : Settled p
  unfolding collected
  from_settled = none_first is_slot r (collected is_slot p []) h

  pub to_settled : Settled r
  unfolding collected
  to_settled = sym (ap (collected is_slot r) from_settled) ∙ h

module _ (t : Size) (ts : Sizes) (h : All_settled (size_and t ts)) where
  part_settled : Settled t
  unfolding collected all_collected
  part_settled = all_none_first is_slot ts (collected is_slot t []) h

  rest_settled : All_settled ts
  unfolding collected all_collected
  rest_settled = sym (ap (all_collected is_slot ts) part_settled) ∙ h

parts_settled : (g : Head) (ts : Sizes) → Settled (Built g ts) → All_settled ts
unfolding collected all_collected
parts_settled g ts h = h

-- ---- what changes slots alone

abbrev Keeps : Replacing → Type 0
Keeps f = (i : ℕ) (d : Dim) → is_open d ≡ false → f i d ≡ d

module _ (f : Replacing) (keeps : Keeps f) where
  mutual
    unfolding replaced all_replaced

    stays : (j : ℕ) (t : Size) → Settled t → replaced f j t ≡ t
    stays j (Hole v) h = refl
    stays j (Open n v u) h = refl
    stays j (Level d t) h = ap (λ z. Level z (replaced f j t)) (keeps j d (not_open d (level_none d t h))) ∙ ap (Level d) (stays j t (row_settled d t h))
    stays j (Built g ts) h = ap (Built g) (all_stay j ts (parts_settled g ts h))
    stays j (Fun k p r) h = ap (λ z. Fun k z (replaced f (suc j) r)) (stays (suc j) p (from_settled k p r h)) ∙ ap (Fun k p) (stays (suc j) r (to_settled k p r h))

    all_stay : (j : ℕ) (ts : Sizes) → All_settled ts → all_replaced f j ts ≡ ts
    all_stay j no_size h = refl
    all_stay j (size_and t ts) h = ap (λ z. size_and z (all_replaced f j ts)) (stays j t (part_settled t ts h)) ∙ ap (size_and t) (all_stay j ts (rest_settled t ts h))

unknown_keeps : (n : ℕ → ℕ) → Keeps (renaming (unknown_slot n))
unknown_keeps n i (At (Const c)) so = refl
unknown_keeps n i (At (Name b)) so = refl
unknown_keeps n i (At (Own m l)) so = refl
unknown_keeps n i (At (Unknown m l)) so = refl
unknown_keeps n i (At (Slot l)) so = cc
unknown_keeps n i (Bound l m) so = refl

none_again : (k b : ℕ) (d : Dim) → chosen_again k [] b d ≡ d
none_again k b (At d) = refl
none_again k b (Bound l i) = ap (Bound l) (same (nat_eq l b) (nat_lt i k))
  where
    same : (x y : Bool) → cond x (cond y i (0 + i)) i ≡ i
    same true true = refl
    same true false = omega arith
    same false y = refl

behind_keeps : (k j : ℕ) (f : Replacing) → Keeps f → Keeps (behind k j [] f)
behind_keeps k j f keeps i d so = ap (chosen_again k [] (i - suc j)) (keeps i d so) ∙ none_again k (i - suc j) d

-- ---- so nothing is chosen again

module _ (n : ℕ → ℕ) where
  data_stays : (f : Replacing) (j : ℕ) (t : Size) → Keeps f → Settled t → renamed (unknown_slot n) (replaced f j t) ≡ t
  data_stays f j t keeps h = ap (renamed (unknown_slot n)) (stays f keeps j t h) ∙ stays (renaming (unknown_slot n)) (unknown_keeps n) 0 t h

  pub chosen_stays : (f : Replacing) (j : ℕ) (t : Size) → Keeps f → Settled t → chosen_in n f j t ≡ t
  unfolding chosen_in sizes_in
  chosen_stays f j (Hole v) keeps h = data_stays f j (Hole v) keeps h
  chosen_stays f j (Open m v u) keeps h = data_stays f j (Open m v u) keeps h
  chosen_stays f j (Level d t) keeps h = data_stays f j (Level d t) keeps h
  chosen_stays f j (Built g ts) keeps h = data_stays f j (Built g ts) keeps h
  chosen_stays f j (Fun k p r) keeps h =
      ap (λ ds. Fun (length ds + k) (replaced (behind k j ds f) (suc j) p) (chosen_in n (behind k j ds f) (suc j) r)) (ap (sizes_in is_slot) (stays f keeps (suc j) p (from_settled k p r h)) ∙ from_settled k p r h)
      ∙ ap (λ z. Fun z (replaced (behind k j [] f) (suc j) p) (chosen_in n (behind k j [] f) (suc j) r)) (none_more k)
      ∙ ap (λ z. Fun k z (chosen_in n (behind k j [] f) (suc j) r)) (stays (behind k j [] f) (behind_keeps k j f keeps) (suc j) p (from_settled k p r h))
      ∙ ap (Fun k p) (chosen_stays (behind k j [] f) (suc j) r (behind_keeps k j f keeps) (to_settled k p r h))
    where
      none_more : (k : ℕ) → 0 + k ≡ k
      none_more k = omega arith

  module _ (t : Size) (ds : List frees.Free) (none : length ds ≡ 0) (slots : frees_of ds ≡ sizes_in is_slot t) where
    nothing_open : Settled t
    unfolding sizes_in
    nothing_open = sym slots ∙ no_frees ds none
      where
        no_frees : (ds : List frees.Free) → length ds ≡ 0 → frees_of ds ≡ []
        no_frees [] e = refl
        no_frees (d ∷ ds) e = absurd (omega (arith, e))

    pub settled_quantified : t ≡ quantified n t
    unfolding quantified
    settled_quantified = sym (chosen_stays (λ j d. d) 0 t (λ i d so. refl) nothing_open)

    pub settled_closed : (b : Bool) → b ≡ false → t ≡ closed b n t
    unfolding closed
    settled_closed b e = sym (stays (renaming (unknown_slot n)) (unknown_keeps n) 0 t nothing_open) ∙ sym (ap (λ z. closed z n t) e)

pub ruleset settled = (settled_quantified, settled_closed)
