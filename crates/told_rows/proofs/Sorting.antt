-- A list put in order element by element, and that a stable sort answers the same.
use Rattle.std.proofs.Common.{◌≡◌, ℕ, suc, ◌+◌, ◌<◌, ◌++◌, List, [], ◌∷◌, length, get_or, Bool, true, false, not, ◌&&◌, cond, refl, sym, ap, subst, ◌∙◌, append-nil, zero-le, true≢false, arith}
use Rattle.std.specs.Prelude.{⊤}
use Rattle.std.specs.Cmp.{IsStrictWeakOrder}
use Rattle.std.specs.List.{filter}
use Rattle.std.specs.List.Sorted.{IsSortedBy, ties, IsStableBy}
use Rattle.std.proofs.lemmas.List.Sorted.{sorted_far}
use mathlib.Core.List.{cons≢nil, head-eq_of_cons-eq, tail-eq_of_cons-eq}

-- from the last element on
abbrev pub backward : {X : Type 0} → List X → List X
backward [] = []
backward (x ∷ xs) = backward xs ++ x ∷ []

module _ {X : Type 0} (lt : X → X → Bool) where
  -- put before the first element that it is less than
  abbrev pub put : X → List X → List X
  put x [] = x ∷ []
  put x (y ∷ ys) = cond (lt x y) (x ∷ y ∷ ys) (y ∷ put x ys)

  abbrev pub in_order : List X → List X
  in_order [] = []
  in_order (x ∷ xs) = put x (in_order xs)

  abbrev None_below : X → List X → Type 0
  None_below x [] = ⊤
  None_below x (y ∷ ys) = (lt y x ≡ false) × None_below x ys

  abbrev Rising : List X → Type 0
  Rising [] = ⊤
  Rising (x ∷ xs) = None_below x xs × Rising xs

  -- no element of one tie is lost, and they stand in the same order
  abbrev Same_ties : List X → List X → Type 0
  Same_ties xs ys = (t : X) → filter (ties lt t) xs ≡ filter (ties lt t) ys

  none_from : (x : X) (xs : List X) → ((j : ℕ) → j < length xs → lt (get_or xs j x) x ≡ false) → None_below x xs
  none_from x [] h = tt
  none_from x (y ∷ xs) h = (h 0 (omega arith), none_from x xs (λ j l. h (suc j) (omega (arith, l))))

  module _ (o : IsStrictWeakOrder lt) where
    rising_from : (xs : List X) → IsSortedBy lt xs → Rising xs
    rising_from [] up = tt
    rising_from (x ∷ xs) up = (none_from x xs (λ j l. sorted_far lt o (x ∷ xs) up 0 (suc j) x zero-le (omega (arith, l))), rising_from xs (λ k d le l. subst (λ j. lt (get_or (x ∷ xs) j d) (get_or xs k d) ≡ false) {y = suc (k + 1)} (omega arith) (up (suc k) d zero-le (omega (arith, l)))))

    none_on : (x y : X) (zs : List X) → lt y x ≡ false → None_below y zs → None_below x zs
    none_on x y [] h n = tt
    none_on x y (z ∷ zs) h n = (o.chain z y x n.0 h, none_on x y zs h n.1)

    -- ---- one element put where it belongs

    none_put : (x y : X) (ys : List X) → lt y x ≡ false → None_below x ys → None_below x (put y ys)
    none_put x y [] h n = (h, tt)
    none_put x y (z ∷ ys) h n = known (lt y z) (none_put x y ys h n.1)
      where
        known : (b : Bool) → None_below x (put y ys) → None_below x (cond b (y ∷ z ∷ ys) (z ∷ put y ys))
        known true rest = (h, n)
        known false rest = (n.0, rest)

    rising_put : (x : X) (ys : List X) → Rising ys → Rising (put x ys)
    rising_put x [] r = (tt, tt)
    rising_put x (y ∷ ys) r = known (lt x y) refl (rising_put x ys r.1)
      where
        known : (b : Bool) → lt x y ≡ b → Rising (put x ys) → Rising (cond b (x ∷ y ∷ ys) (y ∷ put x ys))
        known true e rest = let le : lt y x ≡ false = o.one_way x y e in ((le, none_on x y ys le r.0), r)
        known false e rest = (none_put y x ys e r.0, rest)

    rising_all : (xs : List X) → Rising (in_order xs)
    rising_all [] = tt
    rising_all (x ∷ xs) = rising_put x (in_order xs) (rising_all xs)

    -- ---- what ties

    below : (x y z : X) → lt x z ≡ true → lt x y ≡ false → lt y z ≡ true
    below x y z h n = known (lt y z) refl
      where
        known : (b : Bool) → lt y z ≡ b → b ≡ true
        known true e = refl
        known false e = absurd (true≢false (sym h ∙ o.chain x y z n e))

    above : (x y z : X) → lt x z ≡ true → lt y z ≡ false → lt x y ≡ true
    above x y z h n = known (lt x y) refl
      where
        known : (b : Bool) → lt x y ≡ b → b ≡ true
        known true e = refl
        known false e = absurd (true≢false (sym h ∙ o.chain x y z e n))

    second : (a b : Bool) → (not a && not b) ≡ true → b ≡ false
    second a false e = refl
    second true true e = absurd (true≢false (sym e))
    second false true e = absurd (true≢false (sym e))

    -- nothing ties with what is less than all
    none_tie : (t z : X) (zs : List X) → lt t z ≡ true → None_below z zs → filter (ties lt t) (z ∷ zs) ≡ []
    none_tie t z zs h n = ap (λ b. cond (not b && not (lt z t)) (z ∷ filter (ties lt t) zs) (filter (ties lt t) zs)) h ∙ rest zs n
      where
        rest : (us : List X) → None_below z us → filter (ties lt t) us ≡ []
        rest [] m = refl
        rest (u ∷ us) m = ap (λ b. cond (not b && not (lt u t)) (u ∷ filter (ties lt t) us) (filter (ties lt t) us)) (above t u z h m.0) ∙ rest us m.1

    ties_self : (t : X) → ties lt t t ≡ true
    ties_self t = known (lt t t) refl
      where
        known : (b : Bool) → lt t t ≡ b → (not b && not b) ≡ true
        known true e = absurd (true≢false (sym e ∙ o.one_way t t e))
        known false e = refl

    filter_behind : (t x : X) (ys : List X) → filter (ties lt t) (ys ++ x ∷ []) ≡ filter (ties lt t) ys ++ filter (ties lt t) (x ∷ [])
    filter_behind t x [] = refl
    filter_behind t x (y ∷ ys) = known (ties lt t y) (filter_behind t x ys)
      where
        known : (b : Bool) → filter (ties lt t) (ys ++ x ∷ []) ≡ filter (ties lt t) ys ++ filter (ties lt t) (x ∷ []) → cond b (y ∷ filter (ties lt t) (ys ++ x ∷ [])) (filter (ties lt t) (ys ++ x ∷ [])) ≡ cond b (y ∷ filter (ties lt t) ys) (filter (ties lt t) ys) ++ filter (ties lt t) (x ∷ [])
        known true rest = ap (◌∷◌ y) rest
        known false rest = rest

    -- what is put stands behind all that tie with it
    put_ties : (x : X) (ys : List X) → Rising ys → Same_ties (put x ys) (ys ++ x ∷ [])
    put_ties x [] r t = refl
    put_ties x (y ∷ ys) r t = known (lt x y) refl (put_ties x ys r.1 t)
      where
        one : List X
        one = filter (ties lt t) (x ∷ [])

        here : lt x y ≡ true → (b : Bool) → ties lt t x ≡ b → cond b (x ∷ filter (ties lt t) (y ∷ ys)) (filter (ties lt t) (y ∷ ys)) ≡ filter (ties lt t) (y ∷ ys) ++ cond b (x ∷ []) []
        here e false k = sym (append-nil (filter (ties lt t) (y ∷ ys)))
        here e true k = ap (λ z. x ∷ z) (none_tie t y ys (below x t y e (second (lt t x) (lt x t) k)) r.0) ∙ ap (λ z. z ++ x ∷ []) (sym (none_tie t y ys (below x t y e (second (lt t x) (lt x t) k)) r.0))

        known : (b : Bool) → lt x y ≡ b → filter (ties lt t) (put x ys) ≡ filter (ties lt t) (ys ++ x ∷ []) → filter (ties lt t) (cond b (x ∷ y ∷ ys) (y ∷ put x ys)) ≡ filter (ties lt t) (y ∷ ys ++ x ∷ [])
        known true e rest = here e (ties lt t x) refl ∙ sym (filter_behind t x (y ∷ ys))
        known false e rest = ap (λ z. cond (ties lt t y) (y ∷ z) z) rest

    order_ties : (xs : List X) → Same_ties (in_order xs) (backward xs)
    order_ties [] t = refl
    order_ties (x ∷ xs) t = put_ties x (in_order xs) (rising_all xs) t ∙ filter_behind t x (in_order xs) ∙ ap (λ z. z ++ filter (ties lt t) (x ∷ [])) (order_ties xs t) ∙ sym (filter_behind t x (backward xs))

    -- ---- there is one such list

    head_not : (y z : X) (ys zs : List X) → None_below z zs → filter (ties lt y) (y ∷ ys) ≡ filter (ties lt y) (z ∷ zs) → lt y z ≡ false
    head_not y z ys zs n e = known (lt y z) refl
      where
        known : (b : Bool) → lt y z ≡ b → b ≡ false
        known true h = absurd (cons≢nil (sym (ap (λ b. cond b (y ∷ filter (ties lt y) ys) (filter (ties lt y) ys)) (ties_self y)) ∙ e ∙ none_tie y z zs h n))
        known false h = refl

    both_not : (a b : Bool) → a ≡ false → b ≡ false → (not a && not b) ≡ true
    both_not a b h k = ap (λ z. not z && not b) h ∙ ap not k

    same : (ys zs : List X) → Rising ys → Rising zs → Same_ties ys zs → ys ≡ zs
    same [] [] r s h = refl
    same [] (z ∷ zs) r s h = absurd (cons≢nil (sym (ap (λ b. cond b (z ∷ filter (ties lt z) zs) (filter (ties lt z) zs)) (ties_self z)) ∙ sym (h z)))
    same (y ∷ ys) [] r s h = absurd (cons≢nil (sym (ap (λ b. cond b (y ∷ filter (ties lt y) ys) (filter (ties lt y) ys)) (ties_self y)) ∙ h y))
    same (y ∷ ys) (z ∷ zs) r s h = ap (λ w. w ∷ ys) heads ∙ ap (◌∷◌ z) (same ys zs r.1 s.1 tails)
      where
        heads : y ≡ z
        heads = head-eq_of_cons-eq (sym (ap (λ b. cond b (y ∷ filter (ties lt y) ys) (filter (ties lt y) ys)) (ties_self y)) ∙ h y ∙ ap (λ b. cond b (z ∷ filter (ties lt y) zs) (filter (ties lt y) zs)) (both_not (lt y z) (lt z y) (head_not y z ys zs s.0 (h y)) (head_not z y zs ys r.0 (sym (h z)))))

        tail_at : (t : X) (b : Bool) → cond b (z ∷ filter (ties lt t) ys) (filter (ties lt t) ys) ≡ cond b (z ∷ filter (ties lt t) zs) (filter (ties lt t) zs) → filter (ties lt t) ys ≡ filter (ties lt t) zs
        tail_at t true e = tail-eq_of_cons-eq e
        tail_at t false e = e

        tails : Same_ties ys zs
        tails t = tail_at t (ties lt t z) (subst (λ w. filter (ties lt t) (w ∷ ys) ≡ filter (ties lt t) (z ∷ zs)) heads (h t))

    -- a stable sort from the last element on gives that list
    pub stably : (xs ys : List X) → IsSortedBy lt ys → IsStableBy lt (backward xs) ys → ys ≡ in_order xs
    stably xs ys up stable = same ys (in_order xs) (rising_from ys up) (rising_all xs) (λ t. stable t ∙ sym (order_ties xs t))
