-- What all workers have taken together, after a step of one of them.
use Rattle.std.proofs.Common.{◌≡◌, ◌≢◌, ℕ, zero, suc, List, [], ◌∷◌, ◌++◌, set, flat_map, sym, refl, ap, ◌∙◌, subst, append_assoc, append-nil, IsPermutation, arith}
use Rattle.std.proofs.lemmas.List.Sorted.{IsPermutation-refl, IsPermutation-sym, IsPermutation-trans, IsPermutation-append_right, IsPermutation-append_comm}
use Rattle.std.proofs.lemmas.Grind.{flat_map-append}
use mathlib.Core.Option.{some, some-injective, some-ne-none}
use lib.ListN.{get_elem?}

pub same_permutes : {X : Type 0} (xs ys : List X) → xs ≡ ys → IsPermutation xs ys
same_permutes xs ys e = subst (λ l. IsPermutation xs l) e (IsPermutation-refl xs)

module _ {V : Type 0} where
  pub set_there : (l : List V) (i : ℕ) (a : V) → get_elem? l i ≡ some a → set l i a ≡ l
  set_there [] i a e = refl
  set_there (x ∷ xs) zero a e = ap (λ y. y ∷ xs) (sym (some-injective x a e))
  set_there (x ∷ xs) (suc i) a e = ap (λ l. x ∷ l) (set_there xs i a e)

  pub set_twice : (l : List V) (i : ℕ) (a b : V) → set (set l i a) i b ≡ set l i b
  set_twice [] i a b = refl
  set_twice (x ∷ xs) zero a b = refl
  set_twice (x ∷ xs) (suc i) a b = ap (λ l. x ∷ l) (set_twice xs i a b)

  pub set_flips : (l : List V) (i j : ℕ) (a b : V) → i ≢ j → set (set l i a) j b ≡ set (set l j b) i a
  set_flips [] i j a b n = refl
  set_flips (x ∷ xs) zero zero a b n = absurd (n refl)
  set_flips (x ∷ xs) zero (suc j) a b n = refl
  set_flips (x ∷ xs) (suc i) zero a b n = refl
  set_flips (x ∷ xs) (suc i) (suc j) a b n = ap (λ l. x ∷ l) (set_flips xs i j a b (λ e. n (ap suc e)))

  pub at_other : (l : List V) (i j : ℕ) (a : V) → i ≢ j → get_elem? (set l j a) i ≡ get_elem? l i
  at_other [] i j a n = refl
  at_other (x ∷ xs) zero zero a n = absurd (n refl)
  at_other (x ∷ xs) zero (suc j) a n = refl
  at_other (x ∷ xs) (suc i) zero a n = refl
  at_other (x ∷ xs) (suc i) (suc j) a n = at_other xs i j a (λ e. n (ap suc e))

  pub at_here : (l : List V) (i : ℕ) (a b : V) → get_elem? l i ≡ some b → get_elem? (set l i a) i ≡ some a
  at_here [] i a b e = absurd (some-ne-none b (sym e))
  at_here (x ∷ xs) zero a b e = refl
  at_here (x ∷ xs) (suc i) a b e = at_here xs i a b e

module _ {V X : Type 0} (f : V → List X) where
  -- one view grows by b
  pub grown : (l : List V) (i : ℕ) (v w : V) (b : List X) → get_elem? l i ≡ some v → f w ≡ f v ++ b → IsPermutation (flat_map f (set l i w)) (flat_map f l ++ b)
  grown [] i v w b at e = absurd (some-ne-none v (sym at))
  grown (x ∷ xs) zero v w b at e =
      let e' : f w ≡ f x ++ b = e ∙ ap (λ y. f y ++ b) (sym (some-injective x v at)) in
      rw (e', append_assoc (f x) b (flat_map f xs), append_assoc (f x) (flat_map f xs) b) (IsPermutation-append_right (f x) _ _ (IsPermutation-append_comm b (flat_map f xs)))
  grown (x ∷ xs) (suc i) v w b at e = rw (append_assoc (f x) (flat_map f xs) b) (IsPermutation-append_right (f x) _ _ (grown xs i v w b at e))

  -- one view is changed in what f doesn't see
  pub kept : (l : List V) (i : ℕ) (v w : V) → get_elem? l i ≡ some v → f w ≡ f v → flat_map f (set l i w) ≡ flat_map f l
  kept [] i v w at e = refl
  kept (x ∷ xs) zero v w at e = ap (λ ys. ys ++ flat_map f xs) (e ∙ ap f (sym (some-injective x v at)))
  kept (x ∷ xs) (suc i) v w at e = ap (λ ys. f x ++ ys) (kept xs i v w at e)

  -- a view is added that has nothing
  pub added : (l : List V) (w : V) → f w ≡ [] → flat_map f (l ++ w ∷ []) ≡ flat_map f l
  added l w e = flat_map-append f l (w ∷ []) ∙ ap (λ ys. flat_map f l ++ (ys ++ [])) e ∙ append-nil (flat_map f l)

  -- one view takes what another has
  pub merged : (l : List V) (i j : ℕ) (v u w g : V) → get_elem? l i ≡ some v → get_elem? l j ≡ some u → i ≢ j → f w ≡ f v ++ f u → f g ≡ []
      → IsPermutation (flat_map f (set (set l i w) j g)) (flat_map f l)
  merged l i j v u w g at at' apart e none =
      let m : List V = set l j g in
      let there : get_elem? m i ≡ some v = at_other l i j g apart ∙ at in
      let here : get_elem? m j ≡ some g = at_here l j g u at' in
      let back : set m j u ≡ l = set_twice l j g u ∙ set_there l j u at' in
      let out : IsPermutation (flat_map f (set m j u)) (flat_map f m ++ f u) = grown m j g u (f u) here (ap (λ ys. ys ++ f u) (sym none)) in
      let inside : IsPermutation (flat_map f (set m i w)) (flat_map f m ++ f u) = grown m i v w (f u) there e in
      rw (set_flips l i j w g apart) (IsPermutation-trans _ _ _ inside (IsPermutation-sym _ _ (subst (λ k. IsPermutation (flat_map f k) (flat_map f m ++ f u)) back out)))

-- where all views but one have nothing, the one has all
module _ {V X : Type 0} (f : V → List X) where
  nothing : (l : List V) → ((j : ℕ) (u : V) → get_elem? l j ≡ some u → f u ≡ []) → flat_map f l ≡ []
  nothing [] h = refl
  nothing (x ∷ xs) h = ap (λ ys. ys ++ flat_map f xs) (h zero x refl) ∙ nothing xs (λ j u e. h (suc j) u e)

  pub alone : (l : List V) (i : ℕ) (w : V) → get_elem? l i ≡ some w → ((j : ℕ) (u : V) → get_elem? l j ≡ some u → j ≢ i → f u ≡ []) → flat_map f l ≡ f w
  alone [] i w at h = absurd (some-ne-none w (sym at))
  alone (x ∷ xs) zero w at h = ap (λ ys. f x ++ ys) (nothing xs (λ j u e. h (suc j) u e (λ z. omega arith))) ∙ append-nil (f x) ∙ ap f (some-injective x w at)
  alone (x ∷ xs) (suc i) w at h = ap (λ ys. ys ++ flat_map f xs) (h zero x refl (λ z. omega arith)) ∙ alone xs i w at (λ j u e n. h (suc j) u e (λ z. n (omega arith)))

-- a fact of each member, after one is set or added
module _ {V : Type 0} (P : V → Type 0) where
  abbrev pub Each : List V → Type 0
  Each l = (j : ℕ) (v : V) → get_elem? l j ≡ some v → P v

  pub each_set : (l : List V) (i : ℕ) (w : V) → P w → Each l → Each (set l i w)
  each_set [] i w mine others j v at = others j v at
  each_set (x ∷ xs) zero w mine others zero v at = subst P (some-injective w v at) mine
  each_set (x ∷ xs) zero w mine others (suc j) v at = others (suc j) v at
  each_set (x ∷ xs) (suc i) w mine others zero v at = others zero v at
  each_set (x ∷ xs) (suc i) w mine others (suc j) v at = each_set xs i w mine (λ k u e. others (suc k) u e) j v at

  pub each_snoc : (l : List V) (w : V) → P w → Each l → Each (l ++ w ∷ [])
  each_snoc [] w mine others zero v at = subst P (some-injective w v at) mine
  each_snoc [] w mine others (suc j) v at = absurd (some-ne-none v (sym at))
  each_snoc (x ∷ xs) w mine others zero v at = others zero v at
  each_snoc (x ∷ xs) w mine others (suc j) v at = each_snoc xs w mine (λ k u e. others (suc k) u e) j v at
