-- What holds along exchanges of two heads holds along a permutation.
use Rattle.std.proofs.Common.{ℕ, zero, suc, ◌<◌, List, [], ◌∷◌, set, get_or, length, swap, flat_map, append_assoc, IsPermutation, arith}
use Rattle.std.proofs.lemmas.List.Sorted.{IsPermutation-refl, IsPermutation-trans, IsPermutation-append_left, IsPermutation-append_right, IsPermutation-append_comm, IsPermutation-keeps}

-- R goes under a head, over two heads and along a chain
pub record Follows {X : Type 0} (R : List X → List X → Type 0) : Type 0 where
  pub none : (xs : List X) → R xs xs
  pub under : (x : X) (xs ys : List X) → R xs ys → R (x ∷ xs) (x ∷ ys)
  pub over : (x y : X) (xs : List X) → R (x ∷ y ∷ xs) (y ∷ x ∷ xs)
  pub along : (xs ys zs : List X) → R xs ys → R ys zs → R xs zs

module _ {X : Type 0} (R : List X → List X → Type 0) (h : Follows R) where
  first_out : (l : List X) (j : ℕ) (x d : X) → j < length l → R (x ∷ l) (get_or l j d ∷ set l j x)
  first_out [] j x d lt = absurd (omega arith)
  first_out (y ∷ l) zero x d lt = h.over x y l
  first_out (y ∷ l) (suc j) x d lt = h.along _ _ _ (h.over x y l) (h.along _ _ _ (h.under y _ _ (first_out l j x d (omega arith))) (h.over y (get_or l j d) (set l j x)))

  one_swap : (l : List X) (i j : ℕ) (d : X) → i < length l → j < length l → R l (set (set l i (get_or l j d)) j (get_or l i d))
  one_swap [] i j d p q = absurd (omega arith)
  one_swap (x ∷ l) zero zero d p q = h.none (x ∷ l)
  one_swap (x ∷ l) zero (suc j) d p q = first_out l j x d (omega arith)
  one_swap (x ∷ l) (suc i) zero d p q = first_out l i x d (omega arith)
  one_swap (x ∷ l) (suc i) (suc j) d p q = h.under x _ _ (one_swap l i j d (omega arith) (omega arith))

  one : (l : List X) (i j : ℕ) → i < length l → j < length l → R l (swap l i j)
  one [] i j p q = h.none []
  one (x ∷ l) i j p q = one_swap (x ∷ l) i j x p q

  pub follows : (xs ys : List X) → IsPermutation xs ys → R xs ys
  follows xs = IsPermutation-keeps xs (R xs) (h.none xs) (λ l i j p q k. h.along xs l _ k (one l i j p q))

pub flat_map_permutes : {A B : Type 0} (f : A → List B) (xs ys : List A) → IsPermutation xs ys → IsPermutation (flat_map f xs) (flat_map f ys)
flat_map_permutes {A} {B} f = follows (λ xs ys. IsPermutation (flat_map f xs) (flat_map f ys)) (record {
  none = λ xs. IsPermutation-refl (flat_map f xs);
  under = λ x xs ys k. IsPermutation-append_right (f x) _ _ k;
  over = λ x y xs. rw (← append_assoc (f x) (f y) (flat_map f xs), ← append_assoc (f y) (f x) (flat_map f xs)) (IsPermutation-append_left (flat_map f xs) _ _ (IsPermutation-append_comm (f x) (f y)));
  along = λ xs ys zs. IsPermutation-trans (flat_map f xs) (flat_map f ys) (flat_map f zs);
})
