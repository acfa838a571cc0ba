-- Lists from an index on.
use Rattle.std.proofs.Common.{◌≡◌, ℕ, suc, ◌+◌, ◌<◌, ◌++◌, List, [], ◌∷◌, map, length, get_or, drop, take, zero, refl, sym, ap, ◌∙◌, arith}
use Rattle.std.proofs.lemmas.List.{map-append}
use Rattle.std.proofs.Math.Seq.{drop-cons}

pub one_more : {X : Type 0} (xs : List X) (i : ℕ) (d : X) → i < length xs → drop i xs ≡ get_or xs i d ∷ drop (i + 1) xs
one_more xs i d lt = let e : suc i ≡ i + 1 = omega arith in drop-cons xs i d lt ∙ ap (λ z. get_or xs i d ∷ drop z xs) e

-- the same of what is made of each
pub one_mapped : {X Y : Type 0} (f : X → Y) (xs : List X) (i : ℕ) (d : X) → i < length xs → drop i (map f xs) ≡ f (get_or xs i d) ∷ drop (i + 1) (map f xs)
one_mapped f [] i d lt = absurd (omega (arith, lt))
one_mapped f (x ∷ xs) zero d lt = refl
one_mapped f (x ∷ xs) (suc i) d lt = let e : suc (i + 1) ≡ suc i + 1 = omega arith in one_mapped f xs i d (omega (arith, lt)) ∙ ap (λ z. f (get_or xs i d) ∷ drop z (f x ∷ map f xs)) e

pub take_more : {X : Type 0} (xs : List X) (i : ℕ) (d : X) → i < length xs → take (i + 1) xs ≡ take i xs ++ get_or xs i d ∷ []
take_more [] i d lt = absurd (omega (arith, lt))
take_more (x ∷ xs) zero d lt = refl
take_more (x ∷ xs) (suc i) d lt = let e : suc i + 1 ≡ suc (i + 1) = omega arith in ap (λ z. take z (x ∷ xs)) e ∙ ap (λ z. x ∷ z) (take_more xs i d (omega (arith, lt)))

-- what is made of the first elements, and of one more
pub made_more : {X Y : Type 0} (f : X → Y) (xs : List X) (i : ℕ) (d : X) (ys ys' : List Y) → i < length xs → ys ≡ map f (take i xs) → ys' ≡ ys ++ f (get_or xs i d) ∷ [] → ys' ≡ map f (take (i + 1) xs)
made_more f xs i d ys ys' lt e q = q ∙ ap (λ z. z ++ f (get_or xs i d) ∷ []) e ∙ sym (map-append f (take i xs) (get_or xs i d ∷ [])) ∙ ap (map f) (sym (take_more xs i d lt))
