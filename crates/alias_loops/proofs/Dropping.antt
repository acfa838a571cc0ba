-- Lists from their first part on, and from their last one on.
use Rattle.std.proofs.Common.{◌≡◌, ℕ, zero, suc, ◌+◌, ◌<◌, List, [], ◌∷◌, ◌++◌, map, length, get_or, take, drop, refl, sym, ap, ◌∙◌, add-one, arith}

take_more : {A : Type 0} (xs : List A) (i : ℕ) (d : A) → i < length xs → take (suc i) xs ≡ take i xs ++ get_or xs i d ∷ []
take_more [] i d l = absurd (omega arith)
take_more (x ∷ xs) zero d l = refl
take_more (x ∷ xs) (suc i) d l = ap (λ z. x ∷ z) (take_more xs i d (omega arith))

map_more : {A B : Type 0} (f : A → B) (xs : List A) (x : A) → map f (xs ++ x ∷ []) ≡ map f xs ++ f x ∷ []
map_more f [] x = refl
map_more f (y ∷ xs) x = ap (λ z. f y ∷ z) (map_more f xs x)

pub taken_more : {A B : Type 0} (f : A → B) (xs : List A) (i : ℕ) (d : A) → i < length xs → map f (take i xs) ++ f (get_or xs i d) ∷ [] ≡ map f (take (i + 1) xs)
taken_more f xs i d l = sym (ap (λ k. map f (take k xs)) (add-one i) ∙ ap (map f) (take_more xs i d l) ∙ map_more f (take i xs) (get_or xs i d))

-- where something is left, the place is in the list
pub some_left : {A : Type 0} (xs ys : List A) (n : ℕ) (y : A) → y ∷ ys ≡ drop n xs → n < length xs
some_left [] ys zero y e = cc
some_left [] ys (suc n) y e = cc
some_left (x ∷ xs) ys zero y e = omega arith
some_left (x ∷ xs) ys (suc n) y e = let l : n < length xs = some_left xs ys n y e in omega (arith, l)

-- what is made grows by one at its end, while what is left loses its first
pub one_made : {A B : Type 0} (f : A → B) (made longer : List A) (a : A) (b : B) (rest : List B) → longer ≡ made ++ a ∷ [] → f a ≡ b → map f made ++ b ∷ rest ≡ map f longer ++ rest
one_made {A = A} f made longer a b rest e h = ap (λ z. map f made ++ z ∷ rest) (sym h) ∙ moved made ∙ ap (λ z. map f z ++ rest) (sym e)
  where
    moved : (xs : List A) → map f xs ++ f a ∷ rest ≡ map f (xs ++ a ∷ []) ++ rest
    moved [] = refl
    moved (x ∷ xs) = ap (λ z. f x ∷ z) (moved xs)

pub made_all : {A B : Type 0} (f : A → B) (made : List A) (rest : List B) → rest ≡ [] → map f made ++ rest ≡ map f made
made_all {B = B} f made rest e = ap (λ z. map f made ++ z) e ∙ nothing_behind (map f made)
  where
    nothing_behind : (xs : List B) → xs ++ [] ≡ xs
    nothing_behind [] = refl
    nothing_behind (x ∷ xs) = ap (λ z. x ∷ z) (nothing_behind xs)
