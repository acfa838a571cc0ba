-- Lists that are appended to in turn.
use Rattle.std.proofs.Common.{◌≡◌, ℕ, zero, suc, ◌+◌, ◌<◌, ◌≤◌, List, [], ◌∷◌, ◌++◌, length, map, replicate, take, slice_index_or, refl, sym, ◌∙◌, ap, subst, arith, append_assoc}
use Rattle.std.specs.List.{flat_map}
use Rattle.std.proofs.lemmas.Grind.{flat_map-append}
use Rattle.std.proofs.lemmas.List.{length-append, replicate-append-replicate}
use Rattle.std.proofs.Math.Seq.{take-suc}
use Rattle.fut_scalar.specs.declared.place.Place.{Place}
use Rattle.flat_numbers.specs.declared.place_noting.Noting.{Noting}
use Rattle.flat_numbers.specs.PlaceNoted.{Noted, full, noted}
use Rattle.flat_numbers.specs.Places.{one}

module _ {A : Type 0} where
  pub append_none : (xs : List A) → xs ++ [] ≡ xs
  append_none [] = refl
  append_none (x ∷ xs) = ap (λ l. x ∷ l) (append_none xs)

  -- how long two pieces are
  pub two : (xs ys : List A) (m n : ℕ) → length xs ≡ m → length ys ≡ n → length (xs ++ ys) ≡ m + n
  two xs ys m n e f = length-append xs ys ∙ (λ i. e i + f i)

  -- the pieces of a list of parts, of which one more is made
  flat_take : {X : Type 0} (f : X → List A) (xs : List X) (i : ℕ) (d : X) → i < length xs → flat_map f (take (suc i) xs) ≡ flat_map f (take i xs) ++ f (slice_index_or xs i d)
  flat_take f xs i d lt = ap (flat_map f) (take-suc xs i d lt) ∙ flat_map-append f (take i xs) (slice_index_or xs i d ∷ []) ∙ ap (λ l. flat_map f (take i xs) ++ l) (append_none (f (slice_index_or xs i d)))

  -- pieces of what is made of each
  pub flat_of_map : {X Y : Type 0} (f : Y → List A) (g : X → Y) (xs : List X) → flat_map f (map g xs) ≡ flat_map (λ x. f (g x)) xs
  flat_of_map f g [] = refl
  flat_of_map f g (x ∷ xs) = ap (λ l. f (g x) ++ l) (flat_of_map f g xs)

module _ {s m t : Noting} where
  -- one behind the other
  pub then : {x y : List Place} → Noted s m x → Noted m t y → Noted s t (x ++ y)
  then {x = x} {y = y} (noted p e) (noted q f) = noted (q ∙ p) (f ∙ ap (λ l. l ++ y) e ∙ append_assoc s.places x y)
  then (full p) (noted q f) = full (q ∙ p)
  then p (full q) = full q

pub told_as : {s t : Noting} {x y : List Place} → x ≡ y → Noted s t x → Noted s t y
told_as {s = s} {t = t} is n = subst (Noted s t) is n

pub none_yet : (s : Noting) → Noted s s []
none_yet s = noted refl (sym (append_none s.places))

-- one more of so many that are alike
pub one_again : {s m t : Noting} (n : ℕ) (at : Place) → Noted s m (replicate n at) → Noted m t (one at) → Noted s t (replicate (n + 1) at)
one_again n at p q = told_as (replicate-append-replicate n 1 at) (then p q)

-- one more part of a list
pub looped : {X : Type 0} {s m t : Noting} (f : X → List Place) (xs : List X) (i : ℕ) (d : X) → i < length xs → Noted s m (flat_map f (take i xs)) → Noted m t (f (slice_index_or xs i d)) → Noted s t (flat_map f (take (i + 1) xs))
looped f xs i d lt p q = let one_more : suc i ≡ i + 1 = omega arith in told_as (sym (flat_take f xs i d lt) ∙ ap (λ n. flat_map f (take n xs)) one_more) (then p q)

taken_all : {X : Type 0} (xs : List X) (i : ℕ) → length xs ≤ i → take i xs ≡ xs
taken_all [] zero le = refl
taken_all [] (suc i) le = refl
taken_all (x ∷ xs) zero le = absurd (omega (arith, le))
taken_all (x ∷ xs) (suc i) le = ap (λ l. x ∷ l) (taken_all xs i (omega (arith, le)))

-- all parts
pub all_looped : {X : Type 0} {s t : Noting} (f : X → List Place) (xs : List X) (i : ℕ) → length xs ≤ i → Noted s t (flat_map f (take i xs)) → Noted s t (flat_map f xs)
all_looped f xs i le p = told_as (ap (flat_map f) (taken_all xs i le)) p
