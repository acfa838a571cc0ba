-- Lists that are appended to in turn.
use Rattle.std.proofs.Common.{◌≡◌, ℕ, zero, suc, ◌+◌, ◌<◌, ◌≤◌, List, [], ◌∷◌, ◌++◌, length, replicate, take, slice_index_or, refl, sym, ◌∙◌, ap, subst, arith, append_assoc}
use Rattle.std.specs.List.{flat_map}
use Rattle.std.proofs.lemmas.Grind.{flat_map-append}
use Rattle.std.proofs.Math.Seq.{take-suc}
use Rattle.std.proofs.lemmas.List.{replicate-append-replicate}
use Rattle.flat_numbers.specs.declared.home_noting.Noting.{Noting}
use Rattle.flat_numbers.specs.Listed.{one}
use Rattle.flat_numbers.specs.Noted.{Noted, full, noted}

pub append_none : {X : Type 0} (xs : List X) → xs ++ [] ≡ xs
append_none [] = refl
append_none (x ∷ xs) = ap (λ l. x ∷ l) (append_none xs)

-- the pieces of a list of parts, of which one more is made
pub flat_take : {X : Type 0} (f : X → List ℕ) (xs : List X) (i : ℕ) (d : X) → i < length xs → flat_map f (take (suc i) xs) ≡ flat_map f (take i xs) ++ f (slice_index_or xs i d)
flat_take f xs i d lt = ap (flat_map f) (take-suc xs i d lt) ∙ flat_map-append f (take i xs) (slice_index_or xs i d ∷ []) ∙ ap (λ l. flat_map f (take i xs) ++ l) (append_none (f (slice_index_or xs i d)))

module _ {s m t : Noting} where
  -- one behind the other
  pub then : {x y : List ℕ} → Noted s m x → Noted m t y → Noted s t (x ++ y)
  then {x = x} {y = y} (noted p e) (noted q f) = noted (q ∙ p) (f ∙ ap (λ l. l ++ y) e ∙ append_assoc s.homes x y)
  then (full p) (noted q f) = full (q ∙ p)
  then p (full q) = full q

pub told_as : {s t : Noting} {x y : List ℕ} → x ≡ y → Noted s t x → Noted s t y
told_as {s = s} {t = t} is n = subst (Noted s t) is n

pub none_yet : (s : Noting) → Noted s s []
none_yet s = noted refl (sym (append_none s.homes))

-- one more of so many that are alike
pub one_again : {s m t : Noting} (n d : ℕ) → Noted s m (replicate n d) → Noted m t (one d) → Noted s t (replicate (n + 1) d)
one_again n d p q = told_as (replicate-append-replicate n 1 d) (then p q)

-- one more part of a list
pub looped : {X : Type 0} {s m t : Noting} (f : X → List ℕ) (xs : List X) (i : ℕ) (d : X) → i < length xs → Noted s m (flat_map f (take i xs)) → Noted m t (f (slice_index_or xs i d)) → Noted s t (flat_map f (take (i + 1) xs))
looped f xs i d lt p q = let one_more : suc i ≡ i + 1 = omega arith in told_as (sym (flat_take f xs i d lt) ∙ ap (λ n. flat_map f (take n xs)) one_more) (then p q)

taken_all : {X : Type 0} (xs : List X) (i : ℕ) → length xs ≤ i → take i xs ≡ xs
taken_all [] zero le = refl
taken_all [] (suc i) le = refl
taken_all (x ∷ xs) zero le = absurd (omega (arith, le))
taken_all (x ∷ xs) (suc i) le = ap (λ l. x ∷ l) (taken_all xs i (omega (arith, le)))

-- all parts
pub all_looped : {X : Type 0} {s t : Noting} (f : X → List ℕ) (xs : List X) (i : ℕ) → length xs ≤ i → Noted s t (flat_map f (take i xs)) → Noted s t (flat_map f xs)
all_looped f xs i le p = told_as (ap (flat_map f) (taken_all xs i le)) p
