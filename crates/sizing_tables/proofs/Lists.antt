-- Lists that are noted in turn.
use Rattle.std.proofs.Common.{◌≡◌, ℕ, zero, suc, ◌+◌, ◌<◌, ◌≤◌, List, [], ◌∷◌, ◌++◌, length, replicate, take, slice_index_or, Option, None, refl, sym, ◌∙◌, ap, subst, arith, append_assoc}
use Rattle.std.specs.List.{flat_map}
use Rattle.std.proofs.lemmas.Grind.{flat_map-append}
use Rattle.std.proofs.Math.Seq.{take-suc}
use Rattle.std.proofs.lemmas.List.{replicate-append-replicate}
use Rattle.sizing_tables.specs.declared.noting.Noting.{Noting}
use Rattle.sizing_tables.specs.Noted.{Noted, full, noted}

pub append_none : {X : Type 0} (xs : List X) → xs ++ [] ≡ xs
append_none [] = refl
append_none (x ∷ xs) = ap (λ l. x ∷ l) (append_none xs)

-- the pieces of a list of parts, of which one more is made
pub flat_take : {X Y : Type 0} (f : X → List Y) (xs : List X) (i : ℕ) (d : X) → i < length xs → flat_map f (take (suc i) xs) ≡ flat_map f (take i xs) ++ f (slice_index_or xs i d)
flat_take f xs i d lt = ap (flat_map f) (take-suc xs i d lt) ∙ flat_map-append f (take i xs) (slice_index_or xs i d ∷ []) ∙ ap (λ l. flat_map f (take i xs) ++ l) (append_none (f (slice_index_or xs i d)))

-- one behind the other
pub then : {s m t : Noting} {x y : List (Option ℕ)} {u v : List ℕ} → Noted s m x u → Noted m t y v → Noted s t (x ++ y) (u ++ v)
then {s} {x = x} {y} {u} {v} (noted p e f) (noted q g h) = noted (q ∙ p) (g ∙ ap (λ l. l ++ y) e ∙ append_assoc s.names x y) (h ∙ ap (λ l. l ++ v) f ∙ append_assoc s.sizes u v)
then (full p) (noted q g h) = full (q ∙ p)
then p (full q) = full q

pub told_as : {s t : Noting} {x y : List (Option ℕ)} {u v : List ℕ} → x ≡ y → u ≡ v → Noted s t x u → Noted s t y v
told_as {s} {t} {x} {y} {u} {v} e f n = subst (λ l. Noted s t l v) e (subst (Noted s t x) f n)

pub none_yet : (s : Noting) → Noted s s [] []
none_yet s = noted refl (sym (append_none s.names)) (sym (append_none s.sizes))

-- one more node of so many that bind no name
pub one_again : {s m t : Noting} (n : ℕ) → Noted s m (replicate n None) [] → Noted m t (None ∷ []) [] → Noted s t (replicate (n + 1) None) []
one_again n p q = told_as (replicate-append-replicate n 1 None) refl (then p q)

pub taken_all : {X : Type 0} (xs : List X) (i : ℕ) → length xs ≤ i → take i xs ≡ xs
taken_all [] zero le = refl
taken_all [] (suc i) le = refl
taken_all (x ∷ xs) zero le = absurd (omega (arith, le))
taken_all (x ∷ xs) (suc i) le = ap (λ l. x ∷ l) (taken_all xs i (omega (arith, le)))

-- one more part of a list, and all parts
module _ {X : Type 0} (f : X → List (Option ℕ)) (g : X → List ℕ) (xs : List X) where
  one_more : {Y : Type 0} (h : X → List Y) (i : ℕ) (d : X) → i < length xs → flat_map h (take i xs) ++ h (slice_index_or xs i d) ≡ flat_map h (take (i + 1) xs)
  one_more h i d lt = let e : suc i ≡ i + 1 = omega arith in sym (flat_take h xs i d lt) ∙ ap (λ n. flat_map h (take n xs)) e

  pub looped : {s m t : Noting} (i : ℕ) (d : X) → i < length xs → Noted s m (flat_map f (take i xs)) (flat_map g (take i xs)) → Noted m t (f (slice_index_or xs i d)) (g (slice_index_or xs i d)) → Noted s t (flat_map f (take (i + 1) xs)) (flat_map g (take (i + 1) xs))
  looped i d lt p q = told_as (one_more f i d lt) (one_more g i d lt) (then p q)

  pub all_looped : {s t : Noting} (i : ℕ) → length xs ≤ i → Noted s t (flat_map f (take i xs)) (flat_map g (take i xs)) → Noted s t (flat_map f xs) (flat_map g xs)
  all_looped i le p = told_as (ap (flat_map f) (taken_all xs i le)) (ap (flat_map g) (taken_all xs i le)) p

-- the same where no sizes are noted
module _ {X : Type 0} (f : X → List (Option ℕ)) (xs : List X) where
  pub looped_names : {s m t : Noting} (i : ℕ) (d : X) → i < length xs → Noted s m (flat_map f (take i xs)) [] → Noted m t (f (slice_index_or xs i d)) [] → Noted s t (flat_map f (take (i + 1) xs)) []
  looped_names i d lt p q = let e : suc i ≡ i + 1 = omega arith in told_as (sym (flat_take f xs i d lt) ∙ ap (λ n. flat_map f (take n xs)) e) refl (then p q)

  pub all_looped_names : {s t : Noting} (i : ℕ) → length xs ≤ i → Noted s t (flat_map f (take i xs)) [] → Noted s t (flat_map f xs) []
  all_looped_names i le p = told_as (ap (flat_map f) (taken_all xs i le)) refl p
