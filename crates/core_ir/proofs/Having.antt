-- Outcomes that are no Wrong and whose values have a property, and properties of each element of a list. These are to come from the
-- laws of the meaning, beside `Every`.
use Rattle.std.proofs.Common.{◌≡◌, Bool, true, false, ◌++◌, ℕ, zero, suc, refl, List, [], ◌∷◌, map, take, drop, reverse, replicate, slice_get, slice_set, Option, Some, None}
use mathlib.Core.List.{reverse_aux}
use Rattle.fut_scalar.specs.declared.place.Place.{Place}
use Rattle.fut_scalar.specs.declared.report.FailKind.{FailKind}
use Rattle.fut_meaning.specs.Arrays.{checked, fitting, each_out, or_bounds}
use Rattle.fut_meaning.specs.Claims.{HasOut}
use Rattle.fut_meaning.specs.Outcomes.{Out, Val, Fail, Wrong, and_then}
use Rattle.fut_meaning.proofs.Safe.{Every}

pub every_as : {A : Type 0} (P Q : A → Type 0) (xs : List A) → ((x : A) → P x → Q x) → Every P xs → Every Q xs
every_as P Q [] go e = tt
every_as P Q (x ∷ xs) go e = (go x e.0, every_as P Q xs go e.1)

pub every_more : {A : Type 0} (P : A → Type 0) (xs ys : List A) → Every P xs → Every P ys → Every P (xs ++ ys)
every_more P [] ys e f = f
every_more P (x ∷ xs) ys e f = (e.0, every_more P xs ys e.1 f)

pub every_taken : {A : Type 0} (P : A → Type 0) (n : ℕ) (xs : List A) → Every P xs → Every P (take n xs)
every_taken P zero xs e = tt
every_taken P (suc n) [] e = tt
every_taken P (suc n) (x ∷ xs) e = (e.0, every_taken P n xs e.1)

pub every_dropped : {A : Type 0} (P : A → Type 0) (n : ℕ) (xs : List A) → Every P xs → Every P (drop n xs)
every_dropped P zero xs e = e
every_dropped P (suc n) [] e = tt
every_dropped P (suc n) (x ∷ xs) e = every_dropped P n xs e.1

every_turned : {A : Type 0} (P : A → Type 0) (xs ys : List A) → Every P xs → Every P ys → Every P (reverse_aux xs ys)
every_turned P [] ys e f = f
every_turned P (x ∷ xs) ys e f = every_turned P xs (x ∷ ys) e.1 (e.0, f)

pub every_reversed : {A : Type 0} (P : A → Type 0) (xs : List A) → Every P xs → Every P (reverse xs)
every_reversed P xs e = every_turned P xs [] e tt

pub every_copy : {A : Type 0} (P : A → Type 0) (n : ℕ) (x : A) → P x → Every P (replicate n x)
every_copy P zero x p = tt
every_copy P (suc n) x p = (p, every_copy P n x p)

pub every_set : {A : Type 0} (P : A → Type 0) (n : ℕ) (xs : List A) (y : A) → Every P xs → P y → Every P (slice_set xs n y)
every_set P n [] y e p = tt
every_set P zero (x ∷ xs) y e p = (p, e.1)
every_set P (suc n) (x ∷ xs) y e p = (e.0, every_set P n xs y e.1 p)

pub every_map : {A B : Type 0} (P : A → Type 0) (Q : B → Type 0) (g : A → B) → ((x : A) → P x → Q (g x)) → (xs : List A) → Every P xs → Every Q (map g xs)
every_map P Q g h [] e = tt
every_map P Q g h (x ∷ xs) e = (h x e.0, every_map P Q g h xs e.1)

-- of elements of which nothing is known
pub every_made : {A B : Type 0} (Q : B → Type 0) (g : A → B) → ((x : A) → Q (g x)) → (xs : List A) → Every Q (map g xs)
every_made Q g h [] = tt
every_made Q g h (x ∷ xs) = (h x, every_made Q g h xs)

-- what is found
abbrev pub If_some : {A : Type 0} → (A → Type 0) → Option A → Type 0
If_some P None = Unit {0}
If_some P (Some a) = P a

pub every_found : {A : Type 0} (P : A → Type 0) (n : ℕ) (xs : List A) → Every P xs → If_some P (slice_get xs n)
every_found P n [] e = tt
every_found P zero (x ∷ xs) e = e.0
every_found P (suc n) (x ∷ xs) e = every_found P n xs e.1

-- ---- outcomes

pub has_then : {A B : Type 0} (P : A → Type 0) (Q : B → Type 0) (o : Out A) (k : A → Out B) → HasOut P o → ((x : A) → P x → HasOut Q (k x)) → HasOut Q (and_then o k)
has_then P Q (Val a) k h l = l a h
has_then P Q (Fail r) k h l = tt
has_then P Q Wrong k h l = absurd h

pub has_as : {A : Type 0} (P Q : A → Type 0) (o : Out A) → ((a : A) → P a → Q a) → HasOut P o → HasOut Q o
has_as P Q (Val a) go h = go a h
has_as P Q (Fail r) go h = tt
has_as P Q Wrong go h = h

pub has_fitting : {A : Type 0} (P : A → Type 0) (b : Bool) (at : Place) (o : Out A) → (b ≡ true → HasOut P o) → HasOut P (fitting false b at o)
has_fitting P true at o h = h refl
has_fitting P false at o h = tt

pub has_checked : {A : Type 0} (P : A → Type 0) (b : Bool) (k : FailKind) (at : Place) (o : Out A) → HasOut P o → HasOut P (checked b k at o)
has_checked P true k at o h = h
has_checked P false k at o h = tt

pub has_each : {A B : Type 0} (P : A → Type 0) (Q : B → Type 0) (g : A → Out B) → ((a : A) → P a → HasOut Q (g a)) → (xs : List A) → Every P xs → HasOut (Every Q) (each_out g xs)
has_each P Q g h [] e = tt
has_each P Q g h (x ∷ xs) e = has_then Q (Every Q) (g x) _ (h x e.0) (λ y q. has_then (Every Q) (Every Q) (each_out g xs) _ (has_each P Q g h xs e.1) (λ ys qs. (q, qs)))

pub has_bounds : {A : Type 0} (P : A → Type 0) (at : Place) (o : Option A) → If_some P o → HasOut P (or_bounds at o)
has_bounds P at None h = tt
has_bounds P at (Some a) h = h
