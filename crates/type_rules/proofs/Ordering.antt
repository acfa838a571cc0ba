-- Rows without repetition, in any order.
use Rattle.std.proofs.Common.{◌≡◌, ◌↔◌, ℕ, zero, suc, ◌+◌, ◌≤◌, ◌<◌, List, [], ◌∷◌, length, slice_index_or, refl, sym, ◌∙◌, ap, subst, arith}
use Rattle.std.specs.List.{Contains}
use Rattle.std.specs.List.Sorted.{IsPermutation, IsNonDecreasing}
use Rattle.std.proofs.lemmas.List.Sorted.{Contains-permutation, IsPermutation-sym, length_permutation}
use mathlib.Core.Logic.{◌⊎◌, inl, inr}
use Rattle.fut_types.specs.Shapes.{Rising}
use Rattle.fut_typing.specs.Names.{Once}
use Rattle.fut_typing.proofs.Members.{In, in_list, list_in}
use Rattle.type_rules.proofs.Naming.{Apart}

at_in : (xs : List ℕ) (k d : ℕ) → k < length xs → In (slice_index_or xs k d) xs
at_in [] k d lt = absurd (omega arith)
at_in (x ∷ xs) zero d lt = inl refl
at_in (x ∷ xs) (suc k) d lt = inr (at_in xs k d (omega arith))

in_at : (xs : List ℕ) (l : ℕ) → In l xs → (k : ℕ) × (k < length xs) × (slice_index_or xs k 0 ≡ l)
in_at [] l i = absurd i
in_at (x ∷ xs) l (inl e) = (0, omega arith, sym e)
in_at (x ∷ xs) l (inr i) = let r = in_at xs l i in let lt : r.0 < length xs = r.1 in (suc r.0, omega arith, r.2)

pub once_apart : (xs : List ℕ) → Once xs → Apart xs
once_apart [] o = tt
once_apart (x ∷ xs) o = (
  (λ i. let r = in_at xs x i in let lt : r.0 < length xs = r.1 in o 0 (suc r.0) 0 (omega arith) (omega arith) (sym r.2)),
  once_apart xs (λ i j d lt l. o (suc i) (suc j) d (omega arith) (omega arith)),
)

pub apart_once : (xs : List ℕ) → Apart xs → Once xs
apart_once [] a i j d lt l = absurd (omega arith)
apart_once (x ∷ xs) a zero zero d lt l = absurd (omega arith)
apart_once (x ∷ xs) a zero (suc j) d lt l = λ e. a.0 (subst (λ y. In y xs) (sym e) (at_in xs j d (omega arith)))
apart_once (x ∷ xs) a (suc i) zero d lt l = absurd (omega arith)
apart_once (x ∷ xs) a (suc i) (suc j) d lt l = apart_once xs a.1 i j d (omega arith) (omega arith)

-- a row without one of its numbers
pub record Without (x : ℕ) (ys zs : List ℕ) : Type 0 where
  pub long : length ys ≡ suc (length zs)
  pub rest : (y : ℕ) → In y ys → (y ≡ x) ⊎ In y zs
  pub inside : (y : ℕ) → In y zs → In y ys
  pub apart : Apart ys → Apart zs × (In x zs → ⊥)

without : (x : ℕ) (ys : List ℕ) → In x ys → (zs : List ℕ) × Without x ys zs
without x [] i = absurd i
without x (y ∷ ys) (inl e) = (
  ys,
  record {
    long = refl;
    rest = λ z h. elim h as (λ d. (z ≡ x) ⊎ In z ys) [ inl p ↦ inl (p ∙ sym e) | inr q ↦ inr q ];
    inside = λ z h. inr h;
    apart = λ a. (a.1, (λ h. a.0 (subst (λ q. In q ys) e h)));
  },
)
without x (y ∷ ys) (inr i) = let r = without x ys i in (
  y ∷ r.0,
  record {
    long = ap suc r.1.long;
    rest = λ z h. elim h as (λ d. (z ≡ x) ⊎ In z (y ∷ r.0)) [ inl p ↦ inr (inl p) | inr q ↦ elim (r.1.rest z q) as (λ d. (z ≡ x) ⊎ In z (y ∷ r.0)) [ inl e ↦ inl e | inr w ↦ inr (inr w) ] ];
    inside = λ z h. elim h as (λ d. In z (y ∷ ys)) [ inl p ↦ inl p | inr q ↦ inr (r.1.inside z q) ];
    apart = λ a. ((λ h. a.0 (r.1.inside y h), (r.1.apart a.1).0), (λ h. elim h as (λ d. ⊥) [ inl p ↦ a.0 (subst (λ q. In q ys) p i) | inr q ↦ (r.1.apart a.1).1 q ]));
  },
)

fits : (xs ys : List ℕ) → Apart xs → ((x : ℕ) → In x xs → In x ys) → length xs ≤ length ys
fits [] ys a sub = omega arith
fits (x ∷ xs) ys a sub = let r = without x ys (sub x (inl refl)) in
    let le : length xs ≤ length r.0 = fits xs r.0 a.1 (λ z i. elim (r.1.rest z (sub z (inr i))) as (λ d. In z r.0) [ inl e ↦ absurd (a.0 (subst (λ q. In q xs) e i)) | inr v ↦ v ]) in
    let l : length ys ≡ suc (length r.0) = r.1.long in omega arith

-- a row of the same numbers that is as long has no repetition either
pub apart_moved : (ys xs : List ℕ) → Apart xs → ((x : ℕ) → In x xs → In x ys) → ((y : ℕ) → In y ys → In y xs) → length ys ≡ length xs → Apart ys
apart_moved [] xs a to fro long = tt
apart_moved (y ∷ ys) xs a to fro long = let r = without y xs (fro y (inl refl)) in let l : length xs ≡ suc (length r.0) = r.1.long in let b = r.1.apart a in
    let fresh : In y ys → ⊥ = λ i. let le : length xs ≤ length ys = fits xs ys a (λ z h. elim (to z h) as (λ d. In z ys) [ inl e ↦ subst (λ q. In q ys) (sym e) i | inr q ↦ q ]) in absurd (omega arith) in (
      fresh,
      apart_moved ys r.0 b.0
          (λ z h. elim (to z (r.1.inside z h)) as (λ d. In z ys) [ inl e ↦ absurd (b.1 (subst (λ q. In q r.0) e h)) | inr q ↦ q ])
          (λ z h. elim (r.1.rest z (fro z (inr h))) as (λ d. In z r.0) [ inl e ↦ absurd (fresh (subst (λ q. In q ys) e h)) | inr w ↦ w ])
          (omega arith),
    )

abbrev pub Rises : List ℕ → Type 0
Rises xs = (k : ℕ) → k + 1 < length xs → slice_index_or xs k 0 < slice_index_or xs (k + 1) 0

rises_rest : (x : ℕ) (xs : List ℕ) → Rises (x ∷ xs) → Rises xs
rises_rest x xs r k lt = subst (λ n. slice_index_or xs k 0 < slice_index_or (x ∷ xs) n 0) (let e : suc k + 1 ≡ suc (k + 1) = omega arith in e) (r (suc k) (omega arith))

above : (x : ℕ) (xs : List ℕ) → Rises (x ∷ xs) → (z : ℕ) → In z xs → x < z
above x [] r z i = absurd i
above x (y ∷ ys) r z (inl e) = let lt : x < y = r 0 (omega arith) in omega (arith, e)
above x (y ∷ ys) r z (inr i) = let lt : x < y = r 0 (omega arith) in let l2 : y < z = above y ys (rises_rest x (y ∷ ys) r) z i in omega arith

rises_apart : (xs : List ℕ) → Rises xs → Apart xs
rises_apart [] r = tt
rises_apart (x ∷ xs) r = ((λ i. let lt : x < x = above x xs r x i in absurd (omega arith)), rises_apart xs (rises_rest x xs r))

rising_from : (from : ℕ) (xs : List ℕ) → Rises xs → (0 < length xs → from ≤ slice_index_or xs 0 0) → Rising from xs
rising_from from [] r h = tt
rising_from from (x ∷ xs) r h = (h (omega arith), rising_from (suc x) xs (rises_rest x xs r) (λ lt. r 0 (omega arith)))

pub rising_all : (xs : List ℕ) → Rises xs → Rising 0 xs
rising_all xs r = rising_from 0 xs r (λ lt. omega arith)

once_rises : (xs : List ℕ) → IsNonDecreasing xs → Once xs → Rises xs
once_rises xs s o k lt = let le : slice_index_or xs k 0 ≤ slice_index_or xs (k + 1) 0 = s k (k + 1) 0 (omega arith) lt in let ne = o k (k + 1) 0 (omega arith) lt in grind (arith, ne)

module _ (row list : List ℕ) (moved : IsPermutation row list) where
  to : (l : ℕ) → Contains row l → Contains list l
  to l c = Contains-permutation row list l moved c

  fro : (l : ℕ) → Contains list l → Contains row l
  fro l c = Contains-permutation list row l (IsPermutation-sym row list moved) c

  long : length list ≡ length row
  long = length_permutation row list moved

  pub all_found : Rises list → Once row × ((l : ℕ) → Contains list l ↔ Contains row l) × (length list ≡ length row)
  all_found r = (apart_once row (apart_moved row list (rises_apart list r) (λ l i. in_list row l (fro l (list_in list l i))) (λ l i. in_list list l (to l (list_in row l i))) (sym long)), (λ l. (fro l, to l)), long)

  pub none_found : IsNonDecreasing list → (Rises list → ⊥) → Once row → ⊥
  none_found s n o = n (once_rises list s (apart_once list (apart_moved list row (once_apart row o) (λ l i. in_list list l (to l (list_in row l i))) (λ l i. in_list row l (fro l (list_in list l i))) long)))
