-- A function that gives different numbers to finitely many goes on to a permutation of all numbers.
use Rattle.std.proofs.Common.{◌≡◌, ◌≢◌, ℕ, zero, suc, ◌≤◌, ◌<◌, refl, sym, ◌∙◌, ap, arith}
use native.Mathlib.Decide.{ℕ_discrete}

-- x and y change places
abbrev swapped : ℕ → ℕ → ℕ → ℕ
swapped x y n = elim (ℕ_discrete n x) as (λ d. ℕ) [ yes e ↦ y | no ne ↦ elim (ℕ_discrete n y) as (λ d. ℕ) [ yes e ↦ x | no ne ↦ n ] ]

swapped_first : (x y n : ℕ) → n ≡ x → swapped x y n ≡ y
swapped_first x y n h = elim (ℕ_discrete n x) as (λ d. (elim d as (λ d. ℕ) [ yes e ↦ y | no ne ↦ elim (ℕ_discrete n y) as (λ d. ℕ) [ yes e ↦ x | no ne ↦ n ] ]) ≡ y) [ yes e ↦ refl | no ne ↦ absurd (ne h) ]

swapped_second : (x y n : ℕ) → n ≡ y → swapped x y n ≡ x
swapped_second x y n h = elim (ℕ_discrete n x) as (λ d. (elim d as (λ d. ℕ) [ yes e ↦ y | no ne ↦ elim (ℕ_discrete n y) as (λ d. ℕ) [ yes e ↦ x | no ne ↦ n ] ]) ≡ x) [
  | yes e ↦ sym h ∙ e
  | no ne ↦ elim (ℕ_discrete n y) as (λ d. (elim d as (λ d. ℕ) [ yes e ↦ x | no ne ↦ n ]) ≡ x) [ yes e ↦ refl | no nn ↦ absurd (nn h) ]
]

swapped_other : (x y n : ℕ) → n ≢ x → n ≢ y → swapped x y n ≡ n
swapped_other x y n h k = elim (ℕ_discrete n x) as (λ d. (elim d as (λ d. ℕ) [ yes e ↦ y | no ne ↦ elim (ℕ_discrete n y) as (λ d. ℕ) [ yes e ↦ x | no ne ↦ n ] ]) ≡ n) [
  | yes e ↦ absurd (h e)
  | no ne ↦ elim (ℕ_discrete n y) as (λ d. (elim d as (λ d. ℕ) [ yes e ↦ x | no ne ↦ n ]) ≡ n) [ yes e ↦ absurd (k e) | no nn ↦ refl ]
]

swapped_twice : (x y n : ℕ) → swapped x y (swapped x y n) ≡ n
swapped_twice x y n = elim (ℕ_discrete n x) as (λ d. swapped x y (swapped x y n) ≡ n) [
  | yes e ↦ swapped_second x y (swapped x y n) (swapped_first x y n e) ∙ sym e
  | no ne ↦ elim (ℕ_discrete n y) as (λ d. swapped x y (swapped x y n) ≡ n) [
    | yes e ↦ swapped_first x y (swapped x y n) (swapped_second x y n e) ∙ sym e
    | no nn ↦ ap (swapped x y) (swapped_other x y n ne nn) ∙ swapped_other x y n ne nn
  ]
]

pub record Permutation : Type 0 where
  pub to : ℕ → ℕ
  pub fro : ℕ → ℕ
  pub there : (n : ℕ) → fro (to n) ≡ n
  pub back : (n : ℕ) → to (fro n) ≡ n

pub one_to : (p : Permutation) (m n : ℕ) → p.to m ≡ p.to n → m ≡ n
one_to p m n e = sym (p.there m) ∙ ap p.fro e ∙ p.there n

pub one_fro : (p : Permutation) (m n : ℕ) → p.fro m ≡ p.fro n → m ≡ n
one_fro p m n e = sym (p.back m) ∙ ap p.to e ∙ p.back n

-- and then two numbers change places
abbrev then_swapped : Permutation → ℕ → ℕ → Permutation
then_swapped p x y = record {
  to = λ n. swapped x y (p.to n);
  fro = λ n. p.fro (swapped x y n);
  there = λ n. ap p.fro (swapped_twice x y (p.to n)) ∙ p.there n;
  back = λ n. ap (swapped x y) (p.back (swapped x y n)) ∙ swapped_twice x y n;
}

-- f gives different numbers to those below count
abbrev pub Apart_below : (ℕ → ℕ) → ℕ → Type 0
Apart_below f count = (m n : ℕ) → m < count → n < count → f m ≡ f n → m ≡ n

one_more : (f : ℕ → ℕ) (count : ℕ) → Apart_below f (suc count) → (p : Permutation) → ((n : ℕ) → n < count → p.to n ≡ f n) → (n : ℕ) → n < suc count → (then_swapped p (p.to count) (f count)).to n ≡ f n
one_more f count h p is n lt = elim (ℕ_discrete n count) as (λ d. swapped (p.to count) (f count) (p.to n) ≡ f n) [
  | yes e ↦ swapped_first (p.to count) (f count) (p.to n) (ap p.to e) ∙ ap f (sym e)
  | no ne ↦ let l : n < count = grind (arith, ne) in
      swapped_other (p.to count) (f count) (p.to n) (λ e. ne (one_to p n count e)) (λ e. ne (h n count (omega arith) (omega arith) (sym (is n l) ∙ e))) ∙ is n l
]

pub permutation : (f : ℕ → ℕ) (count : ℕ) → Apart_below f count → (p : Permutation) × ((n : ℕ) → n < count → p.to n ≡ f n)
permutation f zero h = (record { to = λ n. n; fro = λ n. n; there = λ n. refl; back = λ n. refl }, λ n lt. absurd (omega arith))
permutation f (suc count) h = let r = permutation f count (λ m n l k. h m n (omega arith) (omega arith)) in (then_swapped r.0 (r.0.to count) (f count), one_more f count h r.0 r.1)
