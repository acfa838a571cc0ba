-- Tables with a 0 behind their ends.
use Rattle.std.proofs.Common.{◌≡◌, ℕ, zero, suc, ◌<◌, ◌≤◌, List, [], ◌∷◌, ◌++◌, length, get_or, refl, ap, ◌∙◌, arith}

pub behind_end : (xs : List ℕ) (n : ℕ) → length xs ≤ n → 0 ≡ get_or xs n 0
behind_end [] n l = refl
behind_end (x ∷ xs) zero l = absurd (omega (arith, l))
behind_end (x ∷ xs) (suc n) l = behind_end xs n (omega (arith, l))

pub at_place : (xs : List ℕ) (n d : ℕ) → n < length xs → get_or xs n d ≡ get_or xs n 0
at_place [] n d l = absurd (omega (arith, l))
at_place (x ∷ xs) zero d l = refl
at_place (x ∷ xs) (suc n) d l = at_place xs n d (omega (arith, l))

with_zero : (xs : List ℕ) (z n : ℕ) → z ≡ 0 → get_or (xs ++ z ∷ []) n 0 ≡ get_or xs n 0
with_zero [] z zero e = e
with_zero [] z (suc n) e = refl
with_zero (x ∷ xs) z zero e = refl
with_zero (x ∷ xs) z (suc n) e = with_zero xs z n e

pub still : (xs ys zs : List ℕ) → ((n : ℕ) → get_or xs n 0 ≡ get_or zs n 0) → ys ≡ xs ++ 0 ∷ [] → (n : ℕ) → get_or ys n 0 ≡ get_or zs n 0
still xs ys zs h e n = ap (λ z. get_or z n 0) e ∙ with_zero xs 0 n refl ∙ h n

pub ruleset tables = (behind_end, at_place, still)
