-- Runs of characters of a class, and the value of digits.
use Rattle.std.proofs.Common.{◌≡◌, ℕ, zero, suc, ◌+◌, ◌*◌, ◌≤◌, ◌<◌, Bool, true, false, cond, eqb, List, [], ◌∷◌, length, drop, get_or, refl, arith}
use Rattle.std.specs.List.{prefix_len}
use Rattle.std.proofs.lemmas.List.Sums.{prefix_len-le-length}
use Rattle.fut_lexer.specs.declared.number.Base.{Base}
use Rattle.fut_lexer.specs.declared.number.Base.TheVariants as base
use Rattle.fut_lexer.specs.Numbers.{radix, digit_of, value_on, ends_in_underscore}

pub prefix_within : (p : ℕ → Bool) (xs : List ℕ) → prefix_len p xs ≤ length xs
prefix_within p xs = prefix_len-le-length p xs

-- a digit more makes no value smaller
digit_grows : (b : Base) (n d : ℕ) → n ≤ n * radix b + d
digit_grows base.Decimal n d = omega arith
digit_grows base.Hexadecimal n d = omega arith
digit_grows base.Binary n d = omega arith

value_grows : (b : Base) (n : ℕ) (cs : List ℕ) → n ≤ value_on b n cs
value_grows b n [] = omega arith
value_grows b n (c ∷ cs) = go (eqb c 95) (value_grows b n cs) (value_grows b (n * radix b + digit_of c) cs)
  where
    go : (t : Bool) → n ≤ value_on b n cs → n * radix b + digit_of c ≤ value_on b (n * radix b + digit_of c) cs → n ≤ cond t (value_on b n cs) (value_on b (n * radix b + digit_of c) cs)
    go true i j = i
    go false i j = let g = digit_grows b n (digit_of c) in omega (arith, g, j)

pub value_step : (b : Base) (n i : ℕ) (cs : List ℕ) → i < length cs → eqb (get_or cs i 0) 95 ≡ false → n * radix b + digit_of (get_or cs i 0) ≤ value_on b n (drop i cs)
value_step b n i [] lt e = absurd (omega arith)
value_step b n zero (c ∷ cs) lt e = rw e (value_grows b (n * radix b + digit_of c) cs)
value_step b n (suc i) (c ∷ cs) lt e = value_step b n i cs (omega arith) e

pub last_underscore : (cs : List ℕ) (n : ℕ) → length cs ≡ suc n → ends_in_underscore cs ≡ eqb (get_or cs n 0) 95
last_underscore [] n le = absurd (omega arith)
last_underscore (c ∷ []) zero le = refl
last_underscore (c ∷ []) (suc n) le = absurd (omega arith)
last_underscore (c ∷ d ∷ cs) zero le = absurd (omega arith)
last_underscore (c ∷ d ∷ cs) (suc n) le = last_underscore (d ∷ cs) n (omega arith)
