-- Rows of numbers, and the numbers that were drawn.
use Rattle.std.proofs.Common.{◌≡◌, ℕ, zero, suc, ◌+◌, ◌<◌, ◌≤◌, List, [], ◌∷◌, ◌++◌, All, ap, ◌∙◌, arith}
use Rattle.std.specs.List.{range_with_len}
use Rattle.std.proofs.lemmas.List.Sorted.{All-permutation}
use Rattle.std.proofs.lemmas.List.FromFn.{length-range_with_len, get_or-range_with_len}
use Rattle.phase_model.specs.Kept.{DrawnOnce}

pub range_more : (a n : ℕ) → range_with_len a (n + 1) ≡ range_with_len a n ++ (a + n) ∷ []
range_more a zero = ap (λ k. k ∷ []) (omega arith)
range_more a (suc n) =
    let l : suc n + 1 ≡ suc (n + 1) = omega arith in
    let k : a + 1 + n ≡ a + suc n = omega arith in
    ap (range_with_len a) l ∙ ap (λ ys. a ∷ ys) (range_more (a + 1) n) ∙ ap (λ m. a ∷ (range_with_len (a + 1) n ++ m ∷ [])) k

pub range_cut : (a n m : ℕ) → range_with_len a (n + m) ≡ range_with_len a n ++ range_with_len (a + n) m
range_cut a zero m = let k : 0 + m ≡ m = omega arith in let z : a ≡ a + 0 = omega arith in ap (range_with_len a) k ∙ ap (λ b. range_with_len b m) z
range_cut a (suc n) m =
    let k : suc n + m ≡ suc (n + m) = omega arith in
    let z : a + 1 + n ≡ a + suc n = omega arith in
    ap (range_with_len a) k ∙ ap (λ ys. a ∷ ys) (range_cut (a + 1) n m) ∙ ap (λ b. a ∷ (range_with_len (a + 1) n ++ range_with_len b m)) z

pub range_below : (a n : ℕ) → All (λ x. x < a + n) (range_with_len a n)
range_below a n k d lt = let e = get_or-range_with_len a n k d (omega (arith, length-range_with_len a n)) in let l = length-range_with_len a n in omega arith

pub range_above : (a n : ℕ) → All (λ x. a ≤ x) (range_with_len a n)
range_above a n k d lt = let e = get_or-range_with_len a n k d (omega (arith, length-range_with_len a n)) in omega arith

-- a number that was drawn is below the draw word
pub drawn_below : (n : ℕ) (xs : List ℕ) → DrawnOnce n xs → All (λ x. x < n) xs
drawn_below n xs h = All-permutation (λ x. x < n) (range_with_len 0 n) xs h (λ k d lt. let r = range_below 0 n k d lt in omega arith)
