-- Blanks and comments, one after the other.
use Rattle.std.proofs.Common.{◌≡◌, ◌+◌, ◌<◌, ◌≤◌, ℕ, suc, List, [], ◌∷◌, length, drop, arith, sym, ap, subst}
use Rattle.std.specs.Prelude.{Bool, false, Option, Some, None}
use Rattle.std.specs.List.{prefix_len}
use Rattle.std.proofs.lemmas.List.{drop_more, drop_all}
use Rattle.std.proofs.lemmas.List.Sums.{prefix_len-le-length}
use Rattle.value_text.specs.Gaps.{gap_at, gap_from, goes_on, one_more}

-- a front of a list isn't longer than the list
pub prefix_within : (p : ℕ → Bool) (xs : List ℕ) → prefix_len p xs ≤ length xs
prefix_within p xs = prefix_len-le-length p xs

gap_step : (c : Bool) (bytes : List ℕ) (r : Option Bool) → goes_on c bytes ≡ r → gap_from c bytes ≡ one_more r (λ inside. gap_from inside (drop 1 bytes))
gap_step c [] r h = ap (λ z. one_more z (λ inside. gap_from inside [])) h
gap_step c (b ∷ bs) r h = ap (λ z. one_more z (λ inside. gap_from inside bs)) h

module _ (c : Bool) (bytes : List ℕ) (at g : ℕ) (same : at + gap_from c (drop at bytes) ≡ g) where
  pub gap_more : (inside : Bool) → at < length bytes → Some inside ≡ goes_on c (drop at bytes) → at + 1 + gap_from inside (drop (at + 1) bytes) ≡ g
  gap_more inside within h =
      let here = drop_more bytes at 0 within in
      let step = gap_step c (drop at bytes) (Some inside) (sym h) in
      let rest : drop 1 (drop at bytes) ≡ drop (at + 1) bytes = ap (drop 1) here in
      let step2 = subst (λ z. gap_from c (drop at bytes) ≡ suc (gap_from inside z)) rest step in
      omega (arith, same, step2)

  pub gap_stop : None ≡ goes_on c (drop at bytes) → at ≡ g
  gap_stop h = let step = gap_step c (drop at bytes) None (sym h) in omega (arith, same, step)

  pub gap_end : at ≡ length bytes → at ≡ g
  gap_end e =
      let step : gap_from c (drop at bytes) ≡ 0 = ap (gap_from c) (drop_all at bytes (omega arith)) in
      omega (arith, same, step)

pub gap_start : (bytes : List ℕ) → 0 + gap_from false (drop 0 bytes) ≡ gap_at bytes
unfolding gap_at
gap_start bytes = omega arith

pub ruleset gaps = (gap_more, gap_stop, gap_end, gap_start)
