-- The dimensions of an empty array, one after the other.
use Rattle.std.proofs.Common.{◌≡◌, ◌+◌, ◌-◌, ◌<◌, ℕ, suc, List, length, drop, arith, sym, ap, ◌∙◌, subst}
use Rattle.std.specs.Prelude.{Bool, true, false, cond, Result, Ok, Err}
use Rattle.value_text.specs.Gaps.{begins_with, gap_at}
use Rattle.value_text.specs.Empties.{and_behind, dimension, dimensions, dimensions_up_to, shift, then_part}

shift_none : (r : Result ℕ ℕ) → shift 0 r ≡ r
shift_none (Ok n) = ap Ok (omega arith)
shift_none (Err n) = ap Err (omega arith)

shift_shift : (a b : ℕ) (r : Result ℕ ℕ) → shift (a + b) r ≡ shift a (shift b r)
shift_shift a b (Ok n) = ap Ok (omega arith)
shift_shift a b (Err n) = ap Err (omega arith)

pub dimensions_begin : (bytes : List ℕ) → shift 0 (dimensions_up_to (length bytes - 0) bytes) ≡ dimensions bytes
unfolding dimensions
dimensions_begin bytes = let e : length bytes - 0 ≡ length bytes = omega arith in shift_none _ ∙ ap (λ n. dimensions_up_to n bytes) e

pub dimensions_end : (len at turn : ℕ) (rest : List ℕ) (whole : Result ℕ ℕ) → turn ≡ len → shift at (dimensions_up_to (len - turn) rest) ≡ whole → Ok at ≡ whole
dimensions_end len at turn rest whole e same =
    let none : len - turn ≡ 0 = omega arith in
    let sum : at ≡ at + 0 = omega arith in
    ap Ok sum ∙ subst (λ n. shift at (dimensions_up_to n rest) ≡ whole) none same

module _ (len turn at gap : ℕ) (rest here : List ℕ) (whole : Result ℕ ℕ) (more : turn < len) (same : shift at (dimensions_up_to (len - turn) rest) ≡ whole) (is_gap : gap ≡ gap_at rest) (is_here : here ≡ drop gap rest) where
  step : (t : Bool) → begins_with 91 here ≡ t → shift at (cond t (then_part dimension (dimensions_up_to (len - (turn + 1))) rest) (Ok 0)) ≡ whole
  step t h =
      let e : len - turn ≡ suc (len - (turn + 1)) = omega arith in
      let there : begins_with 91 (drop (gap_at rest) rest) ≡ t = sym (ap (begins_with 91) (is_here ∙ ap (λ g. drop g rest) is_gap)) ∙ h in
      sym (ap (λ b. shift at (cond b (then_part dimension (dimensions_up_to (len - (turn + 1))) rest) (Ok 0))) there) ∙ subst (λ n. shift at (dimensions_up_to n rest) ≡ whole) e same

  pub dimensions_stop : begins_with 91 here ≡ false → Ok at ≡ whole
  dimensions_stop h = let sum : at ≡ at + 0 = omega arith in ap Ok sum ∙ step false h

  module _ (h : begins_with 91 here ≡ true) (n : ℕ) where
    pub dimensions_fail : dimension rest ≡ Err n → Err (at + n) ≡ whole
    dimensions_fail d = sym (ap (λ r. shift at (and_behind r (λ n. dimensions_up_to (len - (turn + 1)) (drop n rest)))) d) ∙ step true h

    pub dimensions_more : (next : List ℕ) → dimension rest ≡ Ok n → next ≡ drop n rest → shift (at + n) (dimensions_up_to (len - (turn + 1)) next) ≡ whole
    dimensions_more next d is_next =
        shift_shift at n (dimensions_up_to (len - (turn + 1)) next) ∙ ap (λ b. shift at (shift n (dimensions_up_to (len - (turn + 1)) b))) is_next
        ∙ sym (ap (λ r. shift at (and_behind r (λ n. dimensions_up_to (len - (turn + 1)) (drop n rest)))) d) ∙ step true h

pub ruleset dimensions_go = (dimensions_begin, dimensions_end, dimensions_stop, dimensions_fail, dimensions_more)
