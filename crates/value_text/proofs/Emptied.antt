-- How the spelling of an empty array begins.
use Rattle.std.proofs.Common.{◌≡◌, ◌+◌, ◌<◌, ◌≤◌, ℕ, List, [], ◌∷◌, length, length-drop, drop, arith, refl, sym, ap, ◌∙◌}
use Rattle.std.specs.Prelude.{Bool, true, false, cond, ◌==◌, ◌||◌, Option, Result, Ok, Err, codes}
use Rattle.fut_scalar.specs.declared.scalar.IntType.{IntType}
use Rattle.value_text.specs.Empties.{Part, shift, and_behind, dimension, dimensions, empty_len, ending, mark, then_part}
use Rattle.value_text.specs.Gaps.{begins_with, gap_at}
use Rattle.value_text.specs.Spelled.{empty_array, integer_at, spelled_at, word_at, word_front}
use Rattle.value_text.specs.Words.{is_digit, is_word}
use Rattle.value_text.specs.declared.spelled.Form.TheVariants as form
use Rattle.value_text.specs.declared.spelled.Spelled.{Spelled}
use Rattle.value_text.proofs.Sound.{integer_is, ok_is}

-- ---- a mark

stands : (c : ℕ) (bytes : List ℕ) → begins_with c bytes ≡ true → 0 < length bytes
stands c [] h = absurd cc
stands c (b ∷ bs) h = omega arith

module _ (c : ℕ) (bytes : List ℕ) where
  pub mark_is : (n : ℕ) → mark c bytes ≡ Ok n → (begins_with c (drop (gap_at bytes) bytes) ≡ true) × (n ≡ gap_at bytes + 1) × (gap_at bytes + 1 ≤ length bytes)
  unfolding mark
  mark_is n h = by_test (begins_with c (drop (gap_at bytes) bytes)) refl h
    where
      by_test : (t : Bool) → begins_with c (drop (gap_at bytes) bytes) ≡ t → cond t (Ok (gap_at bytes + 1)) (Err (gap_at bytes)) ≡ Ok n → (begins_with c (drop (gap_at bytes) bytes) ≡ true) × (n ≡ gap_at bytes + 1) × (gap_at bytes + 1 ≤ length bytes)
      by_test true e k =
          let some = stands c (drop (gap_at bytes) bytes) e in
          let long = length-drop (gap_at bytes) bytes in
          (e, (let z : Ok (gap_at bytes + 1) ≡ Ok n = k in cc), omega (arith, some, long))
      by_test false e k = absurd cc

-- ---- parts one after the other

pub record Both (first next : Part) (bytes : List ℕ) (n : ℕ) : Type 0 where
  pub m : ℕ
  pub k : ℕ
  pub front : first bytes ≡ Ok m
  pub behind : next (drop m bytes) ≡ Ok k
  pub sum : n ≡ m + k

pub both_are : (first next : Part) (bytes : List ℕ) (n : ℕ) → then_part first next bytes ≡ Ok n → Both first next bytes n
both_are first next bytes n h = by_first (first bytes) refl h
  where
    by_next : (m : ℕ) (r : Result ℕ ℕ) → first bytes ≡ Ok m → next (drop m bytes) ≡ r → shift m r ≡ Ok n → Both first next bytes n
    by_next m (Ok k) e f g = record { m = m; k = k; front = e; behind = f; sum = (let z : Ok (m + k) ≡ Ok n = g in cc) }
    by_next m (Err k) e f g = absurd cc

    by_first : (r : Result ℕ ℕ) → first bytes ≡ r → and_behind r (λ k. next (drop k bytes)) ≡ Ok n → Both first next bytes n
    by_first (Ok m) e g = by_next m (next (drop m bytes)) e refl g
    by_first (Err m) e g = absurd cc

-- ---- the word

-- the word, and behind it a spelling of so many bytes
pub record Is_empty (bytes : List ℕ) (long : ℕ) : Type 0 where
  pub word : is_word bytes (codes "empty") ≡ true
  pub n : ℕ
  pub spelled : empty_len (drop 5 bytes) ≡ Ok n
  pub sum : long ≡ 5 + n

no_truth : {b : Bool} → form.Truth b ≡ form.Array → ⊥
no_truth h = cc

word_empty : (bytes : List ℕ) (s : Spelled) → word_at bytes ≡ Ok s → s.form ≡ form.Array → Is_empty bytes s.length
unfolding word_at
word_empty bytes s h f = by_true (is_word bytes (codes "true")) h
  where
    of_array : is_word bytes (codes "empty") ≡ true → (r : Result ℕ ℕ) → empty_len (drop 5 bytes) ≡ r → empty_array r ≡ Ok s → Is_empty bytes s.length
    of_array w (Ok n) e k = record { word = w; n = n; spelled = e; sum = sym (ap (λ z. z.length) (ok_is _ _ k)) }
    of_array w (Err n) e k = absurd cc

    by_empty : (t : Bool) → is_word bytes (codes "empty") ≡ t → cond t (empty_array (empty_len (drop 5 bytes))) (Err (word_front bytes)) ≡ Ok s → Is_empty bytes s.length
    by_empty true w k = of_array w (empty_len (drop 5 bytes)) refl k
    by_empty false w k = absurd cc

    by_false : (t : Bool) → cond t (Ok (record { form = form.Truth false; length = 5 })) (cond (is_word bytes (codes "empty")) (empty_array (empty_len (drop 5 bytes))) (Err (word_front bytes))) ≡ Ok s → Is_empty bytes s.length
    by_false true k = absurd (no_truth (ap (λ z. z.form) (ok_is _ _ k) ∙ f))
    by_false false k = by_empty (is_word bytes (codes "empty")) refl k

    by_true : (t : Bool) → cond t (Ok (record { form = form.Truth true; length = 4 })) (cond (is_word bytes (codes "false")) (Ok (record { form = form.Truth false; length = 5 })) (cond (is_word bytes (codes "empty")) (empty_array (empty_len (drop 5 bytes))) (Err (word_front bytes)))) ≡ Ok s → Is_empty bytes s.length
    by_true true k = absurd (no_truth (ap (λ z. z.form) (ok_is _ _ k) ∙ f))
    by_true false k = by_false (is_word bytes (codes "false")) k

not_integer : {s : Bool} {n : ℕ} {t : Option IntType} → form.Integer s n t ≡ form.Array → ⊥
not_integer h = cc

-- what isn't spelled as another value, and begins with no bracket, is an empty array
pub empty_is : (bytes : List ℕ) (s : Spelled) → spelled_at bytes ≡ Ok s → s.form ≡ form.Array → begins_with 91 bytes ≡ false → Is_empty bytes s.length
empty_is [] s h f e = absurd cc
empty_is (b ∷ bs) s h f e = by_digit (b == 45 || is_digit b) (sym (ap (λ t. cond t (Ok (record { form = form.Array; length = 1 })) (cond (b == 45 || is_digit b) (integer_at (b ∷ bs)) (word_at (b ∷ bs)))) e) ∙ h)
  where
    by_digit : (t : Bool) → cond t (integer_at (b ∷ bs)) (word_at (b ∷ bs)) ≡ Ok s → Is_empty (b ∷ bs) s.length
    by_digit true k = let i = integer_is (b ∷ bs) s k in absurd (not_integer (sym i.form ∙ f))
    by_digit false k = word_empty (b ∷ bs) s k f

pub opened : (bytes : List ℕ) (n : ℕ) → empty_len bytes ≡ Ok n → gap_at bytes + 1 ≤ length bytes
unfolding empty_len
opened bytes n h =
    let both = both_are (mark 40) (then_part dimension (then_part dimensions ending)) bytes n h in
    (mark_is 40 bytes both.m both.front).2

module _ (bytes : List ℕ) (s : Spelled) (h : Ok s ≡ spelled_at bytes) (f : s.form ≡ form.Array) (e : begins_with 91 bytes ≡ false) where
  inside : gap_at (drop 5 bytes) + 1 ≤ length (drop 5 bytes)
  inside = let i = empty_is bytes s (sym h) f e in opened (drop 5 bytes) i.n i.spelled

  pub word_within : 5 ≤ length bytes
  word_within = let l = inside in let long = length-drop 5 bytes in omega (arith, l, long)

  pub opening_within : gap_at (drop 5 bytes) + 1 ≤ length (drop 5 bytes)
  opening_within = inside

pub ruleset empties = (word_within, opening_within)
