-- The two parts of the rule, after one more number or pair, and along a change of order.
use Rattle.std.proofs.Common.{◌≡◌, ℕ, ◌+◌, List, [], ◌∷◌, ◌++◌, length, slice_index, fold, sym, refl, ap, ◌∙◌, IsPermutation, arith}
use Rattle.std.proofs.lemmas.List.Sorted.{IsPermutation-refl, IsPermutation-sym, IsPermutation-trans, IsPermutation-append_left}
use Rattle.std.proofs.lemmas.List.{length-set}
use Rattle.std.proofs.lemmas.List.Sums.{fold-append}
use Rattle.phase_model.specs.declared.Pair.{Pair}
use Rattle.phase_model.specs.Kept.{DrawnOnce, DoneOnce, done}
use Rattle.phase_model.proofs.Ranges.{range_more}

pub drawn_more : (n : ℕ) (xs ys : List ℕ) → DrawnOnce n xs → IsPermutation ys (xs ++ n ∷ []) → DrawnOnce (n + 1) ys
drawn_more n xs ys h p = rw (range_more 0 n) (let z : 0 + n ≡ n = omega arith in rw z (IsPermutation-trans _ _ _ (IsPermutation-append_left (n ∷ []) _ _ h) (IsPermutation-sym _ _ p)))

pub drawn_along : (n : ℕ) (xs ys : List ℕ) → DrawnOnce n xs → IsPermutation ys xs → DrawnOnce n ys
drawn_along n xs ys h p = IsPermutation-trans _ _ _ h (IsPermutation-sym _ _ p)

module _ (op : ℕ → ℕ → ℕ) (old : List ℕ) where
  pub done_none : DoneOnce op old old []
  done_none = record { order = []; each_once = IsPermutation-refl []; words_are = refl }

  pub done_more : (words : List ℕ) (p : Pair) (xs ys : List Pair) → DoneOnce op old words xs → IsPermutation ys (xs ++ p ∷ []) → DoneOnce op old (done op words p) ys
  done_more words p xs ys h q = record {
    order = h.order ++ p ∷ [];
    each_once = IsPermutation-trans _ _ _ q (IsPermutation-append_left (p ∷ []) _ _ h.each_once);
    words_are = ap (λ w. done op w p) h.words_are ∙ sym (fold-append (done op) old h.order (p ∷ []));
  }

  pub done_along : (words : List ℕ) (xs ys : List Pair) → DoneOnce op old words xs → IsPermutation ys xs → DoneOnce op old words ys
  done_along words xs ys h q = record { order = h.order; each_once = IsPermutation-trans _ _ _ q h.each_once; words_are = h.words_are }

  fold_length : (words : List ℕ) (order : List Pair) → length (fold (done op) words order) ≡ length words
  fold_length words [] = refl
  fold_length words (p ∷ order) = fold_length (done op words p) order ∙ length-set words p.place (op (slice_index words p.place) p.word)

  -- no word comes or goes
  pub done_length : (words : List ℕ) (pairs : List Pair) → DoneOnce op old words pairs → length words ≡ length old
  done_length words pairs h = ap length h.words_are ∙ fold_length old h.order
