-- The first `=` of a word.
use Rattle.std.proofs.Common.{◌≡◌, ◌<◌, ℕ, List, length, take, true, false, Bool, cond, nat_lt, refl, sym, ap, ◌∙◌, arith}
use Rattle.std.specs.Prelude.{Option, Some, None, MatchOption}
use Rattle.std.specs.Borrow.{Bor}
use Rattle.std.specs.List.{before_first, after_first, position_or_len}
use Rattle.std.proofs.Math.Dec.{eqb}
use Rattle.std.proofs.Math.Seq.{take-length}
use Rattle.std.proofs.lemmas.Str.Pattern.{IsSplitOnceResult, split_once_first}
use Rattle.command_words.specs.CommandLine.{before_equal, behind_equal}

shorter : (m n : ℕ) → m < n → nat_lt m n ≡ true
shorter m n l = grind (arith, l)

not_shorter : (m n : ℕ) → m ≡ n → nat_lt m n ≡ false
not_shorter m n l = grind (arith, l)

pub parts : (word : List ℕ) (r : Option (Bor (List ℕ) × Bor (List ℕ))) → IsSplitOnceResult 61 word r
    → MatchOption r ((before_equal word ≡ word) × (behind_equal word ≡ None)) (λ x. (x.0.now ≡ before_equal word) × (behind_equal word ≡ Some x.1.now))
parts word None h =
    let e = split_once_first 61 word None h (omega arith) in
    (ap (λ n. take n word) e ∙ take-length word, ap (λ t. cond t (Some (after_first (λ b. eqb b 61) word)) None) (not_shorter _ _ e))
parts word (Some x) h =
    let e = split_once_first 61 word (Some x) h (omega arith) in
    (e.1, ap (λ t. cond t (Some (after_first (λ b. eqb b 61) word)) None) (shorter _ _ e.0) ∙ ap Some (sym e.2))
