-- What may stand between values: blanks, and comments, which begin with two hyphens and go to the end of their line.
use Rattle.std.specs.Prelude.{ℕ, suc, Bool, true, false, not, cond, ◌==◌, ◌&&◌, ◌||◌, List, [], ◌∷◌, Option, Some, None}

-- a space, a tab, a line feed or a carriage return
abbrev pub is_blank : ℕ → Bool
is_blank b = b == 32 || b == 9 || b == 10 || b == 13

abbrev pub begins_with : ℕ → List ℕ → Bool
begins_with c [] = false
begins_with c (b ∷ bs) = b == c

-- whether the byte at the front still stands between values, and then whether a comment is open behind it
abbrev pub goes_on : (in_comment : Bool) → List ℕ → Option Bool
goes_on in_comment [] = None
goes_on true (b ∷ bs) = Some (not (b == 10))
goes_on false (b ∷ bs) = cond (b == 45 && begins_with 45 bs) (Some true) (cond (is_blank b) (Some false) None)

abbrev pub one_more : Option Bool → (Bool → ℕ) → ℕ
one_more None behind = 0
one_more (Some in_comment) behind = suc (behind in_comment)

abbrev pub gap_from : (in_comment : Bool) → List ℕ → ℕ
gap_from in_comment [] = 0
gap_from in_comment (b ∷ bs) = one_more (goes_on in_comment (b ∷ bs)) (λ inside. gap_from inside bs)

-- how many bytes at the front stand between values
unfoldable pub gap_at : List ℕ → ℕ
gap_at bytes = gap_from false bytes
