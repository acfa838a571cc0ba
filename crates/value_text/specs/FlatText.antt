-- The text of arrays that have scalars, told by sizes and words.
use Rattle.std.specs.Prelude.{ℕ, ◌++◌, List, [], ◌∷◌, codes, decimal, flat_map}
use Rattle.fut_scalar.specs.declared.scalar.ScalarType.{ScalarType}
use Rattle.fut_arithmetic.specs.Words.{scalar_of_word}
use Rattle.fut_value.specs.Values.{cut, product}
use Rattle.value_text.specs.Printing.{text_of}

abbrev pub bracketed : ℕ → List ℕ
bracketed n = codes "[" ++ (decimal n ++ codes "]")

-- one row behind another
abbrev pub other_row : (List ℕ → List ℕ) → List ℕ → List ℕ
other_row text_in words = codes ", " ++ text_in words

-- rows with commas between them
abbrev pub joined : (List ℕ → List ℕ) → List (List ℕ) → List ℕ
joined text_in [] = []
joined text_in (r ∷ rs) = text_in r ++ flat_map (other_row text_in) rs

abbrev pub word_text : ScalarType → List ℕ → List ℕ
word_text ty [] = []
word_text ty (w ∷ ws) = text_of (scalar_of_word ty w)

abbrev pub array_text : ScalarType → (sizes words : List ℕ) → List ℕ
array_text ty [] words = word_text ty words
array_text ty (n ∷ ns) words = codes "[" ++ (joined (array_text ty ns) (cut n (product ns) words) ++ codes "]")
