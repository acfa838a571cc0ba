-- The number whose digits lead to a name in a tree.
use Rattle.std.specs.Prelude.{ℕ, ◌+◌, ◌*◌, ◌%◌, List, [], ◌∷◌}

-- one more byte behind those that gave the number, in 32 bits
abbrev pub one_more : ℕ → ℕ → ℕ
one_more number byte = ((number * 31) % 4294967296 + byte) % 4294967296

unfoldable pub digits_from : ℕ → List ℕ → ℕ
digits_from number [] = number
digits_from number (c ∷ cs) = digits_from (one_more number c) cs

unfoldable pub digits_of : List ℕ → ℕ
digits_of x = digits_from 0 x
