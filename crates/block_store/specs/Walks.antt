-- How the words of a view are read: level by level, with places that are words of 64 bits.
use Rattle.std.specs.Prelude.{ℕ, ◌+◌, ◌-◌, ◌*◌, ◌%◌, ◌^◌, ℤ, pos, negsuc, List, [], ◌∷◌, map, slice_index}
use Rattle.std.specs.Int.{cast_signed}
use Rattle.std.specs.List.{flat_map, range_with_len}
use mir.Syntax.{w64}

-- an integer modulo 2 to the 64
abbrev pub wrapped : ℤ → ℕ
wrapped (pos n) = n % 2 ^ 64
wrapped (negsuc n) = 2 ^ 64 - 1 - n % 2 ^ 64

-- so many steps on from a place, modulo 2 to the 64
abbrev pub moved : ℕ → ℕ → ℕ → ℕ
moved place count step = (place + count * step % 2 ^ 64) % 2 ^ 64

-- where the rows stand of an array that stands at a place
abbrev pub rows_at : ℕ → ℕ → ℕ → List ℕ
rows_at count step place = map (λ i. moved place i step) (range_with_len 0 count)

-- the words of a row of scalars that stands at a place
abbrev pub row_words : List ℕ → ℕ → ℕ → ℕ → List ℕ
row_words words count step place = map (λ i. slice_index words (moved place i step)) (range_with_len 0 count)

-- the words of an array that stands at a place
abbrev pub read_from : List ℕ → List ℤ → List ℕ → ℕ → List ℕ
read_from words ss [] place = slice_index words place ∷ []
read_from words [] (n ∷ ns) place = []
read_from words (s ∷ ss) (n ∷ ns) place = flat_map (read_from words ss ns) (rows_at n (wrapped s) place)

-- the product of sizes, modulo 2 to the 64
abbrev pub wrapped_product : List ℕ → ℕ
wrapped_product [] = 1
wrapped_product (n ∷ ns) = wrapped_product ns * n % 2 ^ 64

-- the strides of words in row-major order: a row is as long as the product of the sizes below it
abbrev pub strides_of : List ℕ → List ℤ
strides_of [] = []
strides_of (n ∷ ns) = cast_signed w64 (wrapped_product ns) ∷ strides_of ns
