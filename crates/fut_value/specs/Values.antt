-- Flat values: the type of the scalars, the sizes of the levels from the outermost inwards, and the words of the scalars, those of
-- the first row first. What such a value stands for is plain data.
use Rattle.std.specs.Prelude.{◌≡◌, ℕ, zero, suc, ◌*◌, ◌<◌, ◌^◌, max, List, [], ◌∷◌, All, length, map, take, drop}
use Rattle.fut_scalar.specs.Integers.{width_of}
use Rattle.fut_scalar.specs.declared.scalar.ScalarType.{ScalarType}
use Rattle.fut_scalar.specs.declared.scalar.ScalarType.TheVariants as sort
use Rattle.fut_arithmetic.specs.Words.{scalar_of_word}
use Rattle.fut_value.specs.Data as plain
use Rattle.fut_value.specs.Data.{Datum, Scalar_datum, Array_datum, datums}
use Rattle.fut_value.specs.declared.shape.Shape.{Shape}
use Rattle.fut_value.specs.declared.value.Value.{Value}

-- ---- sizes

-- how many scalars an array of these sizes has
abbrev pub product : List ℕ → ℕ
product [] = 1
product (n ∷ ns) = n * product ns

-- the greatest product of sizes from the outermost one on
abbrev pub weight_of : List ℕ → ℕ
weight_of [] = 1
weight_of (n ∷ ns) = n * max 1 (weight_of ns)

abbrev pub greatest_weight : ℕ
greatest_weight = 33554432

-- the shape of data of these sizes
abbrev pub shape_with : ScalarType → List ℕ → plain.Shape
shape_with ty [] = plain.Scalar_shape ty
shape_with ty (n ∷ ns) = plain.Array_shape n (shape_with ty ns)

abbrev pub shape_in : Shape → plain.Shape
shape_in shape = shape_with shape.elem shape.sizes

-- ---- data

-- words in so many parts of one length
abbrev pub cut : (count : ℕ) → (length : ℕ) → List ℕ → List (List ℕ)
cut zero length words = []
cut (suc n) length words = take length words ∷ cut n length (drop length words)

abbrev pub first_word : List ℕ → ℕ
first_word [] = 0
first_word (w ∷ ws) = w

-- the data of these sizes and words
abbrev pub datum_with : ScalarType → List ℕ → List ℕ → Datum
datum_with ty [] words = Scalar_datum (scalar_of_word ty (first_word words))
datum_with ty (n ∷ ns) words = Array_datum (shape_with ty ns) (datums (map (datum_with ty ns) (cut n (product ns) words)))

-- what a value stands for
abbrev pub datum_of : Value → Datum
datum_of value = datum_with value.shape.elem value.shape.sizes value.words

-- ---- well formed

-- how many words are scalars of a type
abbrev pub word_count : ScalarType → ℕ
word_count (sort.Int ty) = 2 ^ width_of ty
word_count sort.Bool = 2

-- as many words as the sizes say, each of the type, and each size below 2^63
pub record IsWellFormed (value : Value) : Type 0 where
  pub all : length value.words ≡ product value.shape.sizes
  pub fit : All (λ w. w < word_count value.shape.elem) value.words
  pub below : All (λ n. n < 2 ^ 63) value.shape.sizes
