-- Data: values that hold no function. They are the same in every language, and arrays hold nothing else. The shape of data is
-- what it looks like: the sizes of its arrays and the parts of its tuples and records. An array keeps the shape that each of
-- its rows has, so one without rows has a shape too (Futhark Language Reference, "Values").
use Rattle.std.specs.Prelude.{ℕ, ◌+◌, ◌*◌, max, List, [], ◌∷◌, length, Bool, true, ◌&&◌, nat_eq}
use Rattle.fut_scalar.specs.declared.scalar.Scalar.{Scalar}
use Rattle.fut_scalar.specs.declared.scalar.ScalarType.{ScalarType}
use Rattle.fut_ast.specs.Sorts.{Text}
use Rattle.fut_arithmetic.specs.Types.{type_of}

mutual
  pub data Shape : Type 0 where
    Scalar_shape : ScalarType → Shape
    Tuple_shape : Shapes → Shape
    Record_shape : Named_shapes → Shape
    -- so many rows of one shape
    Array_shape : ℕ → Shape → Shape
    -- of rows that nothing has given: each size in it is 0
    Unmet_shape : Shape

  pub data Shapes : Type 0 where
    no_shape : Shapes
    shape_and : Shape → Shapes → Shapes

  pub data Named_shapes : Type 0 where
    no_named_shape : Named_shapes
    named_shape_and : Text → Shape → Named_shapes → Named_shapes

mutual
  pub data Datum : Type 0 where
    Scalar_datum : Scalar → Datum
    Tuple_datum : Datums → Datum
    Record_datum : Named_datums → Datum
    -- the shape of each row, and the rows
    Array_datum : Shape → Datums → Datum

  pub data Datums : Type 0 where
    no_datum : Datums
    datum_and : Datum → Datums → Datums

  -- in order of their names
  pub data Named_datums : Type 0 where
    no_named : Named_datums
    named_and : Text → Datum → Named_datums → Named_datums

abbrev pub listed : Datums → List Datum
listed no_datum = []
listed (datum_and d ds) = d ∷ listed ds

abbrev pub datums : List Datum → Datums
datums [] = no_datum
datums (d ∷ ds) = datum_and d (datums ds)

unfoldable mutual
  pub shape_of : Datum → Shape
  shape_of (Scalar_datum s) = Scalar_shape (type_of s)
  shape_of (Tuple_datum ds) = Tuple_shape (shapes_of ds)
  shape_of (Record_datum fs) = Record_shape (named_shapes_of fs)
  shape_of (Array_datum row ds) = Array_shape (length (listed ds)) row

  pub shapes_of : Datums → Shapes
  shapes_of no_datum = no_shape
  shapes_of (datum_and d ds) = shape_and (shape_of d) (shapes_of ds)

  pub named_shapes_of : Named_datums → Named_shapes
  named_shapes_of no_named = no_named_shape
  named_shapes_of (named_and f d fs) = named_shape_and f (shape_of d) (named_shapes_of fs)

-- ---- words and weight

-- how many scalars data of a shape has
unfoldable mutual
  pub words : Shape → ℕ
  words (Scalar_shape t) = 1
  words (Tuple_shape hs) = all_words hs
  words (Record_shape hs) = named_words hs
  words (Array_shape n h) = n * words h
  words Unmet_shape = 0

  pub all_words : Shapes → ℕ
  all_words no_shape = 0
  all_words (shape_and h hs) = words h + all_words hs

  pub named_words : Named_shapes → ℕ
  named_words no_named_shape = 0
  named_words (named_shape_and f h hs) = words h + named_words hs

-- how many of them stand in arrays
unfoldable mutual
  pub array_words : Shape → ℕ
  array_words (Scalar_shape t) = 0
  array_words (Tuple_shape hs) = all_array_words hs
  array_words (Record_shape hs) = named_array_words hs
  array_words (Array_shape n h) = n * words h
  array_words Unmet_shape = 0

  pub all_array_words : Shapes → ℕ
  all_array_words no_shape = 0
  all_array_words (shape_and h hs) = array_words h + all_array_words hs

  pub named_array_words : Named_shapes → ℕ
  named_array_words no_named_shape = 0
  named_array_words (named_shape_and f h hs) = array_words h + named_array_words hs

-- the greatest product of sizes, from `n` on, each with those of the rows inside
unfoldable mutual
  pub heaviest : ℕ → Shape → ℕ
  heaviest n (Scalar_shape t) = 0
  heaviest n (Tuple_shape hs) = heaviest_of n hs
  heaviest n (Record_shape hs) = heaviest_named n hs
  heaviest n (Array_shape k h) = max (n * k) (heaviest (n * k) h)
  heaviest n Unmet_shape = 0

  pub heaviest_of : ℕ → Shapes → ℕ
  heaviest_of n no_shape = 0
  heaviest_of n (shape_and h hs) = max (heaviest n h) (heaviest_of n hs)

  pub heaviest_named : ℕ → Named_shapes → ℕ
  heaviest_named n no_named_shape = 0
  heaviest_named n (named_shape_and f h hs) = max (heaviest n h) (heaviest_named n hs)

-- the greatest of these products, and all words
unfoldable pub weight : Shape → ℕ
weight h = max (heaviest 1 h) (words h)

-- ---- sizes that agree

-- each size is 0
unfoldable mutual
  pub is_unmet : Shape → Bool
  is_unmet (Scalar_shape t) = true
  is_unmet (Tuple_shape hs) = all_unmet hs
  is_unmet (Record_shape hs) = named_unmet hs
  is_unmet (Array_shape n h) = nat_eq n 0 && is_unmet h
  is_unmet Unmet_shape = true

  pub all_unmet : Shapes → Bool
  all_unmet no_shape = true
  all_unmet (shape_and h hs) = is_unmet h && all_unmet hs

  pub named_unmet : Named_shapes → Bool
  named_unmet no_named_shape = true
  named_unmet (named_shape_and f h hs) = is_unmet h && named_unmet hs

-- whether two shapes of one type have the same sizes
unfoldable mutual
  pub same_sizes : Shape → Shape → Bool
  same_sizes Unmet_shape h = is_unmet h
  same_sizes h Unmet_shape = is_unmet h
  same_sizes (Scalar_shape t) h = true
  same_sizes (Tuple_shape hs) (Tuple_shape ks) = all_same_sizes hs ks
  same_sizes (Tuple_shape hs) h = true
  same_sizes (Record_shape hs) (Record_shape ks) = named_same_sizes hs ks
  same_sizes (Record_shape hs) h = true
  same_sizes (Array_shape n h) (Array_shape m k) = nat_eq n m && same_sizes h k
  same_sizes (Array_shape n h) k = true

  pub all_same_sizes : Shapes → Shapes → Bool
  all_same_sizes no_shape ks = true
  all_same_sizes (shape_and h hs) no_shape = true
  all_same_sizes (shape_and h hs) (shape_and k ks) = same_sizes h k && all_same_sizes hs ks

  pub named_same_sizes : Named_shapes → Named_shapes → Bool
  named_same_sizes no_named_shape ks = true
  named_same_sizes (named_shape_and f h hs) no_named_shape = true
  named_same_sizes (named_shape_and f h hs) (named_shape_and g k ks) = same_sizes h k && named_same_sizes hs ks
