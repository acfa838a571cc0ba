-- The text of values.
use Rattle.std.specs.Prelude.{ℕ, ◌++◌, Bool, true, false, cond, ◌==◌, ◌||◌, List, [], length, codes, decimal, flat_map}
use Rattle.std.specs.Fmt.{signed_decimal}
use Rattle.fut_scalar.specs.Integers.{integer_of}
use Rattle.fut_scalar.specs.declared.scalar.Scalar.{Scalar}
use Rattle.fut_scalar.specs.declared.scalar.Scalar.TheVariants as scalar
use Rattle.fut_scalar.specs.declared.scalar.ScalarType.{ScalarType}
use Rattle.fut_scalar.specs.declared.scalar.ScalarType.TheVariants as sort
use Rattle.fut_value.specs.Data.{Shape, Scalar_shape, Array_shape, Datum, Scalar_datum, Array_datum, Datums, no_datum, datum_and, listed}
use Rattle.value_text.specs.Words.{name_of}

-- an integer in decimal with its type behind it, `true` or `false`
abbrev pub text_of : Scalar → List ℕ
text_of (scalar.Int ty bits) = signed_decimal (integer_of ty bits) ++ name_of ty
text_of (scalar.Bool true) = codes "true"
text_of (scalar.Bool false) = codes "false"

abbrev pub line_of : Scalar → List ℕ
line_of value = text_of value ++ codes "\n"

-- a line for each value
abbrev pub output_of : List Scalar → List ℕ
output_of values = flat_map line_of values

-- ---- data: scalars, and arrays of scalars

abbrev pub type_text : ScalarType → List ℕ
type_text (sort.Int ty) = name_of ty
type_text sort.Bool = codes "bool"

-- a size is 0
abbrev pub lacks : Shape → Bool
lacks (Array_shape n h) = n == 0 || lacks h
lacks other = false

-- the sizes in brackets, and the name of the type
abbrev pub sizes_text : Shape → List ℕ
sizes_text (Array_shape n h) = codes "[" ++ (decimal n ++ (codes "]" ++ sizes_text h))
sizes_text (Scalar_shape ty) = type_text ty
sizes_text other = []

abbrev pub empty_text : Shape → List ℕ
empty_text h = codes "empty(" ++ (sizes_text h ++ codes ")")

-- an array with a size 0 is told by its sizes, any other by its rows with commas between them
unfoldable mutual
  pub data_text : Datum → List ℕ
  data_text (Scalar_datum s) = text_of s
  data_text (Array_datum row ds) = cond (lacks (Array_shape (length (listed ds)) row)) (empty_text (Array_shape (length (listed ds)) row)) (codes "[" ++ (rows_text ds ++ codes "]"))
  data_text other = []

  pub rows_text : Datums → List ℕ
  rows_text no_datum = []
  rows_text (datum_and d ds) = data_text d ++ others_text ds

  pub others_text : Datums → List ℕ
  others_text no_datum = []
  others_text (datum_and d ds) = codes ", " ++ (data_text d ++ others_text ds)

abbrev pub data_line : Datum → List ℕ
data_line d = data_text d ++ codes "\n"

-- a line for each of them
abbrev pub data_output : List Datum → List ℕ
data_output ds = flat_map data_line ds
