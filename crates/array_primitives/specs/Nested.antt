-- Arrays of arrays.
use Rattle.std.specs.Prelude.{◌≡◌, ℕ, List, Some}
use Rattle.fut_value.specs.Data.{Shape, Datum, Array_datum, datums}
use Rattle.array_data.specs.Answers.{each_at}

-- the array of the elements of rows at an index
unfoldable pub Column_of : Shape → ℕ → List Datum → Datum → Type 0
Column_of h k ds v = (es : List Datum) × (each_at k ds ≡ Some es) × (v ≡ Array_datum h (datums es))
