-- Reading arrays: rows in brackets with commas between them, each read as what is wanted with one dimension less. What is read
-- is told by its sizes, the outermost first, and the words of its scalars in order. The first refusal that is met is the answer,
-- and a row is counted, and compared with the first one of its array, at its end.
use Rattle.std.specs.Prelude.{ℕ, zero, suc, ◌+◌, Bool, true, false, ◌&&◌, cond, nat_lt, ◌==◌, List, [], ◌∷◌, ◌++◌, length, drop, Option, Some, None, Result, Ok, Err}
use Rattle.fut_scalar.specs.declared.scalar.Scalar.{Scalar}
use Rattle.fut_scalar.specs.declared.scalar.ScalarType.{ScalarType}
use Rattle.fut_arithmetic.specs.Words.{word_of}
use Rattle.fut_value.specs.Values.{greatest_weight, weight_of}
use Rattle.value_text.specs.Gaps.{begins_with, gap_at}
use Rattle.value_text.specs.Reading.{value_as}
use Rattle.value_text.specs.Spelled.{spelled_at}
use Rattle.value_text.specs.Written.{Dimensions, first_beyond, has_zero, names_type, sizes_of, written}
use Rattle.value_text.specs.declared.reading.TextErr.{TextErr}
use Rattle.value_text.specs.declared.reading.TextErr.TheVariants as text
use Rattle.value_text.specs.declared.spelled.Form.{Form}
use Rattle.value_text.specs.declared.spelled.Form.TheVariants as form
use Rattle.value_text.specs.declared.spelled.Spelled.{Spelled}

-- sizes, words, and how many bytes they take
pub record Read : Type 0 where
  pub sizes : List ℕ
  pub words : List ℕ
  pub length : ℕ

-- what reads the front of a text that begins at a position
abbrev pub Array_reader : Type 0
Array_reader = (position : ℕ) → List ℕ → Result Read TextErr

-- the rows so far: how many, the sizes of the first, and the words of all
pub record Rows : Type 0 where
  pub count : ℕ
  pub sizes : List ℕ
  pub words : List ℕ

abbrev pub no_row : Rows
no_row = record { count = 0; sizes = []; words = [] }

abbrev pub same_sizes : List ℕ → List ℕ → Bool
same_sizes [] [] = true
same_sizes [] (n ∷ ns) = false
same_sizes (m ∷ ms) [] = false
same_sizes (m ∷ ms) (n ∷ ns) = m == n && same_sizes ms ns

-- the sizes of the first row, where this row may be it
abbrev pub first_sizes : (count : ℕ) → (first row : List ℕ) → List ℕ
first_sizes count first row = cond (count == 0) row first

-- a row that begins at this position makes the array too large, or has other sizes than the first; or it counts
unfoldable pub counted : (position count : ℕ) → (first row : List ℕ) → Result (List ℕ) TextErr
counted position count first row =
    cond (nat_lt greatest_weight (weight_of ((count + 1) ∷ first_sizes count first row))) (Err (text.TooLarge position))
    (cond (same_sizes row (first_sizes count first row)) (Ok (first_sizes count first row)) (Err (text.Irregular position)))

abbrev pub and_then : {A B : Type 0} → Result A TextErr → (A → Result B TextErr) → Result B TextErr
and_then (Ok a) next = next a
and_then (Err err) next = Err err

-- what reads on behind the first `before` bytes of an array that begins at `start`
abbrev pub Rows_reader : Type 0
Rows_reader = Rows → (start before : ℕ) → List ℕ → Result Read TextErr

-- behind a row, and the blanks behind it, a bracket ends the array and a comma goes on
abbrev pub behind_row : Rows_reader → Rows_reader
behind_row others rows start before bytes =
    cond (begins_with 93 bytes) (Ok (record { sizes = rows.count ∷ rows.sizes; words = rows.words; length = before + 1 }))
    (cond (begins_with 44 bytes) (others rows start (before + 1) (drop 1 bytes))
    (Err (text.BadText (start + before))))

-- a row, where no blanks stand before it, and what is behind it
abbrev pub row_and : Array_reader → Rows_reader → Rows_reader
row_and row others rows start before bytes =
    and_then (row (start + before) bytes) (λ read.
    and_then (counted (start + before) rows.count rows.sizes read.sizes) (λ sizes.
    behind_row others (record { count = rows.count + 1; sizes = sizes; words = rows.words ++ read.words }) start (before + read.length + gap_at (drop read.length bytes)) (drop (gap_at (drop read.length bytes)) (drop read.length bytes))))

-- at most so many rows
abbrev pub rows_up_to : ℕ → Array_reader → Rows_reader
rows_up_to zero row rows start before bytes = Err (text.BadText (start + before))
rows_up_to (suc n) row rows start before bytes = row_and row (rows_up_to n row) rows start (before + gap_at bytes) (drop (gap_at bytes) bytes)

-- an array without rows has one dimension
abbrev pub no_rows : (rank position length : ℕ) → Result Read TextErr
no_rows zero position length = Ok (record { sizes = 0 ∷ []; words = []; length = length })
no_rows (suc n) position length = Err (text.BadText position)

-- an array that begins at `start`, from behind its `[` on; no text has more rows than bytes
abbrev pub rows_at : (rank : ℕ) → Array_reader → Array_reader
rows_at rank row start bytes =
    cond (begins_with 93 (drop (gap_at bytes) bytes)) (no_rows rank (start + 1 + gap_at bytes) (gap_at bytes + 2))
    (rows_up_to (length bytes) row no_row start 1 bytes)

abbrev pub scalar_read : (length : ℕ) → Result Scalar TextErr → Result Read TextErr
scalar_read length (Ok value) = Ok (record { sizes = []; words = word_of value ∷ []; length = length })
scalar_read length (Err err) = Err err

abbrev pub scalar_as : ScalarType → (position : ℕ) → Result Spelled ℕ → Result Read TextErr
scalar_as ty position (Ok spelled) = scalar_read spelled.length (value_as ty position spelled.form)
scalar_as ty position (Err offset) = Err (text.BadText (position + offset))

unfoldable pub spelled_scalar : ScalarType → Array_reader
spelled_scalar ty position bytes = scalar_as ty position (spelled_at bytes)

-- whether an empty array of these sizes, with the name of its type behind them, is one of this rank and type
abbrev pub is_wanted_empty : ScalarType → (rank : ℕ) → (sizes after : List ℕ) → Bool
is_wanted_empty ty rank sizes after = length sizes == rank && has_zero sizes && names_type ty (drop (gap_at after) after)

-- it may have a size that is too great, which stands so far behind its first one, or too great a product of sizes
abbrev pub in_limits : (position from long : ℕ) → List ℕ → Option ℕ → Result Read TextErr
in_limits position from long sizes (Some offset) = Err (text.OutOfRange (from + offset))
in_limits position from long sizes None = cond (nat_lt greatest_weight (weight_of sizes)) (Err (text.TooLarge position)) (Ok (record { sizes = sizes; words = []; length = long }))

abbrev pub dimensions_as : ScalarType → (rank position from long : ℕ) → Dimensions → (after : List ℕ) → Result Read TextErr
dimensions_as ty rank position from long dims after =
    cond (is_wanted_empty ty rank (sizes_of dims.all) after) (in_limits position from long (sizes_of dims.all) (first_beyond dims.all)) (Err (text.WrongType position))

-- an empty array that begins at this position, of so many bytes, from behind the bracket that opens its sizes
unfoldable pub empty_as : ScalarType → (rank position from long : ℕ) → List ℕ → Result Read TextErr
empty_as ty rank position from long bytes = dimensions_as ty rank position from long (written bytes) (drop (written bytes).end bytes)

-- how many bytes stand before the sizes, behind the word
abbrev pub opening : List ℕ → ℕ
opening bytes = gap_at bytes + 1

abbrev pub form_as_array : ScalarType → (rank position long : ℕ) → (after : List ℕ) → Form → Result Read TextErr
form_as_array ty rank position long bytes form.Array = empty_as ty rank position (position + 5 + opening bytes) long (drop (opening bytes) bytes)
form_as_array ty rank position long bytes other = Err (text.WrongType position)

abbrev pub spelled_as_array : ScalarType → (rank position : ℕ) → List ℕ → Result Spelled ℕ → Result Read TextErr
spelled_as_array ty rank position bytes (Ok spelled) = form_as_array ty rank position spelled.length (drop 5 bytes) spelled.form
spelled_as_array ty rank position bytes (Err offset) = Err (text.BadText (position + offset))

-- where an array is wanted and no `[` stands, only an empty one may
unfoldable pub other_than_rows : ScalarType → (rank : ℕ) → Array_reader
other_than_rows ty rank position bytes = spelled_as_array ty rank position bytes (spelled_at bytes)

-- a value of this scalar type and rank at the front of a text, where no blanks stand
abbrev pub read_at : ScalarType → (rank : ℕ) → Array_reader
read_at ty zero position bytes = spelled_scalar ty position bytes
read_at ty (suc n) position bytes = cond (begins_with 91 bytes) (rows_at n (read_at ty n) position (drop 1 bytes)) (other_than_rows ty (suc n) position bytes)
