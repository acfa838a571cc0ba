-- What the calls that put rows into arrays answer.
use Rattle.std.specs.Prelude.{◌≡◌, ℕ, suc, ◌+◌, ◌<◌, ◌≤◌, List, [], ◌∷◌, ◌++◌, map, flat_map, drop, length, get_or, nat_le, slice_get, Bool, true, Some, Result, Ok, Err, false}
use Rattle.fut_scalar.specs.declared.place.Place.{Place}
use Rattle.fut_scalar.specs.declared.report.Report.{Report}
use Rattle.fut_scalar.specs.declared.scalar.Scalar.{Scalar}
use Rattle.fut_scalar.specs.declared.scalar.ScalarType.{ScalarType}
use Rattle.fut_arithmetic.specs.Words.{scalar_of_word}
use Rattle.fut_value.specs.Leaves.{extent}
use Rattle.fut_meaning.specs.Arrays.{most_words}
use Rattle.fut_meaning.specs.Outcomes.{Out, Val, Fail}
use Rattle.core_arrays.specs.Arenas.{Array, Arena}
use Rattle.core_ir.specs.declared.block.Atom.{Atom}
use Rattle.core_ir.specs.Bundles.{Component, Row, sizes, cells, all_sizes, all_same_sizes, all_have, weight_of, first_cells, columns, bundle, within_weight, glued, array_words}
use Rattle.core_ir.specs.Typed.{Sort, lifted, Bundled}
use Rattle.core_code.specs.Registers.{State, elem_of, rank_of, Shows, AllShow}
use Rattle.core_code.specs.Answers.{Answer}
use Rattle.core_code.specs.declared.stop.Stop.{Stop}
use Rattle.core_code.specs.declared.stop.Stop.TheVariants.{Failed, Memory}

-- the sorts of operands
abbrev pub sort_at : Atom → Sort
sort_at u = (elem_of u, rank_of u)

abbrev pub sorts_at : List Atom → List Sort
sorts_at = map sort_at

-- words for rows, one row after the other
pub data RowsShow (rs : List Array) (ss : List Sort) : List Row → List ℕ → Type 0 where
  no_rows_shown : RowsShow rs ss [] []
  row_shown_and : {row : Row} {rows : List Row} {ws vs : List ℕ} → AllShow rs ss row ws → RowsShow rs ss rows vs → RowsShow rs ss (row ∷ rows) (ws ++ vs)

-- ---- sizes

unfoldable pub Sized_at : List Array → Atom → ℕ → List ℕ → Type 0
Sized_at rs u w ds = (c : Component) → Shows rs (sort_at u) c w → ds ≡ sizes c

-- a truth value that an answer has
pub data TestTold (b : Bool) : Result Bool Stop → Type 0 where
  test_told : TestTold b (Ok b)
  no_test : TestTold b (Err Memory)

unfoldable pub Row_fits : List Array → List Atom → List ℕ → List ℕ → Result Bool Stop → Type 0
Row_fits rs us ws vs r = (cs ds : Row) → AllShow rs (sorts_at us) cs ws → AllShow rs (sorts_at us) ds vs → TestTold (all_same_sizes (all_sizes cs) (all_sizes ds)) r

unfoldable pub Rows_fit : List Array → List Atom → ℕ → List ℕ → Result Bool Stop → Type 0
Rows_fit rs us count ws r = (row : Row) (rows : List Row) → RowsShow rs (sorts_at us) (row ∷ rows) ws → length (row ∷ rows) ≡ count → TestTold (all_have (all_sizes row) (row ∷ rows)) r

unfoldable pub Within_told : List Array → List Atom → ℕ → List ℕ → Result Bool Stop → Type 0
Within_told rs us count ws r = (row : Row) → AllShow rs (sorts_at us) row ws → TestTold (nat_le (weight_of (map (λ d. count ∷ d) (all_sizes row))) most_words) r

-- ---- columns

-- the cells of component c in all rows
abbrev pub column_cells : ℕ → List Row → List Scalar
column_cells c rows = flat_map (λ row. first_cells (drop c row)) rows

-- the words of a component's cells behind others
pub data CellsPut (u : Atom) (c : Component) (ws ws' : List ℕ) : Answer → Type 0 where
  cells_put : (vs : List ℕ) → ws' ≡ ws ++ vs → map (scalar_of_word (elem_of u)) vs ≡ cells c → CellsPut u c ws ws' (Ok tt)
  no_cells_put : CellsPut u c ws ws' (Err Memory)

unfoldable pub Cells_put : List Array → Atom → ℕ → List ℕ → List ℕ → Answer → Type 0
Cells_put rs u w ws ws' r = (c : Component) → Shows rs (sort_at u) c w → CellsPut u c ws ws' r

-- words that an answer has
pub data WordsTold (P : List ℕ → Type 0) : Result (List ℕ) Stop → Type 0 where
  words_told : {ws : List ℕ} → P ws → WordsTold P (Ok ws)
  no_words : WordsTold P (Err Memory)

unfoldable pub Column_read : List Array → List Atom → ℕ → ℕ → List ℕ → Result (List ℕ) Stop → Type 0
Column_read rs us c count ws r = (d : Atom) (rows : List Row) → RowsShow rs (sorts_at us) rows ws → length rows ≡ count → WordsTold (λ vs. (c < length us) × (map (scalar_of_word (elem_of (get_or us c d))) vs ≡ column_cells c rows)) r

unfoldable pub Sizes_read : List Array → Atom → ℕ → ℕ → Result (List ℕ) Stop → Type 0
Sizes_read rs u w count r = (c : Component) → Shows rs (sort_at u) c w → WordsTold (λ ds. ds ≡ count ∷ sizes c) r

-- arrays stand behind the old ones, for at most so many words
pub record Made (A A' : Arena) (n : ℕ) : Type 0 where
  pub arrays : (i : ℕ) (a : Array) → slice_get A.arrays i ≡ Some a → slice_get A'.arrays i ≡ Some a
  pub handed : A'.handed ≤ A.handed + n

-- rows of one shape, whose words lie one row after the other
pub record Alike_rows (rs : List Array) (us : List Atom) (count : ℕ) (ws : List ℕ) (row : Row) (rows : List Row) : Type 0 where
  pub shown : RowsShow rs (sorts_at us) (row ∷ rows) ws
  pub many : length (row ∷ rows) ≡ count
  pub alike : all_have (all_sizes row) (row ∷ rows) ≡ true

pub data ColumnMade (s : Sort) (c : Component) (A A' : Arena) : Result ℕ Stop → Type 0 where
  column_made : {w : ℕ} → Shows A'.arrays s c w → Made A A' (extent (sizes c)) → ColumnMade s c A A' (Ok w)
  no_column : ColumnMade s c A A' (Err Memory)

unfoldable pub Column_made : List Atom → ℕ → ℕ → List ℕ → Arena → Arena → Result ℕ Stop → Type 0
Column_made us c count ws A A' r = (s : Sort) (row : Row) (rows : List Row) (m : Component) → Alike_rows A.arrays us count ws row rows → slice_get (sorts_at us) c ≡ Some s → slice_get (columns count (all_sizes row) (row ∷ rows)) c ≡ Some m → ColumnMade (s.0, suc s.1) m A A' r

pub data ColumnsMade (ss : List Sort) (cs : Row) (A A' : Arena) : Result (List ℕ) Stop → Type 0 where
  columns_made : {ws : List ℕ} → AllShow A'.arrays (lifted ss) cs ws → Made A A' (array_words cs) → ColumnsMade ss cs A A' (Ok ws)
  no_columns : ColumnsMade ss cs A A' (Err Memory)

unfoldable pub Columns_made : List Atom → ℕ → List ℕ → Arena → Arena → Result (List ℕ) Stop → Type 0
Columns_made us count ws A A' r = (row : Row) (rows : List Row) → Alike_rows A.arrays us count ws row rows → ColumnsMade (sorts_at us) (columns count (all_sizes row) (row ∷ rows)) A A' r

-- ---- rows as arrays

-- arrays for the rows, in the place of their words; or a report
pub data GluedTold (o : Out Row) (out : List Sort) (below : List ℕ) (S S' : State) : Answer → Type 0 where
  glued_told : (cs : Row) (ws : List ℕ) → o ≡ Val cs → AllShow S'.arena.arrays out cs ws → S'.stack ≡ below ++ ws → Made S.arena S'.arena (array_words cs) → GluedTold o out below S S' (Ok tt)
  glue_failed : {r : Report} → o ≡ Fail r → GluedTold o out below S S' (Err (Failed r))
  no_glue : GluedTold o out below S S' (Err Memory)

-- so many rows without components
unfoldable pub Bare_told : ℕ → ℕ → Place → State → State → Answer → Type 0
Bare_told count mark at S S' r = (below ws : List ℕ) (t : ScalarType) → S.stack ≡ below ++ ws → length below ≡ mark → GluedTold (within_weight at (bundle count [] [])) ((t, 2) ∷ []) below S S' r

unfoldable pub Glued_told : List Atom → ℕ → ℕ → Place → State → State → Answer → Type 0
Glued_told us count mark at S S' r =
    (row : Row) (rows : List Row) (below ws : List ℕ) (told : List (List ℕ)) (out : List Sort) → S.stack ≡ below ++ ws → length below ≡ mark → RowsShow S.arena.arrays (sorts_at us) (row ∷ rows) ws → length (row ∷ rows) ≡ count → Bundled (sorts_at us) out
    → GluedTold (glued false at told (row ∷ rows)) out below S S' r
