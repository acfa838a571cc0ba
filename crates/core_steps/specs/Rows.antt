-- What the calls on rows of arrays answer, whatever names stand.
use Rattle.std.specs.Prelude.{◌≡◌, ℕ, suc, ◌*◌, ◌<◌, List, [], ◌∷◌, ◌++◌, length, get_or, slice_get, Some, Result, Ok, Err, false}
use Rattle.fut_scalar.specs.declared.place.Place.{Place}
use Rattle.fut_scalar.specs.declared.report.Report.{Report}
use Rattle.fut_scalar.specs.declared.scalar.ScalarType.{ScalarType}
use Rattle.fut_arithmetic.specs.Words.{word_of, scalar_of_word}
use Rattle.fut_value.specs.Leaves.{extent}
use Rattle.fut_meaning.specs.Outcomes.{Out, Val, Fail, and_then}
use Rattle.core_arrays.specs.Arenas.{Array, Arena, with_part}
use Rattle.core_ir.specs.declared.block.Atom.{Atom}
use Rattle.core_ir.specs.Bundles.{Component, Row, column, rows_in, size_of, rows_of}
use Rattle.core_ir.specs.Meaning.{Env, value_of, values_of}
use Rattle.core_ir.specs.Plain.{Bundle}
use Rattle.core_ir.specs.Typed.{Sort, Sorts, lifted, Atom_is, Atoms_are, Rows_are}
use Rattle.core_code.specs.Registers.{State, Shows, AllShow, Stands}
use Rattle.core_code.specs.Answers.{Answer}
use Rattle.core_code.specs.declared.stop.Stop.{Stop}
use Rattle.core_code.specs.declared.stop.Stop.TheVariants.{Failed, Memory}

-- ---- how many rows there are

-- the number that an outcome has, or its report
pub data CountTold (o : Out ℕ) : Result ℕ Stop → Type 0 where
  count_told : {n : ℕ} → o ≡ Val n → CountTold o (Ok n)
  count_failed : {r : Report} → o ≡ Fail r → CountTold o (Err (Failed r))
  no_count : CountTold o (Err Memory)

unfoldable pub Long_read : List ℕ → List Array → Atom → Result ℕ Stop → Type 0
Long_read t rs u r = (G : Sorts) (env : Env) (n rank : ℕ) (ty : ScalarType) → Stands G env n rs t → Atom_is G u (ty, suc rank) → CountTold (and_then (value_of env u) rows_in) r

unfoldable pub Count_read : List ℕ → List Array → List Atom → Place → Result ℕ Stop → Type 0
Count_read t rs us at r = (G : Sorts) (env : Env) (n : ℕ) (ss : List Sort) (cs : Row) → Stands G env n rs t → Atoms_are G us (lifted ss) → values_of env us ≡ Val cs → CountTold (size_of false at cs) r

-- the rows of a bundle
pub data BundleTold (env : Env) (r : Bundle) (at : Place) : Result ℕ Stop → Type 0 where
  bundle_told : (cs : Row) (rows : List Row) → values_of env r.arrays ≡ Val cs → rows_of false at r.width cs ≡ Val rows → BundleTold env r at (Ok (length rows))
  bundle_failed : {s : Report} (cs : Row) → values_of env r.arrays ≡ Val cs → rows_of false at r.width cs ≡ Fail s → BundleTold env r at (Err (Failed s))
  no_bundle : BundleTold env r at (Err Memory)

unfoldable pub Bundle_counted : List ℕ → List Array → Bundle → Place → Result ℕ Stop → Type 0
Bundle_counted t rs r at a = (G : Sorts) (env : Env) (n : ℕ) (row : List Sort) → Stands G env n rs t → Rows_are G r row → BundleTold env r at a

-- ---- one of them

-- the component of each array's row i
pub data Row_at (i : ℕ) : Row → Row → Type 0 where
  none_at : Row_at i [] []
  at_and : {c d : Component} {cs ds : Row} → slice_get (column c) i ≡ Some d → Row_at i cs ds → Row_at i (c ∷ cs) (d ∷ ds)

-- new arrays stand behind the old ones, without words of their own
pub record Grown (S S' : State) : Type 0 where
  pub arrays : (i : ℕ) (a : Array) → slice_get S.arena.arrays i ≡ Some a → slice_get S'.arena.arrays i ≡ Some a
  pub handed : S'.arena.handed ≡ S.arena.handed

-- a cell that is there, as a word of its type
pub data CellTold (t : ScalarType) (i : ℕ) (a : Array) : Result ℕ Stop → Type 0 where
  cell_told : {w : ℕ} → i < length a.words → w ≡ word_of (scalar_of_word t (get_or a.words i 0)) → CellTold t i a (Ok w)
  no_cell : CellTold t i a (Err Memory)

unfoldable pub Cell_told : List Array → ScalarType → ℕ → ℕ → Result ℕ Stop → Type 0
Cell_told rs t at i r = (a : Array) → slice_get rs at ≡ Some a → CellTold t i a r

-- a row that is there, as an array of a part of the words
pub data PartTold (i : ℕ) (a : Array) (A A' : Arena) : Result ℕ Stop → Type 0 where
  part_told : {p : ℕ} (n : ℕ) (ds : List ℕ) → a.sizes ≡ n ∷ ds → i < n → p ≡ length A.arrays → A' ≡ with_part A a ds (i * extent ds) (extent ds) → PartTold i a A A' (Ok p)
  no_part : PartTold i a A A' (Err Memory)

unfoldable pub Part_told : ℕ → ℕ → Arena → Arena → Result ℕ Stop → Type 0
Part_told at i A A' r = (a : Array) → slice_get A.arrays at ≡ Some a → PartTold i a A A' r

-- a word more, which stands for a component of row i
pub data CellPushed (s : Sort) (c : Component) (i : ℕ) (S S' : State) : Answer → Type 0 where
  cell_pushed : (d : Component) (w : ℕ) → slice_get (column c) i ≡ Some d → Shows S'.arena.arrays s d w → S'.stack ≡ S.stack ++ w ∷ [] → Grown S S' → CellPushed s c i S S' (Ok tt)
  not_pushed : CellPushed s c i S S' (Err Memory)

unfoldable pub Cell_pushed : Atom → ℕ → State → State → Answer → Type 0
Cell_pushed u i S S' r = (G : Sorts) (env : Env) (n rank : ℕ) (ty : ScalarType) (c : Component) → Stands G env n S.arena.arrays S.words → Atom_is G u (ty, suc rank) → value_of env u ≡ Val c → CellPushed (ty, rank) c i S S' r

-- words for row i lie above others
pub data RowPushed (P : Row → Type 0) (ss : List Sort) (S S' : State) : Answer → Type 0 where
  row_pushed : (ds : Row) (ws : List ℕ) → P ds → AllShow S'.arena.arrays ss ds ws → S'.stack ≡ S.stack ++ ws → Grown S S' → RowPushed P ss S S' (Ok tt)
  no_row : RowPushed P ss S S' (Err Memory)

unfoldable pub Row_pushed : List Atom → ℕ → State → State → Answer → Type 0
Row_pushed us i S S' r = (G : Sorts) (env : Env) (n : ℕ) (ss : List Sort) (cs : Row) → Stands G env n S.arena.arrays S.words → Atoms_are G us (lifted ss) → values_of env us ≡ Val cs → RowPushed (Row_at i cs) ss S S' r

unfoldable pub Bundle_pushed : Bundle → ℕ → State → State → Answer → Type 0
Bundle_pushed r i S S' a =
    (G : Sorts) (env : Env) (n : ℕ) (row : List Sort) (cs : Row) (rows : List Row) (at : Place) → Stands G env n S.arena.arrays S.words → Rows_are G r row → values_of env r.arrays ≡ Val cs → rows_of false at r.width cs ≡ Val rows → i < length rows
    → RowPushed (λ ds. slice_get rows i ≡ Some ds) row S S' a
