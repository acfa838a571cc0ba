-- What the calls that make arrays of rows which are all the same answer.
use Rattle.std.specs.Prelude.{◌≡◌, ℕ, zero, suc, List, ◌∷◌, [], ◌++◌, map, length, replicate, Result, false}
use Rattle.fut_scalar.specs.declared.place.Place.{Place}
use Rattle.fut_arithmetic.specs.Words.{scalar_of_word}
use Rattle.fut_meaning.specs.Outcomes.{and_then}
use Rattle.core_arrays.specs.Arenas.{Array, Arena}
use Rattle.core_ir.specs.declared.block.Atom.{Atom}
use Rattle.core_ir.specs.Arrays.{replicated}
use Rattle.core_ir.specs.Bundles.{Component, Many, Row, sizes, cells, all_sizes, columns, glued}
use Rattle.core_ir.specs.Meaning.{Env, value_of, values_of}
use Rattle.core_ir.specs.Typed.{Sort, Sorts, Integer, Bundled, Atom_is, Atoms_are}
use Rattle.core_code.specs.Registers.{State, elem_of, Shows, AllShow, Stands}
use Rattle.core_code.specs.Answers.{Answer}
use Rattle.core_code.specs.declared.stop.Stop.{Stop}
use Rattle.core_steps.specs.Gluing.{sort_at, sorts_at, WordsTold, ColumnMade, ColumnsMade, GluedTold}

-- a list so many times, one behind the other
abbrev pub repeated : {A : Type 0} → ℕ → List A → List A
repeated zero xs = []
repeated (suc n) xs = xs ++ repeated n xs

unfoldable pub Cells_repeated : List Array → Atom → ℕ → ℕ → Result (List ℕ) Stop → Type 0
Cells_repeated rs u w count r = (c : Component) → Shows rs (sort_at u) c w → WordsTold (λ vs. map (scalar_of_word (elem_of u)) vs ≡ repeated count (cells c)) r

unfoldable pub Column_repeated : Atom → ℕ → ℕ → Arena → Arena → Result ℕ Stop → Type 0
Column_repeated u w count A A' r = (c : Component) → Shows A.arrays (sort_at u) c w → ColumnMade ((sort_at u).0, suc (sort_at u).1) (Many (count ∷ sizes c) (repeated count (cells c))) A A' r

unfoldable pub Row_repeated : List Atom → ℕ → List ℕ → Arena → Arena → Result (List ℕ) Stop → Type 0
Row_repeated us count ws A A' r = (row : Row) → AllShow A.arrays (sorts_at us) row ws → ColumnsMade (sorts_at us) (columns count (all_sizes row) (replicate count row)) A A' r

unfoldable pub Repeated_told : List Atom → ℕ → ℕ → Place → State → State → Answer → Type 0
Repeated_told us count mark at S S' r =
    (row : Row) (below ws : List ℕ) (out : List Sort) → S.stack ≡ below ++ ws → length below ≡ mark → AllShow S.arena.arrays (sorts_at us) row ws → Bundled (sorts_at us) out → GluedTold (glued false at (all_sizes row) (replicate count row)) out below S S' r

unfoldable pub Replicate_told : Atom → List Atom → Place → State → State → Answer → Type 0
Replicate_told u us at S S' r =
    (G : Sorts) (env : Env) (n : ℕ) (s : Sort) (ss out : List Sort) → Stands G env n S.arena.arrays S.words → Integer s → Atom_is G u s → Atoms_are G us ss → Bundled ss out
    → GluedTold (and_then (value_of env u) (λ c. and_then (values_of env us) (λ row. replicated false at c row))) out S.stack S S' r
