-- Rows of arrays by their numbers, and what the calls that make arrays of some rows answer.
use Rattle.std.specs.Prelude.{◌≡◌, ℕ, suc, ◌+◌, ◌*◌, ◌==◌, ◌<◌, List, [], ◌∷◌, ◌++◌, Bool, true, false, not, cond, map, flat_map, take, drop, length, slice_get, Some, Result, Ok, Err}
use Rattle.fut_scalar.specs.declared.place.Place.{Place}
use Rattle.fut_value.specs.Leaves.{extent}
use Rattle.fut_meaning.specs.Outcomes.{Val}
use Rattle.core_arrays.specs.Arenas.{Array, Arena, with_array}
use Rattle.core_ir.specs.declared.block.Atom.{Atom}
use Rattle.core_ir.specs.Bundles.{Component, One, Many, Row, sizes, cells, formed, rows_in, row_sizes, glued, array_words}
use Rattle.core_ir.specs.Meaning.{Env, values_of}
use Rattle.core_ir.specs.Plain.{Bundle}
use Rattle.core_ir.specs.Typed.{Sort, Sorts, lifted, Atoms_are, Rows_are}
use Rattle.core_code.specs.Registers.{State, AllShow, Stands}
use Rattle.core_code.specs.Answers.{Answer}
use Rattle.core_code.specs.declared.stop.Stop.{Stop}
use Rattle.core_code.specs.declared.stop.Stop.TheVariants.{Memory}
use Rattle.core_steps.specs.Gluing.{Made, GluedTold}

-- row i of an array
abbrev pub piece : ℕ → Component → Component
piece i (One s) = One s
piece i (Many [] ws) = Many [] ws
piece i (Many (n ∷ ds) ws) = formed ds (take (extent ds) (drop (i * extent ds) ws))

-- the array of the rows of these numbers
abbrev pub chosen : List ℕ → Component → Component
chosen is c = Many (length is ∷ drop 1 (sizes c)) (flat_map (λ i. cells (piece i c)) is)

abbrev pub all_chosen : List ℕ → Row → Row
all_chosen is = map (chosen is)

-- whether an outcome is the one that is asked for
abbrev pub picked : Bool → Bool → Bool
picked true t = t
picked false t = not t

-- the places of those outcomes, from a number on
abbrev pub places_of : Bool → ℕ → List Bool → List ℕ
places_of b k [] = []
places_of b k (t ∷ ts) = cond (picked b t) (k ∷ places_of b (suc k) ts) (places_of b (suc k) ts)

-- the outcomes that words say
abbrev pub truths : List ℕ → List Bool
truths = map (λ w. not (w == 0))

-- numbers of rows of arrays with so many
pub data Below (n : ℕ) : List ℕ → Type 0 where
  none_below : Below n []
  below_and : {i : ℕ} {is : List ℕ} → i < n → Below n is → Below n (i ∷ is)

-- arrays of so many rows
pub data Long (n : ℕ) : Row → Type 0 where
  no_array : Long n []
  array_and : {c : Component} {cs : Row} → rows_in c ≡ Val n → Long n cs → Long n (c ∷ cs)

-- an array of some rows of one that is there
pub data ColumnChosen (a : Array) (is : List ℕ) (A A' : Arena) : Result ℕ Stop → Type 0 where
  column_chosen : {p : ℕ} (n : ℕ) (ds : List ℕ) → a.sizes ≡ n ∷ ds → p ≡ length A.arrays → A' ≡ with_array A (length is ∷ ds) (flat_map (λ i. take (extent ds) (drop (i * extent ds) a.words)) is) → ColumnChosen a is A A' (Ok p)
  no_column_chosen : ColumnChosen a is A A' (Err Memory)

unfoldable pub Column_chosen : ℕ → List ℕ → Arena → Arena → Result ℕ Stop → Type 0
Column_chosen at is A A' r = (a : Array) → slice_get A.arrays at ≡ Some a → ColumnChosen a is A A' r

-- words for arrays that hold some rows of others, above others
pub data RowsChosen (is : List ℕ) (cs : Row) (ss : List Sort) (S S' : State) : Answer → Type 0 where
  rows_chosen : (ws : List ℕ) → AllShow S'.arena.arrays (lifted ss) (all_chosen is cs) ws → S'.stack ≡ S.stack ++ ws → Made S.arena S'.arena (array_words (all_chosen is cs)) → RowsChosen is cs ss S S' (Ok tt)
  no_rows_chosen : RowsChosen is cs ss S S' (Err Memory)

unfoldable pub Rows_chosen : List Atom → List ℕ → State → State → Answer → Type 0
Rows_chosen us is S S' r =
    (G : Sorts) (env : Env) (m n : ℕ) (ss : List Sort) (cs : Row) → Stands G env m S.arena.arrays S.words → Atoms_are G us (lifted ss) → values_of env us ≡ Val cs → Long n cs → Below n is → RowsChosen is cs ss S S' r

-- the same of the rows whose tests passed: the words of the tests lie above others, which stay
pub data PassingTold (is : List ℕ) (cs : Row) (ss : List Sort) (below : List ℕ) (S S' : State) : Answer → Type 0 where
  passing_told : (ws : List ℕ) → AllShow S'.arena.arrays (lifted ss) (all_chosen is cs) ws → S'.stack ≡ below ++ ws → Made S.arena S'.arena (array_words (all_chosen is cs)) → PassingTold is cs ss below S S' (Ok tt)
  no_passing : PassingTold is cs ss below S S' (Err Memory)

unfoldable pub Passing_told : List Atom → ℕ → State → State → Answer → Type 0
Passing_told us mark S S' r =
    (G : Sorts) (env : Env) (m n : ℕ) (ss : List Sort) (cs : Row) (below ws : List ℕ) → Stands G env m S.arena.arrays S.words → Atoms_are G us (lifted ss) → values_of env us ≡ Val cs → Long n cs → S.stack ≡ below ++ ws → length below ≡ mark → length ws ≡ n
    → PassingTold (places_of true 0 (truths ws)) cs ss below S S' r

-- the same of the rows whose tests passed, and behind them of those whose tests did not
pub data PartedTold (is js : List ℕ) (cs : Row) (ss : List Sort) (below : List ℕ) (S S' : State) : Answer → Type 0 where
  parted_told : (ws : List ℕ) → AllShow S'.arena.arrays (lifted ss ++ lifted ss) (all_chosen is cs ++ all_chosen js cs) ws → S'.stack ≡ below ++ ws → Made S.arena S'.arena (array_words (all_chosen is cs) + array_words (all_chosen js cs)) → PartedTold is js cs ss below S S' (Ok tt)
  not_parted : PartedTold is js cs ss below S S' (Err Memory)

unfoldable pub Parted_told : List Atom → ℕ → State → State → Answer → Type 0
Parted_told us mark S S' r =
    (G : Sorts) (env : Env) (m n : ℕ) (ss : List Sort) (cs : Row) (below ws : List ℕ) → Stands G env m S.arena.arrays S.words → Atoms_are G us (lifted ss) → values_of env us ≡ Val cs → Long n cs → S.stack ≡ below ++ ws → length below ≡ mark → length ws ≡ n
    → PartedTold (places_of true 0 (truths ws)) (places_of false 0 (truths ws)) cs ss below S S' r

-- the bundle of no rows, in the place of one that has none
unfoldable pub No_rows_told : Bundle → Place → State → State → Answer → Type 0
No_rows_told r at S S' a =
    (G : Sorts) (env : Env) (m n : ℕ) (row : List Sort) (cs : Row) → Stands G env m S.arena.arrays S.words → (rows : Rows_are G r row) → values_of env r.arrays ≡ Val cs → Long n cs → GluedTold (glued false at (row_sizes r.width cs) []) rows.sorts S.stack S S' a
