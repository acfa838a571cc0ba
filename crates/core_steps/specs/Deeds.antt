-- What steps that make arrays answer, whatever names stand.
use Rattle.std.specs.Prelude.{◌≡◌, ℕ, List, [], ◌∷◌, ◌++◌, length, Ok, Err, false}
use Rattle.fut_scalar.specs.declared.place.Place.{Place}
use Rattle.fut_scalar.specs.declared.scalar.IntType.TheVariants.{I64}
use Rattle.fut_scalar.specs.declared.scalar.ScalarType.TheVariants as sort
use Rattle.fut_meaning.specs.Outcomes.{Out, Val, and_then}
use Rattle.core_arrays.specs.Arenas.{Array}
use Rattle.core_ir.specs.declared.block.Atom.{Atom}
use Rattle.core_ir.specs.Arrays.{sized_by, flat, numbers_below}
use Rattle.core_ir.specs.Bundles.{Row, glued}
use Rattle.core_ir.specs.Meaning.{Env, value_of, groups_of}
use Rattle.core_ir.specs.Typed.{Sort, Sorts, Integer, Bundled, Each_is, Atom_is, Groups_are}
use Rattle.core_code.specs.Registers.{State, Stands}
use Rattle.core_code.specs.Answers.{Answer}
use Rattle.core_code.specs.declared.stop.Stop.TheVariants.{Memory}
use Rattle.core_steps.specs.Gluing.{RowsShow, GluedTold}

unfoldable pub Iota_told : Atom → Place → State → State → Answer → Type 0
Iota_told u at S S' r =
    (G : Sorts) (env : Env) (n : ℕ) (s : Sort) → Stands G env n S.arena.arrays S.words → Integer s → Atom_is G u s
    → GluedTold (and_then (value_of env u) (λ c. sized_by at c (λ n. flat at n (numbers_below n)))) ((sort.Int I64, 1) ∷ []) S.stack S S' r

-- words for rows of the same sorts, above others
pub data RowsRead (o : Out (List Row)) (rs : List Array) (row : List Sort) (many : ℕ) (stack stack' : List ℕ) : Answer → Type 0 where
  rows_read : (rows : List Row) (ws : List ℕ) → o ≡ Val rows → RowsShow rs row rows ws → length rows ≡ many → stack' ≡ stack ++ ws → RowsRead o rs row many stack stack' (Ok tt)
  no_rows_read : RowsRead o rs row many stack stack' (Err Memory)

unfoldable pub Rows_read : List ℕ → List (List Atom) → List ℕ → List ℕ → Answer → Type 0
Rows_read t uss stack stack' r =
    (G : Sorts) (env : Env) (n : ℕ) (rs : List Array) (row : List Sort) (sss : List (List Sort)) → Stands G env n rs t → Groups_are G uss sss → Each_is row sss → RowsRead (groups_of env uss) rs row (length uss) stack stack' r

unfoldable pub Literal_told : List (List Atom) → Place → State → State → Answer → Type 0
Literal_told uss at S S' r =
    (G : Sorts) (env : Env) (n : ℕ) (row out : List Sort) (sss : List (List Sort)) → Stands G env n S.arena.arrays S.words → Groups_are G uss sss → Each_is row sss → Bundled row out → GluedTold (and_then (groups_of env uss) (glued false at [])) out S.stack S S' r
