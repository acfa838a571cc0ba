-- What the parts of steps that run a block on rows answer, whatever names stand.
use Rattle.std.specs.Prelude.{◌≡◌, ℕ, List, length, map, slice_get, Some, false}
use Rattle.fut_scalar.specs.declared.place.Place.{Place}
use Rattle.fut_meaning.specs.Outcomes.{Val, turns}
use Rattle.fut_blocks.specs.Numbered.{Upward}
use Rattle.core_ir.specs.declared.block.Var.{Var}
use Rattle.core_ir.specs.Bundles.{Row, rows_of}
use Rattle.core_ir.specs.Meaning.{Env, Results, number, under, values_of}
use Rattle.core_ir.specs.Numbered.{Body_numbered}
use Rattle.core_ir.specs.Plain.{Body, Bundle}
use Rattle.core_ir.specs.Typed.{Sort, Sorts, sort_of, with_vars, Body_gives, Rows_are}
use Rattle.core_code.specs.Registers.{State, Stands}
use Rattle.core_code.specs.Answers.{Answer, Runs}
use Rattle.core_code.specs.Runs.{body_runs, Lies, with_stack}

-- a block under parameters, whose words lie on the stack
unfoldable pub Under_runs : ℕ → Body → List Var → ℕ → State → State → Answer → Type 0
Under_runs budget b xs mark S S' r =
    (G : Sorts) (env : Env) (n mid last : ℕ) (below : List ℕ) (cs : Row) (ss : List Sort) → Stands G env n S.arena.arrays S.words → Upward n (map number xs) mid → Body_gives (with_vars xs G) b ss → Body_numbered mid b last → Lies xs mark below cs S
    → Runs (under xs cs env (body_runs budget b)) ss n (with_stack S below) S' r

-- what a loop over rows is run under
pub record Folding (G : Sorts) (env : Env) (xs ys : List Var) (r : Bundle) (b : Body) (next : ℕ) (rows : List Row) (S : State) : Type 0 where
  pub mid : ℕ
  pub middle : ℕ
  pub last : ℕ
  pub stands : Stands G env next S.arena.arrays S.words
  pub rises : Upward next (map number xs) mid
  pub row_rises : Upward mid (map number ys) middle
  pub bundle : Rows_are G r (map sort_of ys)
  pub arrays : Row
  pub values : values_of env r.arrays ≡ Val arrays
  pub at : Place
  pub read : rows_of false at r.width arrays ≡ Val rows
  pub typed : Body_gives (with_vars ys (with_vars xs G)) b (map sort_of xs)
  pub numbered : Body_numbered middle b last

abbrev pub row_turn : ℕ → Body → List Var → List Var → Env → Row → Row → Results
row_turn budget b xs ys env row cs = under xs cs env (λ e. under ys row e (body_runs budget b))

unfoldable pub Row_turn_runs : ℕ → Body → List Var → List Var → Bundle → ℕ → ℕ → State → State → Answer → Type 0
Row_turn_runs budget b xs ys r i mark S S' a =
    (G : Sorts) (env : Env) (next : ℕ) (below : List ℕ) (cs : Row) (rows : List Row) (row : Row) → Folding G env xs ys r b next rows S → Lies xs mark below cs S → slice_get rows i ≡ Some row
    → Runs (row_turn budget b xs ys env row cs) (map sort_of xs) next (with_stack S below) S' a

unfoldable pub Fold_runs : ℕ → Body → List Var → List Var → Bundle → ℕ → ℕ → State → State → Answer → Type 0
Fold_runs budget b xs ys r count mark S S' a =
    (G : Sorts) (env : Env) (next : ℕ) (below : List ℕ) (cs : Row) (rows : List Row) → Folding G env xs ys r b next rows S → Lies xs mark below cs S → length rows ≡ count
    → Runs (turns (row_turn budget b xs ys env) rows cs) (map sort_of xs) next (with_stack S below) S' a
