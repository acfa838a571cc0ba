-- What the parts of steps that apply a function to rows answer, whatever names stand.
use Rattle.std.specs.Prelude.{◌≡◌, ℕ, List, ◌++◌, length, map, slice_get, Some, Ok, Err, false}
use Rattle.fut_scalar.specs.declared.place.Place.{Place}
use Rattle.fut_scalar.specs.declared.report.Report.{Report}
use Rattle.fut_meaning.specs.Outcomes.{Val, Fail, Rel, each_of}
use Rattle.fut_blocks.specs.Numbered.{Upward}
use Rattle.core_ir.specs.declared.block.Var.{Var}
use Rattle.core_ir.specs.Bundles.{Row}
use Rattle.core_ir.specs.Meaning.{Env, Results, number, under, source_rows}
use Rattle.core_ir.specs.Numbered.{Body_numbered}
use Rattle.core_ir.specs.Plain.{Body, Source}
use Rattle.core_ir.specs.Typed.{Sort, Sorts, sort_of, with_vars, Body_gives, Source_gives}
use Rattle.core_code.specs.Registers.{State, Stands, Kept}
use Rattle.core_code.specs.Answers.{Answer, Runs}
use Rattle.core_code.specs.Runs.{body_runs}
use Rattle.core_code.specs.declared.stop.Stop.TheVariants.{Failed, Memory}
use Rattle.core_steps.specs.Gluing.{RowsShow}

-- what a function is applied under
pub record Mapping (G : Sorts) (env : Env) (xs : List Var) (source : Source) (b : Body) (ss : List Sort) (next : ℕ) (rows : List Row) (S : State) : Type 0 where
  pub mid : ℕ
  pub last : ℕ
  pub stands : Stands G env next S.arena.arrays S.words
  pub rises : Upward next (map number xs) mid
  pub gives : Source_gives G source (map sort_of xs)
  pub at : Place
  pub read : source_rows false at env source ≡ Val rows
  pub typed : Body_gives (with_vars xs G) b ss
  pub numbered : Body_numbered mid b last

abbrev pub applied : ℕ → Body → List Var → Env → Row → Results
applied budget b xs env row = under xs row env (body_runs budget b)

unfoldable pub Element_runs : ℕ → Body → List Var → Source → ℕ → State → State → Answer → Type 0
Element_runs budget b xs source i S S' a =
    (G : Sorts) (env : Env) (next : ℕ) (ss : List Sort) (rows : List Row) (row : Row) → Mapping G env xs source b ss next rows S → slice_get rows i ≡ Some row → Runs (applied budget b xs env row) ss next S S' a

-- rows that the meaning allows, whose words lie above others
pub data EachRan (m : Rel (List Row)) (ss : List Sort) (count next : ℕ) (S S' : State) : Answer → Type 0 where
  each_ran : (outs : List Row) (ws : List ℕ) (f : ℕ) → S'.stack ≡ S.stack ++ ws → RowsShow S'.arena.arrays ss outs ws → length outs ≡ count → Kept next S S' f → m (Val outs) f → EachRan m ss count next S S' (Ok tt)
  each_failed : {r : Report} (f : ℕ) → m (Fail r) f → EachRan m ss count next S S' (Err (Failed r))
  no_memory_each : EachRan m ss count next S S' (Err Memory)

unfoldable pub Each_runs : ℕ → Body → List Var → Source → ℕ → State → State → Answer → Type 0
Each_runs budget b xs source count S S' a =
    (G : Sorts) (env : Env) (next : ℕ) (ss : List Sort) (rows : List Row) → Mapping G env xs source b ss next rows S → length rows ≡ count → EachRan (each_of (applied budget b xs env) rows) ss count next S S' a
