-- What the parts of steps that test rows answer, whatever names stand.
use Rattle.std.specs.Prelude.{◌≡◌, ℕ, List, [], ◌∷◌, ◌++◌, Bool, length, Ok, Err}
use Rattle.fut_scalar.specs.declared.report.Report.{Report}
use Rattle.fut_meaning.specs.Outcomes.{Val, Fail, Rel, each_of}
use Rattle.core_ir.specs.declared.block.Var.{Var}
use Rattle.core_ir.specs.Bundles.{Row}
use Rattle.core_ir.specs.Meaning.{Env, test_turn}
use Rattle.core_ir.specs.Plain.{Body, Bundle, Of_rows}
use Rattle.core_ir.specs.Typed.{Sorts, truth_sort}
use Rattle.core_code.specs.Registers.{State, Kept}
use Rattle.core_code.specs.Answers.{Answer}
use Rattle.core_code.specs.Runs.{body_runs}
use Rattle.core_code.specs.declared.stop.Stop.TheVariants.{Failed, Memory}
use Rattle.core_steps.specs.Choosing.{truths}
use Rattle.exec.specs.Maps.{Mapping}

-- a word above others for each test, which the meaning allows
pub data TestsRan (m : Rel (List Bool)) (count next : ℕ) (S S' : State) : Answer → Type 0 where
  tests_ran : (ws : List ℕ) (f : ℕ) → S'.stack ≡ S.stack ++ ws → length ws ≡ count → Kept next S S' f → m (Val (truths ws)) f → TestsRan m count next S S' (Ok tt)
  tests_failed : {r : Report} (f : ℕ) → m (Fail r) f → TestsRan m count next S S' (Err (Failed r))
  no_memory_tests : TestsRan m count next S S' (Err Memory)

unfoldable pub Tests_run : ℕ → Body → List Var → Bundle → ℕ → State → State → Answer → Type 0
Tests_run budget b xs r count S S' a =
    (G : Sorts) (env : Env) (next : ℕ) (rows : List Row) → Mapping G env xs (Of_rows (r ∷ [])) b (truth_sort ∷ []) next rows S → length rows ≡ count → TestsRan (each_of (test_turn (body_runs budget b) xs env) rows) count next S S' a
