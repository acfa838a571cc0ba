-- What runs of acts, blocks and loops answer, whatever names stand: these have numbers below `next`, and those that are
-- bound inside lie below `last`.
use Rattle.std.specs.Prelude.{◌≡◌, ℕ, suc, ◌<◌, ◌≤◌, ◌^◌, List, [], ◌∷◌, ◌++◌, length, map, Bool, true, false, Some, Result, Ok, Err}
use Rattle.fut_scalar.specs.Integers.{width_of}
use Rattle.fut_scalar.specs.declared.place.Place.{Place}
use Rattle.fut_scalar.specs.declared.report.FailKind.TheVariants as kind
use Rattle.fut_scalar.specs.declared.report.Report.{Report}
use Rattle.fut_scalar.specs.declared.scalar.IntType.{IntType}
use Rattle.fut_scalar.specs.declared.scalar.Scalar.TheVariants as scalar
use Rattle.fut_scalar.specs.declared.scalar.ScalarType.TheVariants as sort
use Rattle.fut_meaning.specs.Meaning.{counts}
use Rattle.fut_meaning.specs.Operations.{report}
use Rattle.fut_meaning.specs.Outcomes.{Val, Fail, Rel, Then, turns, while_turns}
use Rattle.fut_blocks.specs.Meaning.{bound}
use Rattle.fut_blocks.specs.Numbered.{Upward}
use Rattle.core_ir.specs.declared.block.Var.{Var}
use Rattle.core_ir.specs.Bundles.{Component, One, Row}
use Rattle.core_ir.specs.Meaning.{Env, Results, number, named, under, test_turn, act_means, body_means}
use Rattle.core_ir.specs.Numbered.{Act_numbered, Body_numbered}
use Rattle.core_ir.specs.Plain.{Action, Body}
use Rattle.core_ir.specs.Typed.{Sort, Sorts, sort_of, truth_sort, with_vars, Act_gives, Body_gives}
use Rattle.core_code.specs.Registers.{State, Shows, AllShow, Stands, Kept, state}
use Rattle.core_code.specs.Answers.{Answer, Runs, Stepped}
use Rattle.core_code.specs.declared.stop.Stop.{Stop}
use Rattle.core_code.specs.declared.stop.Stop.TheVariants.{Failed, Memory}

-- the meanings that a run keeps to: reductions by few trees, and what does not fit is the report Size
abbrev pub act_runs : ℕ → Action → Env → Results
act_runs budget a env = act_means true false budget a env

abbrev pub body_runs : ℕ → Body → Env → Results
body_runs budget b env = body_means true false budget b env

unfoldable pub Act_runs : ℕ → Action → State → State → Answer → Type 0
Act_runs budget a S S' r =
    (G : Sorts) (env : Env) (ss : List Sort) (next last : ℕ) → Stands G env next S.arena.arrays S.words → Act_gives G a ss → Act_numbered next a last → Runs (act_runs budget a env) ss next S S' r

unfoldable pub Body_runs : ℕ → Body → State → State → Answer → Type 0
Body_runs budget b S S' r =
    (G : Sorts) (env : Env) (ss : List Sort) (next last : ℕ) → Stands G env next S.arena.arrays S.words → Body_gives G b ss → Body_numbered next b last → Runs (body_runs budget b env) ss next S S' r

-- a step, with the names that stand then
abbrev pub step_means : ℕ → List Var × Action → Env → Rel Env
step_means budget s env = Then (act_runs budget s.1 env) (λ cs. named s.0 cs env)

unfoldable pub Step_runs : ℕ → List Var × Action → State → State → Answer → Type 0
Step_runs budget s S S' r =
    (G : Sorts) (env : Env) (next mid last : ℕ) → Stands G env next S.arena.arrays S.words → Act_gives G s.1 (map sort_of s.0) → Act_numbered next s.1 mid → Upward mid (map number s.0) last
    → Stepped (step_means budget s env) (with_vars s.0 G) next last S S' r

-- ---- loops, on the words that lie on the stack from a mark on

-- what a loop over indices is run under
pub record Turning (G : Sorts) (env : Env) (xs : List Var) (i : Var) (ty : IntType) (b : Body) (next : ℕ) (S : State) : Type 0 where
  pub mid : ℕ
  pub last : ℕ
  pub stands : Stands G env next S.arena.arrays S.words
  pub rises : Upward next (map number xs) mid
  pub index : mid ≤ i.number
  pub sort : sort_of i ≡ (sort.Int ty, 0)
  pub typed : Body_gives ((i.number, sort_of i) ∷ with_vars xs G) b (map sort_of xs)
  pub numbered : Body_numbered (suc i.number) b last

-- words for a loop's parameters lie above others
pub record Lies (xs : List Var) (mark : ℕ) (below : List ℕ) (cs : Row) (S : State) : Type 0 where
  pub ws : List ℕ
  pub stack : S.stack ≡ below ++ ws
  pub long : length below ≡ mark
  pub shown : AllShow S.arena.arrays (map sort_of xs) cs ws

abbrev pub with_stack : State → List ℕ → State
with_stack S s = state S.arena S.words s

abbrev pub index_turn : ℕ → Body → List Var → Var → IntType → Env → ℕ → Row → Results
index_turn budget b xs i ty env j cs = under xs cs env (λ e. body_runs budget b ((i.number, One (scalar.Int ty j)) ∷ e))

unfoldable pub Turn_runs : ℕ → Body → List Var → Var → IntType → ℕ → ℕ → State → State → Answer → Type 0
Turn_runs budget b xs i ty j mark S S' r =
    (G : Sorts) (env : Env) (next : ℕ) (below : List ℕ) (cs : Row) → Turning G env xs i ty b next S → Lies xs mark below cs S → j < 2 ^ width_of ty
    → Runs (index_turn budget b xs i ty env j cs) (map sort_of xs) next (with_stack S below) S' r

unfoldable pub For_runs : ℕ → Body → List Var → Var → IntType → ℕ → ℕ → State → State → Answer → Type 0
For_runs budget b xs i ty count mark S S' r =
    (G : Sorts) (env : Env) (next : ℕ) (below : List ℕ) (cs : Row) → Turning G env xs i ty b next S → Lies xs mark below cs S → count < 2 ^ width_of ty
    → Runs (turns (index_turn budget b xs i ty env) (counts count 0) cs) (map sort_of xs) next (with_stack S below) S' r

-- what a loop with a test is run under
pub record Testing (G : Sorts) (env : Env) (xs : List Var) (t b : Body) (next : ℕ) (S : State) : Type 0 where
  pub mid : ℕ
  pub middle : ℕ
  pub last : ℕ
  pub stands : Stands G env next S.arena.arrays S.words
  pub rises : Upward next (map number xs) mid
  pub test : Body_gives (with_vars xs G) t (truth_sort ∷ [])
  pub typed : Body_gives (with_vars xs G) b (map sort_of xs)
  pub test_numbered : Body_numbered mid t middle
  pub numbered : Body_numbered middle b last

-- one test of a loop, which leaves the words on the stack
pub data Tested (m : Rel Bool) (G : Sorts) (env : Env) (xs : List Var) (cs : Row) (next mid : ℕ) (S S' : State) : Result Bool Stop → Type 0 where
  tested : {b : Bool} (e : Env) (f : ℕ) → bound (map number xs) cs env ≡ Some e → Stands (with_vars xs G) e mid S'.arena.arrays S'.words → Kept next S S' f → S'.stack ≡ S.stack → m (Val b) f → Tested m G env xs cs next mid S S' (Ok b)
  test_failed : {r : Report} (f : ℕ) → m (Fail r) f → Tested m G env xs cs next mid S S' (Err (Failed r))
  no_memory_tested : Tested m G env xs cs next mid S S' (Err Memory)

unfoldable pub Test_runs : ℕ → Body → List Var → ℕ → State → State → Result Bool Stop → Type 0
Test_runs budget t xs mark S S' r =
    (G : Sorts) (env : Env) (next mid middle : ℕ) (below : List ℕ) (cs : Row)
    → Stands G env next S.arena.arrays S.words → Upward next (map number xs) mid → Body_gives (with_vars xs G) t (truth_sort ∷ []) → Body_numbered mid t middle → Lies xs mark below cs S
    → Tested (test_turn (body_runs budget t) xs env cs) G env xs cs next mid S S' r

abbrev pub loops : ℕ → ℕ → Body → Body → List Var → Place → Env → Row → Results
loops budget left t b xs at env = while_turns left (report kind.Turns at) (test_turn (body_runs budget t) xs env) (λ cs. under xs cs env (body_runs budget b))

unfoldable pub While_runs : ℕ → Body → Body → List Var → Place → ℕ → State → State → Answer → Type 0
While_runs budget t b xs at mark S S' r =
    (G : Sorts) (env : Env) (next : ℕ) (below : List ℕ) (cs : Row) → Testing G env xs t b next S → Lies xs mark below cs S
    → Runs (loops budget budget t b xs at env cs) (map sort_of xs) next (with_stack S below) S' r
