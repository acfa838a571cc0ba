-- What runs of acts, blocks and loops answer, whatever names stand: these have numbers below `next`, and those that are
-- bound inside lie below `last`, which the table reaches.
use Rattle.std.specs.Prelude.{◌≡◌, ℕ, suc, ◌<◌, ◌≤◌, ◌^◌, List, ◌∷◌, ◌++◌, length, Bool, Some, Result, Ok, Err, true}
use Rattle.fut_scalar.specs.Integers.{width_of}
use Rattle.fut_scalar.specs.declared.place.Place.{Place}
use Rattle.fut_scalar.specs.declared.report.FailKind.TheVariants as kind
use Rattle.fut_scalar.specs.declared.report.Report.{Report}
use Rattle.fut_scalar.specs.declared.scalar.IntType.{IntType}
use Rattle.fut_value.specs.Data.{Scalar_datum}
use Rattle.fut_scalar.specs.declared.scalar.Scalar.TheVariants as scalar
use Rattle.fut_meaning.specs.Meaning.{counts}
use Rattle.fut_meaning.specs.Operations.{report}
use Rattle.fut_meaning.specs.Outcomes.{Val, Fail, Wrong, Rel, Then, turns, while_turns}
use Rattle.fut_blocks.specs.declared.block.Program.{Program}
use Rattle.fut_blocks.specs.Plain.{Action, Coerce, Body, body_of}
use Rattle.fut_blocks.specs.Rows.{Row, Size_test}
use Rattle.fut_blocks.specs.Programs.{Program_means}
use Rattle.fut_blocks.specs.Meaning.{Component, Names, bound, Results, named, under, test_turn, act_means, body_means}
use Rattle.fut_blocks.specs.Numbered.{Upward, Act_numbered, Body_numbered}
use Rattle.array_data.specs.declared.stop.Stop.{Stop}
use Rattle.array_data.specs.declared.stop.Stop.TheVariants.{Failed, Memory}
use Rattle.array_data.specs.Held.{rows_in}
use Rattle.fut_eval.specs.Answers.{Answer, Fit, Stands, Kept, Runs}

unfoldable pub Act_runs : ℕ → Action → (table table' stack stack' : List Component) → Answer → Type 0
Act_runs budget a table table' stack stack' r =
    (env : Names Component) (next last : ℕ) → Stands env next table → Act_numbered next a last → last ≤ length table → Runs (act_means true budget a env) next table table' stack stack' r

-- an act that binds no names inside
unfoldable pub Made_runs : Action → (table stack stack' : List Component) → Answer → Type 0
Made_runs a table stack stack' r = (budget : ℕ) (env : Names Component) (next : ℕ) → Stands env next table → Runs (act_means true budget a env) next table table stack stack' r

-- a test of sizes, which leaves all as it is
unfoldable pub Coerces : (table : List Component) → Place → Size_test → Row → Answer → Type 0
Coerces table at w row r = (stack : List Component) → Made_runs (Coerce at w row) table stack stack r

unfoldable pub Body_runs : ℕ → Body → (table table' stack stack' : List Component) → Answer → Type 0
Body_runs budget b table table' stack stack' r =
    (env : Names Component) (next last : ℕ) → Stands env next table → Body_numbered next b last → last ≤ length table → Runs (body_means true budget b env) next table table' stack stack' r

-- a step, with the names that stand then
abbrev pub step_means : ℕ → List ℕ × Action → Names Component → Rel (Names Component)
step_means budget s env = Then (act_means true budget s.1 env) (λ vs. named s.0 vs env)

pub data Stepped (m : Rel (Names Component)) (next last : ℕ) (table table' stack stack' : List Component) : Answer → Type 0 where
  stepped : (e : Names Component) (f : ℕ) → Stands e last table' → Kept next table table' → stack' ≡ stack → m (Val e) f → Stepped m next last table table' stack stack' (Ok tt)
  step_failed : {r : Report} (f : ℕ) → m (Fail r) f → Stepped m next last table table' stack stack' (Err (Failed r))
  no_memory_stepped : Stepped m next last table table' stack stack' (Err Memory)
  step_gone : {r : Answer} (f : ℕ) → m Wrong f → Stepped m next last table table' stack stack' r

unfoldable pub Step_runs : ℕ → List ℕ × Action → (table table' stack stack' : List Component) → Answer → Type 0
Step_runs budget s table table' stack stack' r =
    (env : Names Component) (next mid last : ℕ) → Stands env next table → Act_numbered next s.1 mid → Upward mid s.0 last → last ≤ length table → Stepped (step_means budget s env) next last table table' stack stack' r

-- a turn of a loop over indices or rows
abbrev pub turn_means : ℕ → Body → List ℕ → ℕ → Names Component → Component → List Component → Results
turn_means budget b xs i env d vs = under xs vs env (λ e. body_means true budget b ((i, d) ∷ e))

unfoldable pub Turn_runs : ℕ → Body → List ℕ → ℕ → Component → ℕ → (table table' stack stack' : List Component) → Answer → Type 0
Turn_runs budget b xs i d mark table table' stack stack' r =
    (env : Names Component) (next mid last : ℕ) (below : List Component) (vs : List Component)
    → Stands env next table → Upward next xs mid → mid ≤ i → Body_numbered (suc i) b last → last ≤ length table
    → stack ≡ below ++ vs → length below ≡ mark → Fit vs
    → Runs (turn_means budget b xs i env d vs) next table table' below stack' r

-- a turn for a row
abbrev pub row_turn : ℕ → Body → List ℕ → ℕ → Names Component → Component → List Component → Results
row_turn budget b xs i env d vs = turn_means budget b xs i env d vs

-- the turns of a loop over rows
unfoldable pub Over_runs : ℕ → Body → List ℕ → ℕ → Component → ℕ → (table table' stack stack' : List Component) → Answer → Type 0
Over_runs budget b xs i d mark table table' stack stack' r =
    (env : Names Component) (next mid last : ℕ) (below : List Component) (vs : List Component)
    → Stands env next table → Upward next xs mid → mid ≤ i → Body_numbered (suc i) b last → last ≤ length table
    → stack ≡ below ++ vs → length below ≡ mark → Fit vs
    → Runs (turns (row_turn budget b xs i env) (rows_in d) vs) next table table' below stack' r

-- a turn for an index
abbrev pub index_turn : ℕ → Body → List ℕ → ℕ → IntType → Names Component → ℕ → List Component → Results
index_turn budget b xs i t env j vs = turn_means budget b xs i env (Scalar_datum (scalar.Int t j)) vs

-- the turns of a counted loop, on the values that lie on the stack from the mark on
unfoldable pub For_runs : ℕ → Body → List ℕ → ℕ → IntType → ℕ → ℕ → (table table' stack stack' : List Component) → Answer → Type 0
For_runs budget b xs i t count mark table table' stack stack' r =
    (env : Names Component) (next mid last : ℕ) (below : List Component) (vs : List Component)
    → Stands env next table → Upward next xs mid → mid ≤ i → Body_numbered (suc i) b last → last ≤ length table
    → stack ≡ below ++ vs → length below ≡ mark → Fit vs → count < 2 ^ width_of t
    → Runs (turns (index_turn budget b xs i t env) (counts count 0) vs) next table table' below stack' r

-- one test of a loop, which leaves the values on the stack
pub data Tested (m : Rel Bool) (env : Names Component) (next mid : ℕ) (xs : List ℕ) (vs : List Component) (table table' stack stack' : List Component) : Result Bool Stop → Type 0 where
  tested : {b : Bool} (e : Names Component) (f : ℕ) → bound xs vs env ≡ Some e → Stands e mid table' → Kept next table table' → stack' ≡ stack → m (Val b) f → Tested m env next mid xs vs table table' stack stack' (Ok b)
  test_failed : {r : Report} (f : ℕ) → m (Fail r) f → Tested m env next mid xs vs table table' stack stack' (Err (Failed r))
  no_memory_tested : Tested m env next mid xs vs table table' stack stack' (Err Memory)
  test_gone : {r : Result Bool Stop} (f : ℕ) → m Wrong f → Tested m env next mid xs vs table table' stack stack' r

unfoldable pub Test_runs : ℕ → Body → List ℕ → ℕ → (table table' stack stack' : List Component) → Result Bool Stop → Type 0
Test_runs budget t xs mark table table' stack stack' r =
    (env : Names Component) (next mid last : ℕ) (below : List Component) (vs : List Component)
    → Stands env next table → Upward next xs mid → Body_numbered mid t last → last ≤ length table
    → stack ≡ below ++ vs → length below ≡ mark → Fit vs
    → Tested (test_turn (body_means true budget t) xs env vs) env next mid xs vs table table' stack stack' r

unfoldable pub While_runs : ℕ → Body → Body → List ℕ → Place → ℕ → (table table' stack stack' : List Component) → Answer → Type 0
While_runs budget t b xs at mark table table' stack stack' r =
    (env : Names Component) (next mid mid' last : ℕ) (below : List Component) (vs : List Component)
    → Stands env next table → Upward next xs mid → Body_numbered mid t mid' → Body_numbered mid' b last → last ≤ length table
    → stack ≡ below ++ vs → length below ≡ mark → Fit vs
    → Runs (while_turns budget (report kind.Turns at) (test_turn (body_means true budget t) xs env) (λ ws. under xs ws env (body_means true budget b)) vs) next table table' below stack' r

unfoldable pub Program_runs : ℕ → Program → List Component → (table table' stack stack' : List Component) → Answer → Type 0
Program_runs budget p args table table' stack stack' r =
    (first : ℕ) → Upward 0 p.params.now first → Body_numbered first (body_of p.body) p.names → p.names ≤ length table → Fit args → Runs (Program_means true budget p args) 0 table table' stack stack' r
