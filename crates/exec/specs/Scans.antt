-- What the parts of a step that reduces each prefix of rows answer, whatever names stand.
use Rattle.std.specs.Prelude.{◌≡◌, ℕ, suc, List, [], ◌++◌, drop, length, map, take, true, false}
use Rattle.fut_meaning.specs.Jobs.{all_of}
use Rattle.fut_meaning.specs.Outcomes.{Val, Rel, turns}
use Rattle.core_ir.specs.declared.block.Var.{Var}
use Rattle.core_ir.specs.Bundles.{Row}
use Rattle.core_ir.specs.Lists.{prefixes_on}
use Rattle.core_ir.specs.Meaning.{Env, Reduction, function_means}
use Rattle.core_ir.specs.Plain.{Body, Bundle, Of_two}
use Rattle.core_ir.specs.Typed.{Sorts, sort_of}
use Rattle.core_code.specs.Registers.{State, AllShow}
use Rattle.core_code.specs.Answers.{Answer}
use Rattle.exec.specs.Folds.{Folding, row_turn}
use Rattle.exec.specs.Maps.{EachRan}

-- the reductions of prefixes in order
abbrev pub reductions : ℕ → Body → List Var → List Var → Env → Row → List Row → List Row → Rel (List Row)
reductions budget b xs ys env ne some rows = all_of (Reduction true false (function_means true false budget (Of_two xs ys b) env) ne) (prefixes_on some rows)

-- what is known where some rows are reduced: the words of what they come to lie above others
pub record Reduced_so (budget : ℕ) (b : Body) (xs ys : List Var) (env : Env) (ne : Row) (some : List Row) (S : State) : Type 0 where
  pub row : Row
  pub count : ℕ
  pub given : turns (row_turn budget b xs ys env) some ne (Val row) count
  pub below : List ℕ
  pub ws : List ℕ
  pub stack : S.stack ≡ below ++ ws
  pub shown : AllShow S.arena.arrays (map sort_of xs) row ws

-- further rows are reduced, each with all in front of it
unfoldable pub Prefixes_run : ℕ → Body → List Var → List Var → Bundle → ℕ → State → State → Answer → Type 0
Prefixes_run budget b xs ys r count S S' a =
    (G : Sorts) (env : Env) (next : ℕ) (ne : Row) (rows : List Row) → Folding G env xs ys r b next rows S → length rows ≡ count → Reduced_so budget b xs ys env ne (take 1 rows) S
    → EachRan (reductions budget b xs ys env ne (take 1 rows) (drop 1 rows)) (map sort_of xs) (length (drop 1 rows)) next S S' a
