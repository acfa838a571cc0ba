-- How many levels.
use Rattle.std.proofs.Common.{◌≡◌, ℕ, ◌+◌, ◌<◌, ◌≤◌, List, length, get_or, drop, ap, arith, Result, Ok, Err}
use Rattle.std.specs.Prelude.{IfOk}
use Rattle.std.specs.Borrow.{Bor}
use Rattle.fut_scalar.specs.declared.memory.NoMemory.{NoMemory}
use Rattle.fut_types.specs.declared.Head.{Head}
use Rattle.sized_types.specs.Sizes.{levels, all_levels}
use Rattle.size_arena.specs.declared.dims.Dim as dims
use Rattle.size_arena.specs.declared.dims.Variable as variables
use Rattle.size_arena.specs.declared.trees.SizeTree.{SizeTree}
use Rattle.size_arena.specs.declared.trees.SizeTree.TheVariants as form
use Rattle.size_arena.specs.declared.types.TypeTree.{TypeTree}
use Rattle.size_arena.specs.Trees.{size_of, sizes_of}
use Rattle.size_arena.proofs.Forms.{size_hole, size_open, size_level, size_built, size_fun}
use Rattle.size_arena.proofs.Parts.{parts_at, parts_end}

module _ (t : SizeTree) (f : ℕ) where
  pub past_hole : (v : variables.Variable) → t ≡ form.Hole v → f ≡ f + levels (size_of t)
  unfolding levels
  past_hole v is = rw (is, size_hole) (omega arith)

  pub past_open : (n : ℕ) (v : variables.Variable) (u : Bor TypeTree) → t ≡ form.Open n v u → f ≡ f + levels (size_of t)
  unfolding levels
  past_open n v u is = rw (is, size_open) (omega arith)

  pub past_fun : (height k : ℕ) (p r : Bor SizeTree) → t ≡ form.Fun height k p r → f ≡ f + levels (size_of t)
  unfolding levels
  past_fun height k p r is = rw (is, size_fun) (omega arith)

  pub past_level : (height g : ℕ) (d : dims.Dim) (r : Bor SizeTree) (o : Result ℕ NoMemory) → t ≡ form.Level height d r → g ≡ f + 1 → IfOk o (λ next. next ≡ g + levels (size_of r.now)) → IfOk o (λ next. next ≡ f + levels (size_of t))
  unfolding levels
  past_level height g d r (Ok n) is e h = rw (is, size_level) (omega (arith, e, h))
  past_level height g d r (Err x) is e h = tt

  pub past_built : (height : ℕ) (h : Head) (ts : Bor (List SizeTree)) (o : Result ℕ NoMemory) → t ≡ form.Built height h ts → IfOk o (λ next. next ≡ f + all_levels (sizes_of ts.now)) → IfOk o (λ next. next ≡ f + levels (size_of t))
  unfolding levels all_levels
  past_built height h ts (Ok n) is e = rw (is, size_built) e
  past_built height h ts (Err x) is e = tt

module _ (ts : List SizeTree) (i f n : ℕ) where
  pub past_more : (t : SizeTree) (m : ℕ) → i < length ts → n + all_levels (sizes_of (drop i ts)) ≡ f → m ≡ n + levels (size_of (get_or ts i t)) → m + all_levels (sizes_of (drop (i + 1) ts)) ≡ f
  unfolding levels all_levels
  past_more t m l h e = let k : all_levels (sizes_of (drop i ts)) ≡ levels (size_of (get_or ts i t)) + all_levels (sizes_of (drop (i + 1) ts)) = ap all_levels (parts_at ts i t l) in omega (arith, h, e, k)

  pub past_end : length ts ≤ i → n + all_levels (sizes_of (drop i ts)) ≡ f → n ≡ f
  unfolding levels all_levels
  past_end l h = let k : all_levels (sizes_of (drop i ts)) ≡ 0 = ap all_levels (parts_end ts i l) in omega (arith, h, k)
