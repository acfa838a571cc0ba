-- How many levels in all, also inside of functions.
use Rattle.std.proofs.Common.{◌≡◌, ℕ, ◌+◌, ◌<◌, ◌≤◌, List, length, get_or, drop, ap, arith, Result, Ok, Err}
use Rattle.std.specs.Prelude.{IfOk}
use Rattle.std.specs.Borrow.{Bor}
use Rattle.fut_scalar.specs.declared.memory.NoMemory.{NoMemory}
use Rattle.fut_types.specs.declared.Head.{Head}
use Rattle.fut_sizes.specs.Levels.{levels_within, all_levels_within}
use Rattle.size_arena.specs.declared.dims.Dim as dims
use Rattle.size_arena.specs.declared.dims.Variable as variables
use Rattle.size_arena.specs.declared.trees.SizeTree.{SizeTree}
use Rattle.size_arena.specs.declared.trees.SizeTree.TheVariants as form
use Rattle.size_arena.specs.declared.types.TypeTree.{TypeTree}
use Rattle.size_arena.specs.Trees.{size_of, sizes_of}
use Rattle.size_arena.proofs.Forms.{size_hole, size_open, size_level, size_built, size_fun}
use Rattle.size_arena.proofs.Parts.{parts_at, parts_end}

module _ (t : SizeTree) (f : ℕ) where
  pub within_hole : (v : variables.Variable) → t ≡ form.Hole v → f ≡ f + levels_within (size_of t)
  unfolding levels_within
  within_hole v is = rw (is, size_hole) (omega arith)

  pub within_open : (n : ℕ) (v : variables.Variable) (u : Bor TypeTree) → t ≡ form.Open n v u → f ≡ f + levels_within (size_of t)
  unfolding levels_within
  within_open n v u is = rw (is, size_open) (omega arith)

  pub within_fun : (height k g : ℕ) (p r : Bor SizeTree) (o : Result ℕ NoMemory) → t ≡ form.Fun height k p r → g ≡ f + levels_within (size_of p.now) → IfOk o (λ next. next ≡ g + levels_within (size_of r.now)) → IfOk o (λ next. next ≡ f + levels_within (size_of t))
  unfolding levels_within
  within_fun height k g p r (Ok n) is e h = rw (is, size_fun) (omega (arith, e, h))
  within_fun height k g p r (Err x) is e h = tt

  pub within_level : (height g : ℕ) (d : dims.Dim) (r : Bor SizeTree) (o : Result ℕ NoMemory) → t ≡ form.Level height d r → g ≡ f + 1 → IfOk o (λ next. next ≡ g + levels_within (size_of r.now)) → IfOk o (λ next. next ≡ f + levels_within (size_of t))
  unfolding levels_within
  within_level height g d r (Ok n) is e h = rw (is, size_level) (omega (arith, e, h))
  within_level height g d r (Err x) is e h = tt

  pub within_built : (height : ℕ) (h : Head) (ts : Bor (List SizeTree)) (o : Result ℕ NoMemory) → t ≡ form.Built height h ts → IfOk o (λ next. next ≡ f + all_levels_within (sizes_of ts.now)) → IfOk o (λ next. next ≡ f + levels_within (size_of t))
  unfolding levels_within all_levels_within
  within_built height h ts (Ok n) is e = rw (is, size_built) e
  within_built height h ts (Err x) is e = tt

module _ (ts : List SizeTree) (i f n : ℕ) where
  pub within_more : (t : SizeTree) (m : ℕ) → i < length ts → n + all_levels_within (sizes_of (drop i ts)) ≡ f → m ≡ n + levels_within (size_of (get_or ts i t)) → m + all_levels_within (sizes_of (drop (i + 1) ts)) ≡ f
  unfolding levels_within all_levels_within
  within_more t m l h e = let k : all_levels_within (sizes_of (drop i ts)) ≡ levels_within (size_of (get_or ts i t)) + all_levels_within (sizes_of (drop (i + 1) ts)) = ap all_levels_within (parts_at ts i t l) in omega (arith, h, e, k)

  pub within_end : length ts ≤ i → n + all_levels_within (sizes_of (drop i ts)) ≡ f → n ≡ f
  unfolding levels_within all_levels_within
  within_end l h = let k : all_levels_within (sizes_of (drop i ts)) ≡ 0 = ap all_levels_within (parts_end ts i l) in omega (arith, h, k)
