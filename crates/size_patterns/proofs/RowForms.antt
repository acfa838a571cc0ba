-- The parts of a sized type that is made of parts.
use Rattle.std.proofs.Common.{◌≡◌, ℕ, None, Some, ap, ◌∙◌}
use Rattle.std.specs.Borrow.{Bor}
use Rattle.size_arena.specs.declared.dims.Dim.{Dim}
use Rattle.size_arena.specs.declared.dims.Variable.{Variable}
use Rattle.size_arena.specs.declared.trees.SizeTree.{SizeTree}
use Rattle.size_arena.specs.declared.trees.SizeTree.TheVariants as form
use Rattle.size_arena.specs.declared.types.TypeTree.{TypeTree}
use Rattle.size_arena.specs.Trees.{size_of}
use Rattle.size_arena.proofs.Forms.{size_hole, size_open, size_level, size_built, size_fun}
use Rattle.size_patterns.specs.declared.rows.Row.{Row}
use Rattle.size_patterns.specs.Rows.{is_row, Is_row, a_row, no_row}

module _ (t : SizeTree) where
  pub built_row : (height : ℕ) (r : Row) → t ≡ form.Built height r.head r.parts → Is_row (size_of t) (Some r)
  built_row height r is = a_row (ap size_of is ∙ size_built height r.head r.parts)

  pub hole_row : (v : Variable) → t ≡ form.Hole v → Is_row (size_of t) None
  hole_row v is = no_row (ap is_row (ap size_of is ∙ size_hole v))

  pub open_row : (n : ℕ) (v : Variable) (u : Bor TypeTree) → t ≡ form.Open n v u → Is_row (size_of t) None
  open_row n v u is = no_row (ap is_row (ap size_of is ∙ size_open n v u))

  pub level_row : (height : ℕ) (d : Dim) (u : Bor SizeTree) → t ≡ form.Level height d u → Is_row (size_of t) None
  level_row height d u is = no_row (ap is_row (ap size_of is ∙ size_level height d u))

  pub fun_row : (height k : ℕ) (p r : Bor SizeTree) → t ≡ form.Fun height k p r → Is_row (size_of t) None
  fun_row height k p r is = no_row (ap is_row (ap size_of is ∙ size_fun height k p r))

pub ruleset rows = (built_row, hole_row, open_row, level_row, fun_row)
