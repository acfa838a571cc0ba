-- Whether sized types and types are those of functions.
use Rattle.std.proofs.Common.{◌≡◌, ℕ, List, Bool, true, false, refl, sym, ap, ◌∙◌}
use Rattle.std.specs.Borrow.{Bor}
use Rattle.fut_types.specs.Types.{Tys, Made}
use Rattle.fut_types.specs.declared.Head.{Head}
use Rattle.fut_types.specs.declared.Head.TheVariants as head
use Rattle.sized_types.specs.Sizes.{Hole, Open, Level, Built, Fun}
use Rattle.fut_sizes.specs.Applications.{is_arrow, is_function, is_function_type}
use Rattle.size_arena.specs.declared.dims.Dim.{Dim}
use Rattle.size_arena.specs.declared.dims.Variable.{Variable}
use Rattle.size_arena.specs.declared.trees.SizeTree.{SizeTree}
use Rattle.size_arena.specs.declared.trees.SizeTree.TheVariants as form
use Rattle.size_arena.specs.declared.types.TypeTree.{TypeTree}
use Rattle.size_arena.specs.declared.types.TypeTree.TheVariants as type
use Rattle.size_arena.specs.Trees.{dim_of, variable_of, size_of, sizes_of, type_of}
use Rattle.size_arena.proofs.Forms.{type_var, type_made, size_hole, size_open, size_level, size_built, size_fun}

-- ---- types

pub variable_type : (t : TypeTree) (v : ℕ) → t ≡ type.Var v → false ≡ is_function_type (type_of t)
variable_type t v is = sym (ap (λ z. is_function_type (type_of z)) is ∙ ap is_function_type (type_var v))

pub made_function : (t : TypeTree) (height : ℕ) (h : Head) (ts : Bor (List TypeTree)) → t ≡ type.Made height h ts → h ≡ head.Fun → true ≡ is_function_type (type_of t)
made_function t height h ts is f = sym (ap (λ z. is_function_type (type_of z)) is ∙ ap is_function_type (type_made height h ts) ∙ two h f _)
  where
    two : (h : Head) → h ≡ head.Fun → (us : Tys) → is_function_type (Made h us) ≡ true
    two h f us = ap (λ z. is_function_type (Made z us)) f

no_function : (h : Head) (us : Tys) → (h ≡ head.Fun → ⊥) → is_function_type (Made h us) ≡ false
no_function head.Fun us other = elim (other refl) [ ]
no_function h us other = refl

pub made_other : (t : TypeTree) (height : ℕ) (h : Head) (ts : Bor (List TypeTree)) → t ≡ type.Made height h ts → (h ≡ head.Fun → ⊥) → false ≡ is_function_type (type_of t)
made_other t height h ts is other = sym (ap (λ z. is_function_type (type_of z)) is ∙ ap is_function_type (type_made height h ts) ∙ no_function h _ other)

pub ruleset types = (variable_type, made_function, made_other)

-- ---- sized types

module _ (t : SizeTree) where
  pub hole_at : (v : Variable) → t ≡ form.Hole v → size_of t ≡ Hole (variable_of v)
  hole_at v is = ap size_of is ∙ size_hole v

  pub open_at : (n : ℕ) (v : Variable) (u : Bor TypeTree) → t ≡ form.Open n v u → size_of t ≡ Open n (variable_of v) (type_of u.now)
  open_at n v u is = ap size_of is ∙ size_open n v u

  pub level_at : (height : ℕ) (d : Dim) (r : Bor SizeTree) → t ≡ form.Level height d r → size_of t ≡ Level (dim_of d) (size_of r.now)
  level_at height d r is = ap size_of is ∙ size_level height d r

  pub built_at : (height : ℕ) (h : Head) (ts : Bor (List SizeTree)) → t ≡ form.Built height h ts → size_of t ≡ Built h (sizes_of ts.now)
  built_at height h ts is = ap size_of is ∙ size_built height h ts

  pub fun_at : (height k : ℕ) (p r : Bor SizeTree) → t ≡ form.Fun height k p r → size_of t ≡ Fun k (size_of p.now) (size_of r.now)
  fun_at height k p r is = ap size_of is ∙ size_fun height k p r

  pub hole_function : (v : Variable) → t ≡ form.Hole v → false ≡ is_function (size_of t)
  hole_function v is = sym (ap is_function (hole_at v is))

  pub open_function : (n : ℕ) (v : Variable) (u : Bor TypeTree) (b : Bool) → t ≡ form.Open n v u → b ≡ is_function_type (type_of u.now) → b ≡ is_function (size_of t)
  open_function n v u b is h = h ∙ sym (ap is_function (open_at n v u is))

  pub level_function : (height : ℕ) (d : Dim) (r : Bor SizeTree) → t ≡ form.Level height d r → false ≡ is_function (size_of t)
  level_function height d r is = sym (ap is_function (level_at height d r is))

  pub built_function : (height : ℕ) (h : Head) (ts : Bor (List SizeTree)) → t ≡ form.Built height h ts → false ≡ is_function (size_of t)
  built_function height h ts is = sym (ap is_function (built_at height h ts is))

  pub fun_function : (height k : ℕ) (p r : Bor SizeTree) → t ≡ form.Fun height k p r → true ≡ is_function (size_of t)
  fun_function height k p r is = sym (ap is_function (fun_at height k p r is))

  pub hole_arrow : (v : Variable) → t ≡ form.Hole v → false ≡ is_arrow (size_of t)
  hole_arrow v is = sym (ap is_arrow (hole_at v is))

  pub open_arrow : (n : ℕ) (v : Variable) (u : Bor TypeTree) → t ≡ form.Open n v u → false ≡ is_arrow (size_of t)
  open_arrow n v u is = sym (ap is_arrow (open_at n v u is))

  pub level_arrow : (height : ℕ) (d : Dim) (r : Bor SizeTree) → t ≡ form.Level height d r → false ≡ is_arrow (size_of t)
  level_arrow height d r is = sym (ap is_arrow (level_at height d r is))

  pub built_arrow : (height : ℕ) (h : Head) (ts : Bor (List SizeTree)) → t ≡ form.Built height h ts → false ≡ is_arrow (size_of t)
  built_arrow height h ts is = sym (ap is_arrow (built_at height h ts is))

  pub fun_arrow : (height k : ℕ) (p r : Bor SizeTree) → t ≡ form.Fun height k p r → true ≡ is_arrow (size_of t)
  fun_arrow height k p r is = sym (ap is_arrow (fun_at height k p r is))

pub ruleset sizes = (hole_function, open_function, level_function, built_function, fun_function)

pub ruleset arrows = (hole_arrow, open_arrow, level_arrow, built_arrow, fun_arrow)
