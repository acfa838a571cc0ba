-- The sized types of trees, one level at a time.
use Rattle.std.proofs.Common.{◌≡◌, ℕ, List, sym, ap, ◌∙◌}
use Rattle.std.specs.Borrow.{Bor}
use Rattle.fut_types.specs.declared.Head.{Head}
use Rattle.fut_types.specs.Types.{Var, Made}
use Rattle.sized_types.specs.Sizes.{Hole, Open, Level, Built, Fun}
use Rattle.size_arena.specs.declared.dims.Dim.{Dim}
use Rattle.size_arena.specs.declared.dims.Variable.{Variable}
use Rattle.size_arena.specs.declared.trees.SizeTree.{SizeTree, fold-roll-SizeTree}
use Rattle.size_arena.specs.declared.trees.SizeTree.TheOpen as layer
use Rattle.size_arena.specs.declared.trees.SizeTree.TheVariants as form
use Rattle.size_arena.specs.declared.types.TypeTree.{TypeTree, fold-roll-TypeTree}
use Rattle.size_arena.specs.declared.types.TypeTree.TheOpen as type_layer
use Rattle.size_arena.specs.declared.types.TypeTree.TheVariants as type
use Rattle.size_arena.specs.Trees.{dim_of, variable_of, type_form, type_of, tys_of, size_form, size_of, sizes_of}

pub type_var : (v : ℕ) → type_of (type.Var v) ≡ Var v
unfolding type_of type_form
type_var v = ap type_of (sym (type.rolls-Var v)) ∙ fold-roll-TypeTree _ type_form (type_layer.Var v)

pub type_made : (height : ℕ) (h : Head) (ts : Bor (List TypeTree)) → type_of (type.Made height h ts) ≡ Made h (tys_of ts.now)
unfolding type_of type_form tys_of
type_made height h ts = ap type_of (sym (type.rolls-Made height h ts)) ∙ fold-roll-TypeTree _ type_form (type_layer.Made height h ts)

pub size_hole : (v : Variable) → size_of (form.Hole v) ≡ Hole (variable_of v)
unfolding size_of size_form
size_hole v = ap size_of (sym (form.rolls-Hole v)) ∙ fold-roll-SizeTree _ size_form (layer.Hole v)

pub size_open : (n : ℕ) (v : Variable) (u : Bor TypeTree) → size_of (form.Open n v u) ≡ Open n (variable_of v) (type_of u.now)
unfolding size_of size_form
size_open n v u = ap size_of (sym (form.rolls-Open n v u)) ∙ fold-roll-SizeTree _ size_form (layer.Open n v u)

pub size_level : (height : ℕ) (d : Dim) (t : Bor SizeTree) → size_of (form.Level height d t) ≡ Level (dim_of d) (size_of t.now)
unfolding size_of size_form
size_level height d t = ap size_of (sym (form.rolls-Level height d t)) ∙ fold-roll-SizeTree _ size_form (layer.Level height d t)

pub size_built : (height : ℕ) (h : Head) (ts : Bor (List SizeTree)) → size_of (form.Built height h ts) ≡ Built h (sizes_of ts.now)
unfolding size_of size_form sizes_of
size_built height h ts = ap size_of (sym (form.rolls-Built height h ts)) ∙ fold-roll-SizeTree _ size_form (layer.Built height h ts)

pub size_fun : (height k : ℕ) (p r : Bor SizeTree) → size_of (form.Fun height k p r) ≡ Fun k (size_of p.now) (size_of r.now)
unfolding size_of size_form
size_fun height k p r = ap size_of (sym (form.rolls-Fun height k p r)) ∙ fold-roll-SizeTree _ size_form (layer.Fun height k p r)

pub ruleset forms = (size_hole, size_open, size_level, size_built, size_fun)
