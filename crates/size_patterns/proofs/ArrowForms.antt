-- The function type that is wanted.
use Rattle.std.proofs.Common.{◌≡◌, ℕ, Option, Some, None, ap, ◌∙◌}
use Rattle.std.specs.Borrow.{Bor}
use Rattle.fut_types.specs.declared.Head.{Head}
use Rattle.std.specs.Prelude.{List}
use Rattle.size_arena.specs.declared.dims.Dim.{Dim}
use Rattle.size_arena.specs.declared.dims.Variable.{Variable}
use Rattle.size_arena.specs.declared.trees.SizeTree.{SizeTree}
use Rattle.size_arena.specs.declared.trees.SizeTree.TheVariants as form
use Rattle.size_arena.specs.declared.types.TypeTree.{TypeTree}
use Rattle.size_arena.specs.Trees.{size_of}
use Rattle.size_arena.proofs.Forms.{size_hole, size_open, size_level, size_built, size_fun}
use Rattle.size_written.specs.Answers.{held}
use Rattle.size_patterns.specs.declared.entering.Arrow.{Arrow}
use Rattle.size_patterns.specs.Arrows.{Is_arrow, an_arrow, no_arrow, wants_function}

module _ (w : Option (Bor SizeTree)) where
  pub nothing_arrow : w ≡ None → Is_arrow (held w) None
  nothing_arrow e = no_arrow (ap (λ z. wants_function (held z)) e)

  module _ (t : Bor SizeTree) (e : w ≡ Some t) where
    pub fun_arrow : (height : ℕ) (a : Arrow) → t.now ≡ form.Fun height a.chosen a.from a.to → Is_arrow (held w) (Some a)
    fun_arrow height a is = an_arrow (ap held e ∙ ap Some (ap size_of is ∙ size_fun height a.chosen a.from a.to))

    pub hole_arrow : (v : Variable) → t.now ≡ form.Hole v → Is_arrow (held w) None
    hole_arrow v is = no_arrow (ap (λ z. wants_function (held z)) e ∙ ap (λ z. wants_function (Some z)) (ap size_of is ∙ size_hole v))

    pub open_arrow : (n : ℕ) (v : Variable) (u : Bor TypeTree) → t.now ≡ form.Open n v u → Is_arrow (held w) None
    open_arrow n v u is = no_arrow (ap (λ z. wants_function (held z)) e ∙ ap (λ z. wants_function (Some z)) (ap size_of is ∙ size_open n v u))

    pub level_arrow : (height : ℕ) (d : Dim) (u : Bor SizeTree) → t.now ≡ form.Level height d u → Is_arrow (held w) None
    level_arrow height d u is = no_arrow (ap (λ z. wants_function (held z)) e ∙ ap (λ z. wants_function (Some z)) (ap size_of is ∙ size_level height d u))

    pub built_arrow : (height : ℕ) (h : Head) (ts : Bor (List SizeTree)) → t.now ≡ form.Built height h ts → Is_arrow (held w) None
    built_arrow height h ts is = no_arrow (ap (λ z. wants_function (held z)) e ∙ ap (λ z. wants_function (Some z)) (ap size_of is ∙ size_built height h ts))

pub ruleset arrows = (nothing_arrow, fun_arrow, hole_arrow, open_arrow, level_arrow, built_arrow)
