-- The module type that a held module type stands for.
use Rattle.std.specs.Prelude.{ℕ, List, map}
use Rattle.fut_ast.specs.declared.node.Label.{Label as PlainLabel}
use Rattle.fut_ast.specs.declared.module.ModType.{ModType as PlainModType, roll-ModType, size-ModType}
use Rattle.fut_ast.specs.declared.module.ModTypeForm.{ModTypeForm as PlainForm}
use Rattle.fut_ast.specs.declared.module.ModTypeForm.TheVariants as form
use Rattle.fut_ast.specs.declared.module.Spec.{Spec as PlainSpec, roll-Spec}
use Rattle.fut_ast.specs.declared.module.SpecForm.{SpecForm as PlainSpecForm}
use Rattle.fut_ast.specs.declared.module.SpecForm.TheVariants as spec
use Rattle.fut_ast.specs.declared.module.Param.{Param as PlainParam}
use Rattle.fut_ast.specs.declared.module.With.{With as PlainWith}
use Rattle.fut_tree.specs.declared.module.Label.{Label}
use Rattle.fut_tree.specs.declared.module.ModType.TheInside.{Inside}
use Rattle.fut_tree.specs.declared.module.ModTypeForm.{ModTypeForm}
use Rattle.fut_tree.specs.declared.module.ModTypeForm.TheVariants as held_form
use Rattle.fut_tree.specs.declared.module.Spec.{Spec}
use Rattle.fut_tree.specs.declared.module.SpecForm.{SpecForm}
use Rattle.fut_tree.specs.declared.module.SpecForm.TheVariants as held_spec
use Rattle.fut_tree.specs.declared.module.Param.{Param}
use Rattle.fut_tree.specs.declared.module.With.{With}
use Rattle.fut_tree.specs.Names.{names, maybe}
use Rattle.fut_tree.specs.Pats.{heads_of}

abbrev pub label_of : Label → PlainLabel
label_of x = record { name = x.name.now; place = x.place }

abbrev pub with_of : With → PlainWith
with_of w = record { place = w.place; path = names w.path.now; ty = w.ty.now }

abbrev pub withs_of : List With → List PlainWith
withs_of = map with_of

abbrev pub spec_form_of : SpecForm → PlainSpecForm
spec_form_of (held_spec.Value x heads t) = spec.Value (label_of x) (heads_of heads.now) t.now
spec_form_of (held_spec.TypeName x t) = spec.TypeName (label_of x) (maybe t)
spec_form_of (held_spec.Module x t) = spec.Module (label_of x) t.now
spec_form_of (held_spec.Include t) = spec.Include t.now

abbrev pub spec_of : Spec → PlainSpec
spec_of s = roll-Spec (record { place = s.place; form = spec_form_of s.form })

abbrev pub specs_of : List Spec → List PlainSpec
specs_of = map spec_of

abbrev pub mtype_form_of : ModTypeForm → PlainForm
mtype_form_of (held_form.Path p) = form.Path (names p.now)
mtype_form_of (held_form.Specs ss) = form.Specs (specs_of ss.now)
mtype_form_of (held_form.With t ws) = form.With t.now (withs_of ws.now)
mtype_form_of (held_form.Arrow x t u) = form.Arrow (label_of x) t.now u.now

abbrev pub mtype_of : Inside → PlainModType
mtype_of t = roll-ModType (record { place = t.place; form = mtype_form_of t.form })

abbrev pub mtype_size : PlainModType → ℕ
mtype_size = size-ModType

abbrev pub param_of : Param → PlainParam
param_of p = record { label = label_of p.label; bound = p.bound.now }

abbrev pub params_of : List Param → List PlainParam
params_of = map param_of
