-- The parts of a held module type are smaller than it.
use Rattle.std.specs.Prelude.{◌+◌, ◌≤◌, List, [], ◌∷◌}
use Rattle.std.proofs.Common.{arith}
use denote.Param.Weighed.{most}
use Rattle.fut_ast.specs.declared.module.ModTypeForm.TheViews.{size-ModTypeForm, size-Spec, size-SpecForm, size_roll-ModType, size_roll-Spec, sized-Specs, sized-With, sized-Arrow, sized-Module, sized-Include, weight-ModTypeForm-Specs-0}
use Rattle.fut_tree.specs.declared.module.ModType.TheInside.{Inside}
use Rattle.fut_tree.specs.declared.module.ModType.TheDeep.{deep-ModTypeForm, deep-Spec, deep-SpecForm, deep-ModType}
use Rattle.fut_tree.specs.declared.module.ModTypeForm.{ModTypeForm}
use Rattle.fut_tree.specs.declared.module.ModTypeForm.TheVariants as held_form
use Rattle.fut_tree.specs.declared.module.Spec.{Spec}
use Rattle.fut_tree.specs.declared.module.SpecForm.{SpecForm}
use Rattle.fut_tree.specs.declared.module.SpecForm.TheVariants as held_spec
use Rattle.fut_tree.specs.ModTypes.{label_of, withs_of, spec_form_of, spec_of, specs_of, mtype_form_of, mtype_of, mtype_size}

pub spec_form_falls : (f : SpecForm) → deep-SpecForm f ≤ size-SpecForm (spec_form_of f)
spec_form_falls (held_spec.Value x heads t) = omega arith
spec_form_falls (held_spec.TypeName x t) = omega arith
spec_form_falls (held_spec.Module x t) = omega (arith, sized-Module (label_of x) t.now)
spec_form_falls (held_spec.Include t) = omega (arith, sized-Include t.now)

pub spec_falls : (s : Spec) → deep-Spec s ≤ size-Spec (spec_of s)
spec_falls s = omega (arith, spec_form_falls s.form, size_roll-Spec (record { place = s.place; form = spec_form_of s.form }))

pub specs_fall : (xs : List Spec) → most deep-Spec xs ≤ weight-ModTypeForm-Specs-0 (specs_of xs) + 1
specs_fall [] = omega arith
specs_fall (x ∷ xs) = omega (arith, spec_falls x, specs_fall xs)

pub mtype_form_falls : (f : ModTypeForm) → deep-ModTypeForm f ≤ size-ModTypeForm (mtype_form_of f)
mtype_form_falls (held_form.Path p) = omega arith
mtype_form_falls (held_form.Specs ss) = omega (arith, sized-Specs (specs_of ss.now), specs_fall ss.now)
mtype_form_falls (held_form.With t ws) = omega (arith, sized-With t.now (withs_of ws.now))
mtype_form_falls (held_form.Arrow x t u) = omega (arith, sized-Arrow (label_of x) t.now u.now)

pub mtype_falls : (t : Inside) → deep-ModType t ≤ mtype_size (mtype_of t)
mtype_falls t = omega (arith, mtype_form_falls t.form, size_roll-ModType (record { place = t.place; form = mtype_form_of t.form }))
