-- The parts of a held module expression are smaller than it.
use Rattle.std.specs.Prelude.{◌+◌, ◌≤◌, List, [], ◌∷◌}
use Rattle.std.proofs.Common.{arith}
use Prim.Native.Nat.{max}
use denote.Param.Weighed.{most}
use Rattle.fut_ast.specs.declared.module.ModExp.{ModExp as PlainModExp}
use Rattle.fut_ast.specs.declared.module.DecForm.TheViews.{size-ModForm, size-Dec, size-DecForm, size_roll-ModExp, size_roll-Dec, sized-Decs, sized-Apply, sized-Lambda, sized-Seal, sized-Module, sized-Open, weight-ModForm-Decs-0, weight-ModForm-Apply-1}
use Rattle.fut_tree.specs.declared.held.Held.{Held}
use Rattle.fut_tree.specs.declared.module.ModExp.TheInside.{Inside}
use Rattle.fut_tree.specs.declared.module.ModExp.TheDeep.{deep-ModForm, deep-Dec, deep-DecForm, deep-ModExp}
use Rattle.fut_tree.specs.declared.module.ModForm.{ModForm}
use Rattle.fut_tree.specs.declared.module.ModForm.TheVariants as held_form
use Rattle.fut_tree.specs.declared.module.Dec.{Dec}
use Rattle.fut_tree.specs.declared.module.DecForm.{DecForm}
use Rattle.fut_tree.specs.declared.module.DecForm.TheVariants as held_dec
use Rattle.fut_tree.specs.Names.{all, maybe}
use Rattle.fut_tree.specs.ModTypes.{label_of, params_of}
use Rattle.fut_tree.specs.Mods.{dec_form_of, dec_of, decs_of, mod_form_of, mod_of, mod_size}

pub dec_form_falls : (f : DecForm) → deep-DecForm f ≤ size-DecForm (dec_form_of f)
dec_form_falls (held_dec.Def is_entry x heads ps t e) = omega arith
dec_form_falls (held_dec.TypeName x heads t) = omega arith
dec_form_falls (held_dec.Module x ps t m) = omega (arith, sized-Module (label_of x) (params_of ps.now) (maybe t) m.now)
dec_form_falls (held_dec.ModType x t) = omega arith
dec_form_falls (held_dec.Open m) = omega (arith, sized-Open m.now)
dec_form_falls (held_dec.Import file) = omega arith

pub dec_falls : (d : Dec) → deep-Dec d ≤ size-Dec (dec_of d)
dec_falls d = omega (arith, dec_form_falls d.form, size_roll-Dec (record { place = d.place; local = d.local; form = dec_form_of d.form }))

pub decs_fall : (xs : List Dec) → most deep-Dec xs ≤ weight-ModForm-Decs-0 (decs_of xs) + 1
decs_fall [] = omega arith
decs_fall (x ∷ xs) = omega (arith, dec_falls x, decs_fall xs)

pub mods_fall : (xs : List (Held PlainModExp)) → most (λ (x : Held PlainModExp). max (mod_size x.at.now + 1) 0) xs ≤ weight-ModForm-Apply-1 (all xs) + 1
mods_fall [] = omega arith
mods_fall (x ∷ xs) = omega (arith, mods_fall xs)

pub mod_form_falls : (f : ModForm) → deep-ModForm f ≤ size-ModForm (mod_form_of f)
mod_form_falls (held_form.Path p) = omega arith
mod_form_falls (held_form.Decs ds) = omega (arith, sized-Decs (decs_of ds.now), decs_fall ds.now)
mod_form_falls (held_form.Apply m ms) = omega (arith, sized-Apply m.now (all ms.now), mods_fall ms.now)
mod_form_falls (held_form.Import file) = omega arith
mod_form_falls (held_form.Lambda x t u m) = omega (arith, sized-Lambda (label_of x) t.now (maybe u) m.now)
mod_form_falls (held_form.Seal m t) = omega (arith, sized-Seal m.now t.now)

pub mod_falls : (m : Inside) → deep-ModExp m ≤ mod_size (mod_of m)
mod_falls m = omega (arith, mod_form_falls m.form, size_roll-ModExp (record { place = m.place; form = mod_form_of m.form }))
