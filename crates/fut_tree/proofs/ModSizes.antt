-- A list of parts is smaller than the module or the module type that holds it, as walks measure both.
use Rattle.std.proofs.Common.{◌≡◌, ℕ, ◌+◌, ◌*◌, ◌≤◌, ◌<◌, List, [], ◌∷◌, subst, arith}
use Rattle.std.specs.Borrow.{Bor}
use denote.Param.Weighed.{most}
use Rattle.fut_ast.specs.declared.module.ModType.{ModType as PlainModType}
use Rattle.fut_ast.specs.declared.module.ModExp.{ModExp as PlainModExp}
use Rattle.fut_tree.specs.declared.held.Held.{Held}
use Rattle.fut_tree.specs.declared.module.ModType.TheInside.{Inside as InsideType}
use Rattle.fut_tree.specs.declared.module.ModType.TheDeep.{deep-ModTypeForm, deep-Spec, size-ModType, size-Spec}
use Rattle.fut_tree.specs.declared.module.ModTypeForm.{ModTypeForm}
use Rattle.fut_tree.specs.declared.module.ModTypeForm.TheVariants as mtype_form
use Rattle.fut_tree.specs.declared.module.Spec.{Spec}
use Rattle.fut_tree.specs.declared.module.ModExp.TheInside.{Inside}
use Rattle.fut_tree.specs.declared.module.ModExp.TheShapes.{weighed-ModForm-Apply-1-at-2}
use Rattle.fut_tree.specs.declared.module.ModExp.TheDeep.{deep-ModForm, deep-Dec, size-ModExp, size-Dec}
use Rattle.fut_tree.specs.declared.module.ModForm.{ModForm}
use Rattle.fut_tree.specs.declared.module.ModForm.TheVariants as mod_form
use Rattle.fut_tree.specs.declared.module.Dec.{Dec}
use Rattle.fut_tree.specs.ModTypes.{mtype_of, mtype_size}
use Rattle.fut_tree.specs.ModTypesFall.{mtype_falls}
use Rattle.fut_tree.specs.Mods.{mod_of, mod_size}
use Rattle.fut_tree.specs.ModsFall.{mod_falls}

specs_fourfold : (xs : List Spec) → most size-Spec xs ≤ 4 * most deep-Spec xs + 2
specs_fourfold [] = omega arith
specs_fourfold (x ∷ xs) = omega (arith, specs_fourfold xs)

decs_fourfold : (xs : List Dec) → most size-Dec xs ≤ 4 * most deep-Dec xs + 2
decs_fourfold [] = omega arith
decs_fourfold (x ∷ xs) = omega (arith, decs_fourfold xs)

abbrev pub mods_size : List (Held PlainModExp) → ℕ
mods_size = most (λ x. weighed-ModForm-Apply-1-at-2.weight _ size-ModExp x)

mods_fourfold : (xs : List (Held PlainModExp)) → mods_size xs ≤ 4 * most (λ x. weighed-ModForm-Apply-1-at-2.weight PlainModExp (λ y. mod_size y + 1) x) xs
mods_fourfold [] = omega arith
mods_fourfold (x ∷ xs) = omega (arith, mods_fourfold xs)

module _ (t : InsideType) (v : PlainModType) (stands : mtype_of t ≡ v) where
  mtype_under : (f : ModTypeForm) → t.form ≡ f → deep-ModTypeForm f ≤ mtype_size v
  mtype_under f is = subst (λ g. deep-ModTypeForm g ≤ mtype_size v) is (subst (λ w. deep-ModTypeForm t.form ≤ mtype_size w) stands (omega (arith, mtype_falls t)))

  pub specs_parts : (xs : Bor (List Spec)) → t.form ≡ mtype_form.Specs xs → 2 * most size-Spec xs.now + 1 < 2 * size-ModType v
  specs_parts xs is = omega (arith, mtype_under (mtype_form.Specs xs) is, specs_fourfold xs.now)

module _ (m : Inside) (v : PlainModExp) (stands : mod_of m ≡ v) where
  mod_under : (f : ModForm) → m.form ≡ f → deep-ModForm f ≤ mod_size v
  mod_under f is = subst (λ g. deep-ModForm g ≤ mod_size v) is (subst (λ w. deep-ModForm m.form ≤ mod_size w) stands (omega (arith, mod_falls m)))

  pub decs_parts : (xs : Bor (List Dec)) → m.form ≡ mod_form.Decs xs → 2 * most size-Dec xs.now + 1 < 2 * size-ModExp v
  decs_parts xs is = omega (arith, mod_under (mod_form.Decs xs) is, decs_fourfold xs.now)

  pub apply_parts : (f : Bor PlainModExp) (xs : Bor (List (Held PlainModExp))) → m.form ≡ mod_form.Apply f xs → 2 * mods_size xs.now + 1 < 2 * size-ModExp v
  apply_parts f xs is = omega (arith, mod_under (mod_form.Apply f xs) is, mods_fourfold xs.now)
