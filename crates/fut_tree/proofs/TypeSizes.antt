-- A list of parts is smaller than the type that holds it, as walks measure both.
use Rattle.std.proofs.Common.{◌≡◌, ℕ, ◌+◌, ◌*◌, ◌≤◌, ◌<◌, List, [], ◌∷◌, subst, arith}
use Rattle.std.specs.Borrow.{Bor}
use denote.Param.Weighed.{most}
use Rattle.fut_ast.specs.Sorts.{SourceType}
use Rattle.fut_tree.specs.declared.held.Held.{Held}
use Rattle.fut_tree.specs.declared.ty.TypeExp.TheInside.{Inside}
use Rattle.fut_tree.specs.declared.ty.TypeExp.TheShapes.{weighed-TypeForm-Tuple-0-at-2}
use Rattle.fut_tree.specs.declared.ty.TypeExp.TheDeep.{deep-TypeForm, deep-TypeArg, deep-TypeField, size-TypeExp, size-TypeArg, size-TypeField}
use Rattle.fut_tree.specs.declared.ty.TypeForm.{TypeForm}
use Rattle.fut_tree.specs.declared.ty.TypeForm.TheVariants as held_form
use Rattle.fut_tree.specs.declared.ty.TypeArg.{TypeArg}
use Rattle.fut_tree.specs.declared.ty.TypeField.{TypeField}
use Rattle.fut_tree.specs.Types.{type_of, type_size}
use Rattle.fut_tree.specs.TypesFall.{type_falls}

abbrev pub types_size : List (Held SourceType) → ℕ
types_size = most (λ x. weighed-TypeForm-Tuple-0-at-2.weight _ size-TypeExp x)

types_thrice : (xs : List (Held SourceType)) → types_size xs ≤ 3 * most (λ x. weighed-TypeForm-Tuple-0-at-2.weight SourceType (λ y. type_size y + 1) x) xs
types_thrice [] = omega arith
types_thrice (x ∷ xs) = omega (arith, types_thrice xs)

arguments_thrice : (xs : List TypeArg) → most size-TypeArg xs ≤ 3 * most deep-TypeArg xs + 1
arguments_thrice [] = omega arith
arguments_thrice (x ∷ xs) = omega (arith, arguments_thrice xs)

fields_thrice : (xs : List TypeField) → most size-TypeField xs ≤ 3 * most deep-TypeField xs + 1
fields_thrice [] = omega arith
fields_thrice (x ∷ xs) = omega (arith, fields_thrice xs)

module _ (t : Inside) (v : SourceType) (stands : type_of t ≡ v) where
  under : (f : TypeForm) → t.form ≡ f → deep-TypeForm f ≤ type_size v
  under f is = subst (λ g. deep-TypeForm g ≤ type_size v) is (subst (λ w. deep-TypeForm t.form ≤ type_size w) stands (omega (arith, type_falls t)))

  pub argument_parts : (p : Bor (List (Bor (List ℕ)))) (xs : Bor (List TypeArg)) → t.form ≡ held_form.Path p xs → 2 * most size-TypeArg xs.now + 1 < 2 * size-TypeExp v
  argument_parts p xs is = omega (arith, under (held_form.Path p xs) is, arguments_thrice xs.now)

  pub tuple_parts : (ts : Bor (List (Held SourceType))) → t.form ≡ held_form.Tuple ts → 2 * types_size ts.now + 1 < 2 * size-TypeExp v
  tuple_parts ts is = omega (arith, under (held_form.Tuple ts) is, types_thrice ts.now)

  pub record_parts : (fs : Bor (List TypeField)) → t.form ≡ held_form.Record fs → 2 * most size-TypeField fs.now + 1 < 2 * size-TypeExp v
  record_parts fs is = omega (arith, under (held_form.Record fs) is, fields_thrice fs.now)
