-- The parts of a held type are smaller than it.
use Rattle.std.specs.Prelude.{◌+◌, ◌≤◌, List, [], ◌∷◌}
use Rattle.std.proofs.Common.{arith}
use Prim.Native.Nat.{max}
use denote.Param.Weighed.{most}
use Rattle.fut_ast.specs.Sorts.{Text, Path, SourceType}
use Rattle.fut_ast.specs.declared.ty.TypeArg.TheViews.{size-TypeForm, size-TypeArg, size_roll-TypeExp, sized-Of, sized-Path, sized-Array, sized-Unique, sized-Arrow, sized-Named, sized-Tuple, sized-Record, weight-TypeForm-Path-1, weight-TypeForm-Tuple-0, weight-TypeForm-Record-0}
use Rattle.fut_tree.specs.declared.held.Held.{Held}
use Rattle.fut_tree.specs.declared.ty.TypeExp.TheInside.{Inside}
use Rattle.fut_tree.specs.declared.ty.TypeExp.TheDeep.{deep-TypeForm, deep-TypeArg, deep-TypeField, deep-TypeExp}
use Rattle.fut_tree.specs.declared.ty.TypeForm.{TypeForm}
use Rattle.fut_tree.specs.declared.ty.TypeForm.TheVariants as held_form
use Rattle.fut_tree.specs.declared.ty.TypeArg.{TypeArg}
use Rattle.fut_tree.specs.declared.ty.TypeArg.TheVariants as held_arg
use Rattle.fut_tree.specs.declared.ty.TypeField.{TypeField}
use Rattle.fut_tree.specs.Names.{names, all}
use Rattle.fut_tree.specs.Types.{maybe_size_of, arg_of, args_of, type_fields, type_form_of, type_of, type_size}

pub arg_falls : (a : TypeArg) → deep-TypeArg a ≤ size-TypeArg (arg_of a)
arg_falls (held_arg.Size s) = omega arith
arg_falls (held_arg.Of t) = omega (arith, sized-Of t.now)

pub args_fall : (xs : List TypeArg) → most deep-TypeArg xs ≤ weight-TypeForm-Path-1 (args_of xs) + 1
args_fall [] = omega arith
args_fall (x ∷ xs) = omega (arith, arg_falls x, args_fall xs)

pub types_fall : (xs : List (Held SourceType)) → most (λ (x : Held SourceType). max (type_size x.at.now + 1) 0) xs ≤ weight-TypeForm-Tuple-0 (all xs) + 1
types_fall [] = omega arith
types_fall (x ∷ xs) = omega (arith, types_fall xs)

pub type_fields_fall : (xs : List TypeField) → most deep-TypeField xs ≤ weight-TypeForm-Record-0 (type_fields xs) + 1
type_fields_fall [] = omega arith
type_fields_fall (x ∷ xs) = omega (arith, type_fields_fall xs)

pub type_form_falls : (f : TypeForm) → deep-TypeForm f ≤ size-TypeForm (type_form_of f)
type_form_falls (held_form.Path p args) = omega (arith, sized-Path (names p.now) (args_of args.now), args_fall args.now)
type_form_falls (held_form.Array s t) = omega (arith, sized-Array (maybe_size_of s) t.now)
type_form_falls (held_form.Unique t) = omega (arith, sized-Unique t.now)
type_form_falls (held_form.Arrow t u) = omega (arith, sized-Arrow t.now u.now)
type_form_falls (held_form.Named x t u) = omega (arith, sized-Named x.now t.now u.now)
type_form_falls held_form.Unit = omega arith
type_form_falls (held_form.Tuple ts) = omega (arith, sized-Tuple (all ts.now), types_fall ts.now)
type_form_falls (held_form.Record fs) = omega (arith, sized-Record (type_fields fs.now), type_fields_fall fs.now)

pub type_falls : (t : Inside) → deep-TypeExp t ≤ type_size (type_of t)
type_falls t = omega (arith, type_form_falls t.form, size_roll-TypeExp (record { place = t.place; form = type_form_of t.form }))
