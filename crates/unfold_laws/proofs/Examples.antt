-- Small blocks with their types: a map with its function, and an array without rows, whose name has several types; and steps
-- that have none.
use Rattle.std.proofs.Common.{◌≡◌, [], ◌∷◌, true, refl, sym, subst, ◌∙◌, arith}
use mathlib.Core.Logic.{inl, inr}
use Rattle.fut_scalar.specs.declared.operator.BinOp.TheVariants as binary
use Rattle.fut_scalar.specs.declared.place.Place.{Place}
use Rattle.fut_scalar.specs.declared.scalar.IntType.TheVariants.{U8}
use Rattle.fut_scalar.specs.declared.scalar.Scalar.TheVariants as scalar
use Rattle.fut_scalar.specs.declared.scalar.ScalarType.TheVariants as sort
use Rattle.fut_flat.specs.declared.prim.Primitive.TheVariants as prim
use Rattle.fut_types.specs.Types.{Ty, Var, Tys, none, more, Kinds, fun_ty, rank, least, scalar_ty, applied, all_applied}
use Rattle.fut_typing.specs.Names.{Names}
use Rattle.fut_typing.specs.Primitives.{array_ty, bool_ty, i64_ty, pair_ty}
use Rattle.fut_meaning.specs.Arrays.{Make_array}
use Rattle.fut_blocks.specs.declared.block.Atom.TheVariants as atom
use Rattle.fut_blocks.specs.declared.block.Operation.TheVariants as operation
use Rattle.fut_blocks.specs.Rows.{Unknown_row, Rows_of, Shape_of, Length_of, Any_size}
use Rattle.fut_blocks.specs.Plain.{Size_of, Coerce, Action, Operate, Make, Job, If, Give, Let}
use Rattle.unfold.specs.Shapes.{Scalar_shape, Tuple_shape, no_shape, shape_and}
use Rattle.unfold_laws.specs.Components.{components, all_components}
use Rattle.unfold_laws.specs.Closed.{Is_closed, All_closed}
use Rattle.unfold_laws.specs.Typed.{Types, of_constants, with_each, with_name, Act_typed, Body_typed, Names_typed, any_types}

here : Place
here = record { file = 0; line = 1; column = 1 }

abbrev byte : Ty
byte = scalar_ty (sort.Int U8)

module _ (N : Names) (K : Kinds) where
  -- `map (\z -> z + 1) x`, where x has the name 0
  abbrev next : Action
  next = Job Unknown_row prim.Map here (atom.Name 0 ∷ []) (1 ∷ []) (Let (2 ∷ []) (Operate (operation.Binary binary.Add here (atom.Name 1) (atom.Constant (scalar.Int U8 1)))) (Give (atom.Name 2 ∷ [])))

  maps_are_typed : Act_typed N K any_types next (with_name 0 (array_ty byte) of_constants) (more (array_ty byte) none)
  unfolding Act_typed Body_typed applied all_applied rank least
  maps_are_typed = (
    more (array_ty byte) none,
    more byte none,
    byte,
    array_ty byte,
    tt,
    (inl (inl (refl, refl)), tt),
    record {
      on_arrays = refl;
      some = omega arith;
      given = λ n. byte;
      kinds = λ n. omega arith;
      parameters = more (fun_ty byte byte) (more (array_ty byte) none);
      is = refl;
      all = refl;
      taken = refl;
      function = refl;
      of_function = refl;
    },
    tt,
    (
      (more byte none, (tt, (byte, byte, (refl, omega arith), inl (inl (refl, refl)), inr (inr refl), refl)), refl),
      (inl (more byte none, (tt, (byte, byte, (refl, omega arith), inl (inl (refl, refl)), inr (inr refl), refl)), inl (refl, refl)), tt),
    ),
    refl,
    refl,
  )

  -- `[]`, which gets the name 3
  abbrev empty : Types
  empty = with_each (3 ∷ []) (Names_typed N K any_types (Make Unknown_row Make_array here []) of_constants) of_constants

  of_bytes : empty (atom.Name 3) (array_ty byte)
  unfolding Act_typed rank least
  of_bytes = inl (more (array_ty byte) none, (tt, (none, array_ty byte, tt, tt, (tt, (byte, (byte, (refl, omega arith), tt))), refl)), inl (refl, refl))

  and_of_truth_values : empty (atom.Name 3) (array_ty bool_ty)
  unfolding Act_typed rank least
  and_of_truth_values = inl (more (array_ty bool_ty) none, (tt, (none, array_ty bool_ty, tt, tt, (tt, (bool_ty, (bool_ty, (refl, omega arith), tt))), refl)), inl (refl, refl))

  -- `([], []) : ([]u8, []bool)`: one name of two types, of which each use takes one
  twice_empty : Body_typed N K All_closed (Let (3 ∷ []) (Make Unknown_row Make_array here []) (Give (atom.Name 3 ∷ atom.Name 3 ∷ []))) of_constants (more (array_ty byte) (more (array_ty bool_ty) none))
  unfolding Act_typed Body_typed Is_closed All_closed rank least
  twice_empty = (
    (more (array_ty byte) none, (((tt, ((tt, tt), tt)), tt), (none, array_ty byte, tt, tt, (tt, (byte, (byte, (refl, omega arith), tt))), refl)), refl),
    (
      inl (more (array_ty byte) none, (((tt, ((tt, tt), tt)), tt), (none, array_ty byte, tt, tt, (tt, (byte, (byte, (refl, omega arith), tt))), refl)), inl (refl, refl)),
      (inl (more (array_ty bool_ty) none, (((tt, ((tt, tt), tt)), tt), (none, array_ty bool_ty, tt, tt, (tt, (bool_ty, (bool_ty, (refl, omega arith), tt))), refl)), inl (refl, refl)), tt),
    ),
  )

  -- and none of a type variable
  no_variable : with_each (3 ∷ []) (Names_typed N K All_closed (Make Unknown_row Make_array here []) of_constants) of_constants (atom.Name 3) (array_ty (Var 0)) → ⊥
  unfolding Is_closed All_closed
  no_variable (inl (none, p, s)) = absurd s
  no_variable (inl (more t ts, (c, a), inl (n, e))) = absurd ((subst Is_closed e c.0).1.0)
  no_variable (inl (more t ts, p, inr s)) = absurd s
  no_variable (inr h) = absurd h

  -- a byte and a truth value have no sum
  unlike_sum : Action
  unlike_sum = Operate (operation.Binary binary.Add here (atom.Constant (scalar.Int U8 1)) (atom.Constant (scalar.Bool true)))

  unlike_sums_have_no_type : (ts : Tys) → Act_typed N K any_types unlike_sum of_constants ts → ⊥
  unfolding Act_typed unlike_sum
  unlike_sums_have_no_type ts (t, u, rule, a, b, e) = let z : byte ≡ bool_ty = sym a ∙ b in cc

  -- nor has an `if` on a byte
  branch_on_byte : Action
  branch_on_byte = If (atom.Constant (scalar.Int U8 1)) (Give []) (Give [])

  branches_on_bytes_have_no_type : (ts : Tys) → Act_typed N K any_types branch_on_byte of_constants ts → ⊥
  unfolding Act_typed branch_on_byte
  branches_on_bytes_have_no_type ts (c, a, b) = let z : bool_ty ≡ byte = c in cc

  -- how many rows an array has, as a size
  rows_as_a_size : Action
  rows_as_a_size = Size_of (Length_of (Shape_of (atom.Name 0)))

  sizes_are_typed : Act_typed N K any_types rows_as_a_size (with_name 0 (array_ty byte) of_constants) (more i64_ty none)
  unfolding Act_typed rows_as_a_size
  sizes_are_typed = ((array_ty byte, inl (inl (refl, refl))), refl)

  -- where the array is not there it has no type, nor has a test of it
  sizes_of_nothing_have_no_type : (ts : Tys) → Act_typed N K any_types rows_as_a_size of_constants ts → ⊥
  unfolding Act_typed rows_as_a_size
  sizes_of_nothing_have_no_type ts ((t, h), e) = absurd h

  tests_of_nothing_have_no_type : (ts : Tys) → Act_typed N K any_types (Coerce here Any_size (Rows_of (Shape_of (atom.Name 0)))) of_constants ts → ⊥
  unfolding Act_typed
  tests_of_nothing_have_no_type ts (x, (t, h), e) = absurd h

  -- a pair of a byte and an array is two components, or one
  two_components : components N (Tuple_shape (shape_and Scalar_shape (shape_and Scalar_shape no_shape))) (pair_ty byte (array_ty byte)) none ≡ more byte (more (array_ty byte) none)
  unfolding components all_components
  two_components = refl

  one_component : components N Scalar_shape (pair_ty byte (array_ty byte)) none ≡ more (pair_ty byte (array_ty byte)) none
  unfolding components
  one_component = refl
