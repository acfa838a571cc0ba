-- What is made of small types, as the definition gives it. The name n has the number 7, m has 6.
use Rattle.std.proofs.Common.{◌≡◌, ℕ, [], ◌∷◌, Some, None, Ok, Err, refl}
use Rattle.fut_ast.specs.Sorts.{Text}
use Rattle.fut_scalar.specs.declared.place.BindId.{BindId}
use Rattle.fut_scalar.specs.declared.scalar.ScalarType.TheVariants as scalar
use Rattle.fut_scalar.specs.declared.scalar.IntType.TheVariants as int
use Rattle.fut_flat.specs.declared.prim.Ref.TheVariants as ref
use Rattle.fut_flat.specs.Terms.{Size_use, Size_const, Size_blank, Type_use, Array_type, Arrow_type, Tuple_type, Record_type, no_type, type_and, no_arg}
use Rattle.fut_flat.specs.Erased.{FlatType}
use Rattle.fut_types.specs.declared.Head.TheVariants as head
use Rattle.fut_types.specs.Shapes.{place}
use Rattle.fut_typing.specs.Names.{Names}
use Rattle.sized_types.specs.Sizes.{Const, Name, Unknown, Dim, At, Bound, Size, Level, Built, Fun, no_size, size_and, levels, all_levels, replaced, all_replaced, is_dim, is_free}
use Rattle.fut_sizes.specs.Agreeing.{Mismatch}
use Rattle.fut_sizes.specs.Primitives.{scalar_size, pair_size}
use Rattle.fut_sizes.specs.WrittenSizes.{all_have_sizes, all_with_sizes, ascribed, changed_part, coerced, coercion, declared, fields_have_sizes, fields_with_sizes, has_sizes, parameter_size, part_of, same_dim, with_sizes}

-- ---- written types

abbrev b : ℕ → BindId
b n = record { 0 = n }

abbrev integer : FlatType
integer = Type_use (ref.Scalar (scalar.Int int.I64)) no_arg

-- []i64, [n]i64, [2]i64
abbrev open_array : FlatType
open_array = Array_type (Size_blank (b 8)) integer

abbrev n_array : FlatType
n_array = Array_type (Size_use (ref.Bound (b 7))) integer

abbrev two_array : FlatType
two_array = Array_type (Size_const 2) integer

-- ---- sized types

abbrev i64 : Size
i64 = scalar_size (scalar.Int int.I64)

abbrev array : Dim → Size
array d = Level d i64

abbrev n : Dim
n = At (Name 7)

abbrev met : ℕ → Dim
met i = At (Unknown 5 i)

module _ (N : Names) where
  -- what is found has to agree with n, and []i64 agrees with all
  n_is_not_met : ascribed N 3 n_array (array (met 0)) ≡ Err (Mismatch 3 n (met 0))
  unfolding ascribed has_sizes is_dim is_free
  n_is_not_met = refl

  open_agrees : ascribed N 3 open_array (array (met 0)) ≡ Ok (array (met 0))
  unfolding ascribed has_sizes
  open_agrees = refl

  -- xs :> [2]i64
  two_is_taken : coercion N 3 two_array (array (met 0)) ≡ Ok (array (At (Const 2)))
  unfolding coercion coerced has_sizes with_sizes
  two_is_taken = refl

  -- in a declared pair ([]i64, []i64) the second array has the next unknown
  callers_know_none : declared N 9 3 (Tuple_type (type_and open_array (type_and open_array no_type))) (pair_size (array n) (array n)) ≡ Ok (pair_size (array (At (Unknown 9 0))) (array (At (Unknown 9 1))))
  unfolding declared has_sizes all_have_sizes with_sizes all_with_sizes levels all_levels
  callers_know_none = refl

  -- (n: i64) -> [n]i64: the name is the argument's value, at position 0 of the frame
  argument_names_size : coercion N 3 (Arrow_type (Some (b 7)) integer n_array) (Fun 0 i64 (array (Bound 0 0))) ≡ Ok (Fun 0 i64 (array (Bound 0 0)))
  unfolding coercion coerced has_sizes with_sizes is_dim is_free replaced
  argument_names_size = refl

  -- (m: i64) -> [n]i64 is another type
  other_argument : coercion N 3 (Arrow_type (Some (b 6)) integer n_array) (Fun 0 i64 (array (Bound 0 0))) ≡ Err (Mismatch 3 n (At (Name 6)))
  unfolding coercion has_sizes is_dim is_free replaced all_replaced
  other_argument = refl

  -- a parameter (n: i64) -> [n]i64 binds it
  parameter_binds : parameter_size N same_dim (Arrow_type (Some (b 7)) integer n_array) (Fun 0 i64 (array (Bound 0 3))) ≡ Fun 0 i64 (array (Bound 0 0))
  unfolding parameter_size with_sizes replaced all_replaced
  parameter_binds = refl

  -- a declared i64 -> []i64: its size is met when it runs, behind the argument's value
  result_is_met : declared N 9 3 (Arrow_type None integer open_array) (Fun 0 i64 (array (Bound 0 0))) ≡ Ok (Fun 0 i64 (array (Bound 0 1)))
  unfolding declared has_sizes with_sizes replaced all_replaced
  result_is_met = refl

  -- in a declared ({x: []i64, y: []i64}, []i64) each array has an unknown of its own
  module _ (x y : Text) (first : place N.shapes (N.label x) (head.Record 0) ≡ Some 0) (second : place N.shapes (N.label y) (head.Record 0) ≡ Some 1) where
    abbrev row : Dim → Dim → Size
    row d e = Built (head.Record 0) (size_and (array d) (size_and (array e) no_size))

    no_unknown_is_shared : declared N 9 3 (Tuple_type (type_and (Record_type (x ∷ y ∷ []) (type_and open_array (type_and open_array no_type))) (type_and open_array no_type))) (pair_size (row n n) (array n))
        ≡ Ok (pair_size (row (At (Unknown 9 0)) (At (Unknown 9 1))) (array (At (Unknown 9 2))))
    unfolding declared has_sizes all_have_sizes fields_have_sizes with_sizes all_with_sizes fields_with_sizes part_of changed_part levels all_levels
    no_unknown_is_shared = rw (first, second, first) refl
