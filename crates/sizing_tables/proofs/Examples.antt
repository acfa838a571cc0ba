-- A small program: `def f [n] (xs: [n]i64): i64 = n`, where f is number 0, n is 1 and xs is 2. Its nodes are f, the function, its
-- parameter and the use of n.
use Rattle.std.proofs.Common.{◌≡◌, ℕ, [], ◌∷◌, true, false, Some, None, refl}
use Rattle.fut_scalar.specs.declared.place.BindId.{BindId}
use Rattle.fut_scalar.specs.declared.place.Place.{Place}
use Rattle.fut_scalar.specs.declared.scalar.IntType.TheVariants as int
use Rattle.fut_scalar.specs.declared.scalar.ScalarType.TheVariants as scalar
use Rattle.fut_flat.specs.declared.prim.Ref.TheVariants as ref
use Rattle.fut_flat.specs.Terms.{Bound_pattern, Typed_pattern, no_pattern, pattern_and, Size_parameter, Use, Lambda, Size_use, Array_type, Type_use, no_arg}
use Rattle.fut_typing.specs.Program.{Defined}
use Rattle.elab_laws.specs.Used.{used_at}
use Rattle.sizing_tables.specs.Bound.{is_among, names_of, pattern_names, program_names, program_sizes, size_numbers, sizes_of}
use Rattle.sizing_tables.specs.Told.{node_of}

abbrev number : ℕ → BindId
number n = record { 0 = n }

module _ (at : Place) where
  abbrev f : Defined
  f = record {
    name = Bound_pattern (number 0);
    parameters = Size_parameter (number 1) ∷ [];
    value = Lambda (pattern_and (Typed_pattern (Bound_pattern (number 2)) (Array_type (Size_use (ref.Bound (number 1))) (Type_use (ref.Scalar (scalar.Int int.I64)) no_arg))) no_pattern) (Use (ref.Bound (number 1)) at 0);
  }

  names : program_names (f ∷ []) ≡ Some 0 ∷ None ∷ Some 2 ∷ None ∷ []
  unfolding program_names pattern_names names_of
  names = refl

  sizes : program_sizes (f ∷ []) ≡ 1 ∷ []
  unfolding program_sizes size_numbers sizes_of
  sizes = refl

  -- xs is bound at its own node, and n at none
  home_of_xs : node_of 2 (program_names (f ∷ [])) ≡ 2
  unfolding program_names pattern_names names_of node_of
  home_of_xs = refl

  home_of_n : node_of 1 (program_names (f ∷ [])) ≡ 4
  unfolding program_names pattern_names names_of node_of
  home_of_n = refl

  n_is_a_size : is_among 1 (program_sizes (f ∷ [])) ≡ true
  unfolding program_sizes size_numbers sizes_of is_among
  n_is_a_size = refl

  xs_is_none : is_among 2 (program_sizes (f ∷ [])) ≡ false
  unfolding program_sizes size_numbers sizes_of is_among
  xs_is_none = refl

  -- the use of n, at the last node, stands for it
  use_of_n : used_at (λ k. is_among k (program_sizes (f ∷ []))) 1 f.value 3 ≡ Some 1
  unfolding program_sizes size_numbers sizes_of is_among used_at
  use_of_n = refl
