-- What small patterns bind, as the definition gives it. The name n has the number 7, x has 1, y has 2.
use Rattle.std.proofs.Common.{◌≡◌, ℕ, [], ◌∷◌, Ok, Err, refl}
use Rattle.fut_scalar.specs.declared.place.BindId.{BindId}
use Rattle.fut_scalar.specs.declared.scalar.ScalarType.TheVariants as scalar
use Rattle.fut_scalar.specs.declared.scalar.IntType.TheVariants as int
use Rattle.fut_flat.specs.declared.prim.Ref.TheVariants as ref
use Rattle.fut_flat.specs.Terms.{Bound_pattern, Wild_pattern, Tuple_pattern, Typed_pattern, no_pattern, pattern_and, Size_use, Size_const, Type_use, Array_type, no_arg}
use Rattle.fut_flat.specs.Erased.{FlatPattern, FlatType}
use Rattle.fut_typing.specs.Names.{Names}
use Rattle.sized_types.specs.Sizes.{Free, Const, Name, Own, Dim, At, Bound, Size, Level, replaced, is_free, is_dim}
use Rattle.fut_sizes.specs.Agreeing.{Answer, Escapes, Mismatch, then_do}
use Rattle.fut_sizes.specs.Matching.{in_opened, inside, meet, none_opened}
use Rattle.fut_sizes.specs.Primitives.{scalar_size, pair_size}
use Rattle.fut_sizes.specs.Scopes.{Taken, all_taken, as_taken, bound_by, names, nothing, taken}
use Rattle.fut_sizes.specs.Sizing.{parameter_frame, part_names}
use Rattle.fut_sizes.specs.WrittenSizes.{coerced, has_sizes, with_sizes}

abbrev b : ℕ → BindId
b n = record { 0 = n }

abbrev x : FlatPattern
x = Bound_pattern (b 1)

abbrev y : FlatPattern
y = Bound_pattern (b 2)

abbrev integer : FlatType
integer = Type_use (ref.Scalar (scalar.Int int.I64)) no_arg

-- (x: [n]i64), (x: [4]i64)
abbrev n_long : FlatPattern
n_long = Typed_pattern x (Array_type (Size_use (ref.Bound (b 7))) integer)

abbrev four_long : FlatPattern
four_long = Typed_pattern x (Array_type (Size_const 4) integer)

abbrev pair_of : FlatPattern → FlatPattern → FlatPattern
pair_of p q = Tuple_pattern (pattern_and p (pattern_and q no_pattern))

abbrev i64 : Size
i64 = scalar_size (scalar.Int int.I64)

abbrev array : Dim → Size
array d = Level d i64

abbrev five : Size
five = array (At (Const 5))

-- what n took
abbrev n_taken : Answer Taken → Answer Free
n_taken a = then_do a (λ k. Ok (as_taken (b 7 ∷ []) k.found (Name 7)))

-- ---- names

names_of_pair : names (pair_of x (pair_of y Wild_pattern)) ≡ 1 ∷ 2 ∷ []
names_of_pair = refl

-- a parameter's own name is no part of its argument
no_part : part_names n_long ≡ []
no_part = refl

module _ (N : Names) where
  -- let [n] (x: [n]i64) = v, where v is [5]i64: n is 5
  size_taken : n_taken (bound_by N (b 7 ∷ []) 3 n_long five nothing) ≡ Ok (Const 5)
  unfolding bound_by taken meet coerced with_sizes has_sizes replaced is_dim is_free
  size_taken = refl

  -- let [n] x = v: no level says what n is
  size_escapes : bound_by N (b 7 ∷ []) 3 x five nothing ≡ Err (Escapes 3)
  unfolding bound_by taken
  size_escapes = refl

  -- let (x: [4]i64) = v
  sizes_differ : bound_by N [] 3 four_long five nothing ≡ Err (Mismatch 3 (At (Const 4)) (At (Const 5)))
  unfolding bound_by taken meet coerced with_sizes replaced is_free
  sizes_differ = refl

  -- let [n] (x: [n]i64, y: [n]i64) = (v, w): n is one size
  one_size : n_taken (bound_by N (b 7 ∷ []) 3 (pair_of n_long n_long) (pair_size five five) nothing) ≡ Ok (Const 5)
  unfolding bound_by taken all_taken meet coerced with_sizes has_sizes replaced is_dim is_free
  one_size = refl

-- ---- a lambda \x -> .. at whose parameter, which is at node 9, (m: i64) -> [m]i64 is wanted: its result is [x]i64

value_named : in_opened (inside (parameter_frame x 9 0) none_opened) (array (Bound 0 0)) ≡ array (At (Name 1))
unfolding replaced inside
value_named = refl

-- where the pattern is no name, the argument's value is a size of the node's own
value_own : in_opened (inside (parameter_frame Wild_pattern 9 0) none_opened) (array (Bound 0 0)) ≡ array (At (Own 9 0))
unfolding replaced inside
value_own = refl
