-- Small terms with a sizing, by computation: where sizes stand that no value shows, and what becomes of them in blocks.
use Rattle.std.proofs.Common.{◌≡◌, ℕ, ◌+◌, [], ◌∷◌, cond, nat_eq, Some, None, refl, arith}
use Rattle.fut_scalar.specs.declared.place.Place.{Place}
use Rattle.fut_scalar.specs.declared.scalar.IntType.TheVariants.{I64}
use Rattle.fut_scalar.specs.declared.scalar.ScalarType.TheVariants as sort
use Rattle.fut_flat.specs.declared.prim.Primitive.TheVariants as prim
use Rattle.fut_flat.specs.declared.prim.Ref.TheVariants as ref
use Rattle.fut_flat.specs.Erased.{FlatTerm, FlatPattern, FlatType}
use Rattle.fut_flat.specs.Terms.{Bound_pattern, no_pattern, pattern_and, Coerce, Use, Strict, no_term, term_and}
use Rattle.fut_types.specs.declared.Head.TheVariants as head
use Rattle.fut_value.specs.Data.{Scalar_shape, Array_shape}
use Rattle.sized_types.specs.Sizes.{Const, Name, At, Inferred, Size, Hole, Level, Built, Fun, no_size, is_free, is_dim}
use Rattle.sized_types.specs.Standing.{is_known, gives_chosen}
use Rattle.fut_meaning.specs.Arrays.{i64}
use Rattle.fut_meaning.specs.Found.{Sizing, Told}
use Rattle.fut_meaning.specs.Outcomes.{Val}
use Rattle.fut_meaning.specs.Places.{place}
use Rattle.fut_meaning.specs.Taken.{beside}
use Rattle.fut_blocks.specs.declared.block.Atom.TheVariants as atom
use Rattle.fut_blocks.specs.Plain.{Size_of}
use Rattle.fut_blocks.specs.Plain as act
use Rattle.fut_blocks.specs.Rows.{Unknown_row, Scalar_row, Array_row, Shape_of, Extent, Exactly, Worth_of, Length_of, Any_size, Array_test}
use Rattle.fut_blocks.specs.Sizes.{row_shape}
use Rattle.unfold.specs.Knowns.{Known, Function_known, Scope, seeing, nothing_seen, no_name, no_entry, entry, name_and, name_by, local, local_by, find}
use Rattle.unfold.specs.Telling as telling
use Rattle.unfold.specs.Telling.{passed, says, told_row, result_row, closure_tells, known_row, found, tells, function_row, literal_row, size_test, enter}
use Rattle.unfold.specs.Unfolding.{named, Unfolds, u_name, u_size, u_strict, u_none, u_more, o_coerce}

here : Place
here = record { file = 0; line = 1; column = 1 }

abbrev var : ℕ → FlatTerm
var n = Use (ref.Bound (record { 0 = n })) here 0

abbrev name : ℕ → FlatPattern
name n = Bound_pattern (record { 0 = n })

abbrev i64_size : Size
i64_size = Built (head.Scalar (sort.Int I64)) no_size

-- these are the sized types of nodes; the name b is bound at the node 100 + b, and 9 is the number of a size
abbrev sizing : (ℕ → Size) → Sizing
sizing sizes = record { size_at = sizes; home = λ b. 100 + b; fields = λ n. []; is_size = λ k. nat_eq k 9; used = λ n. None }

abbrev told : (ℕ → Size) → Told
told sizes = record { integer_at = λ n. I64; sizes = Some (sizing sizes) }

-- a pattern at a node was entered with what is no function
abbrev one_entered : ℕ → Known → Scope
one_entered q s = seeing no_name (entry q s Unknown_row no_entry)

-- ---- \(xs: [n]i64) -> n: a size as an expression is read off the array that was entered

abbrev of_array : ℕ → Size
of_array n = Level (At (Name 9)) i64_size

abbrev with_array : Scope
with_array = name_and (record { 0 = 4 }) (named 0) (one_entered 104 (named 0))

abbrev array_length : Extent
array_length = Length_of (Shape_of (atom.Name 0))

sizes_are_read : Unfolds (told of_array) [] with_array 0 (var 9) 2 ((2 ∷ [], Size_of array_length) ∷ []) (named 2) 3
unfolding found telling.told place name_and name_by known_row is_dim is_free
sizes_are_read = u_size refl (omega arith)

-- ---- \(g: [n]i64 -> i64) -> n, for \(xs: [5]i64) -> xs: nothing tells it but the size that the function takes

abbrev of_function : ℕ → Size
of_function n = cond (nat_eq n 104) (Fun 0 (of_array 0) i64_size) (cond (nat_eq n 50) (Level (At (Const 5)) i64_size) i64_size)

abbrev five_taken : Known
five_taken = Function_known (pattern_and (name 6) no_pattern) (var 6) 51 nothing_seen

taken_sizes_are_read : Unfolds (told of_function) [] (enter (Some (sizing of_function)) 104 five_taken nothing_seen) 0 (var 9) 2 ((2 ∷ [], Size_of (Exactly 5)) ∷ []) (named 2) 3
unfolding found telling.told passed says beside tells place known_row is_known is_dim is_free
taken_sizes_are_read = u_size refl (omega arith)

-- and any other name is what it was
names_stay : Unfolds (told of_array) [] with_array 0 (var 4) 2 [] (named 0) 2
unfolding find local local_by name_and name_by
names_stay = u_name refl refl

-- ---- \m -> map (\i -> iota m) (iota 0): what the function gives is told without running it; m is the component 0

abbrev of_map : ℕ → Size
of_map n = cond (nat_eq n 50) (Level (At (Name 1)) i64_size) (cond (nat_eq n 60) (Level (At (Const 0)) (Hole (Inferred 0))) (cond (nat_eq n 102) (Fun 0 i64_size (Hole (Inferred 0))) i64_size))

abbrev iotas : Known
iotas = Function_known (pattern_and (name 6) no_pattern) (var 1) 50 (one_entered 101 (named 0))

functions_tell_their_rows : function_row (Some (sizing of_map)) prim.Map iotas (atom.Name 5 ∷ []) ≡ Array_row (Worth_of (atom.Name 0)) (Scalar_row (sort.Int I64))
unfolding tells found place known_row closure_tells result_row told_row is_dim is_free
functions_tell_their_rows = refl

-- ---- \(f: i64 -> a) -> []: []a, for that function: what the type variable stands for is found in what the function tells

type_variables_are_found : row_shape ((0, i64 2) ∷ []) (literal_row (Some (sizing of_map)) (enter (Some (sizing of_map)) 102 iotas nothing_seen) 60) ≡ Val (Array_shape 2 (Scalar_shape (sort.Int I64)))
unfolding tells found place known_row closure_tells result_row told_row is_dim is_free is_known gives_chosen
type_variables_are_found = refl

-- ---- xs :> [2]i64

abbrev of_pair : ℕ → Size
of_pair n = Level (At (Const 2)) i64_size

abbrev coercion : FlatType → FlatTerm
coercion t = Strict (Coerce t) here (term_and (var 4) no_term)

coercions_are_tested : (t : FlatType) → Unfolds (told of_pair) [] with_array 0 (coercion t) 2 (([], act.Coerce here (Array_test (Exactly 2) Any_size) (Shape_of (atom.Name 0))) ∷ []) (named 0) 2
unfolding find local local_by name_and name_by size_test known_row
coercions_are_tested t = u_strict (u_more (u_name refl refl) u_none) o_coerce
