-- Small programs whose results are of sizes that no value shows, by computation: what a function tells without running.
use Rattle.std.proofs.Common.{ℕ, ◌+◌, [], ◌∷◌, false, cond, nat_eq, Some, None}
use Rattle.fut_scalar.specs.declared.place.Place.{Place}
use Rattle.fut_scalar.specs.declared.report.FailKind.TheVariants as kind
use Rattle.fut_scalar.specs.declared.scalar.IntType.TheVariants.{I64}
use Rattle.fut_scalar.specs.declared.scalar.Scalar.TheVariants as scalar
use Rattle.fut_scalar.specs.declared.scalar.ScalarType.TheVariants as sort
use Rattle.fut_flat.specs.declared.prim.Primitive.{Primitive}
use Rattle.fut_flat.specs.declared.prim.Primitive.TheVariants as prim
use Rattle.fut_flat.specs.declared.prim.Ref.TheVariants as ref
use Rattle.fut_flat.specs.Erased.{FlatTerm, FlatPattern, FlatType}
use Rattle.fut_flat.specs.Terms.{Type_use, no_arg, Bound_pattern, no_pattern, pattern_and, Integer, Array_of, Coerce, Use, Strict, Lambda, Apply, Let, no_term, term_and}
use Rattle.fut_types.specs.declared.Head.TheVariants as head
use Rattle.fut_value.specs.Data.{Shape, Scalar_shape, Array_shape, Unmet_shape, no_datum, shape_of, words, array_words, weight, heaviest, same_sizes}
use Rattle.sized_types.specs.Sizes.{Const, Name, Dim, At, Inferred, Size, Hole, Level, Built, Fun, no_size, is_free, is_dim}
use Rattle.sized_types.specs.Standing.{is_known, gives_chosen}
use Rattle.fut_meaning.specs.Outcomes.{Out, Val, Fail, exact, goes_on}
use Rattle.fut_meaning.specs.Values.{Scalar_value, Array_value, Closure, base, bind, entered, Evaluate}
use Rattle.fut_meaning.specs.Accessors.{bound}
use Rattle.fut_meaning.specs.Datums.{datum_of}
use Rattle.fut_meaning.specs.Arrays.{made, array}
use Rattle.fut_meaning.specs.Jobs.{job}
use Rattle.fut_meaning.specs.Operations.{report, operate, coerced}
use Rattle.fut_meaning.specs.Places.{place}
use Rattle.fut_meaning.specs.Found.{Told, unsized, told_shape, result_shape, with_results, has_sizes}
use Rattle.fut_meaning.specs.Telling.{primitive_tells, value_shape, data_told, closure_tells, found, tells, function_tells}
use Rattle.fut_meaning.specs.Taken.{size_value, told, taken, passed, says, beside}
use Rattle.fut_meaning.specs.Meaning.{plain, row_told, fits_type, Ever}
use Rattle.fut_ast.specs.Sorts.{Text}
use Rattle.fut_flat.specs.Sources.{SourceTerm, label, spelled}
use Rattle.fut_meaning.specs.Flats.{FlatValue, FlatEnv, flat_names, flat_look}
use Rattle.fut_meaning.specs.Sources.{Names_nothing, SourceValue, SourceEnv, source_look, source_names}
use Rattle.fut_meaning.proofs.Ever.{close}

abbrev at : Place
at = record { file = 0; line = 1; column = 0 }

abbrev var : ℕ → FlatTerm
var n = Use (ref.Bound (record { 0 = n })) at 0

abbrev prelude : Primitive → FlatTerm
prelude p = Use (ref.Prim p) at 0

abbrev name : ℕ → FlatPattern
name n = Bound_pattern (record { 0 = n })

abbrev int : ℕ → FlatTerm
int n = Strict (Integer n None) at no_term

abbrev long : ℕ → FlatValue
long n = Scalar_value (scalar.Int I64 n)

abbrev i64 : Size
i64 = Built (head.Scalar (sort.Int I64)) no_size

abbrev row : Shape
row = Scalar_shape (sort.Int I64)

-- nothing was met by evaluating under these names, with these sized types of nodes; the name 0 is bound at node 100
abbrev Gives : (ℕ → Size) → FlatEnv → FlatTerm → Out FlatValue → Type 0
Gives sizes env e o = Ever ((flat_names (record { integer_at = λ n. I64; sizes = Some (record { size_at = sizes; home = λ b. 100 + b; fields = λ n. []; is_size = λ k. false; used = λ n. None }) })).lang []) (plain false) 1 (Evaluate env 0 e) o 0

-- ---- let g = map in g (\i -> iota m) (iota 0), where m is 2

abbrev of_map : ℕ → Size
of_map n = cond (nat_eq n 7) i64 (cond (nat_eq n 8) (Level (At (Name 0)) i64) (cond (nat_eq n 100) i64 (Hole (Inferred 0))))

abbrev m_is_2 : FlatEnv
m_is_2 = bind (record { 0 = 0 }) (long 2) (entered 100 (long 2) (base tt))

abbrev renamed_map : FlatTerm
renamed_map = Let (record { sizes = []; parameters = []; is_function = false; pattern = name 1 }) (prelude prim.Map) (Apply (Apply (var 1) (Lambda (pattern_and (name 2) no_pattern) (Apply (prelude prim.Iota) (var 0)))) (Apply (prelude prim.Iota) (int 0)))

-- no row, each of 2 integers: the function was never called
map_under_a_name : Gives of_map m_is_2 renamed_map (Val (Array_value (Array_shape 2 row) no_datum))
unfolding bound flat_look flat_names operate coerced plain row_told job made array shape_of words array_words weight heaviest same_sizes place told_shape result_shape with_results primitive_tells value_shape data_told closure_tells found tells function_tells datum_of
map_under_a_name =
    close _ _ _ _ _ _ (goes_on {f = 0} {g = 0} (close _ _ _ _ _ _ exact) (goes_on {f = 0} {g = 0} exact
    (close _ _ _ _ _ _ (goes_on {f = 0} {g = 0}
    (close _ _ _ _ _ _ (goes_on {f = 0} {g = 0} (close _ _ _ _ _ _ exact) (goes_on {f = 0} {g = 0} (close _ _ _ _ _ _ exact) (close _ _ _ _ _ _ exact))))
    (goes_on {f = 0} {g = 0}
    (close _ _ _ _ _ _ (goes_on {f = 0} {g = 0} (close _ _ _ _ _ _ exact) (goes_on {f = 0} {g = 0} (close _ _ _ _ _ _ (goes_on {f = 0} {g = 0} exact exact))
    (close _ _ _ _ _ _ (goes_on {f = 0} {g = 0} exact (goes_on {f = 0} {g = 0} exact (goes_on {f = 0} {g = 0} exact exact)))))))
    (close _ _ _ _ _ _ (goes_on {f = 0} {g = 0} exact (goes_on {f = 0} {g = 0} exact (goes_on {f = 0} {g = 0} (goes_on {f = 0} {g = 0} exact (goes_on {f = 0} {g = 0} exact exact)) exact)))))))))

-- ---- (\(f: i64 -> [n]i64) -> []) (\i -> iota 3), whose result is of type [0][n]i64: n stands in a function type alone

abbrev of_rows : ℕ → Size
of_rows n =
    cond (nat_eq n 2) (Fun 0 i64 (Level (At (Name 5)) i64)) (cond (nat_eq n 3) (Level (At (Const 0)) (Level (At (Name 5)) i64))
    (cond (nat_eq n 5) i64 (cond (nat_eq n 6) (Level (At (Const 3)) i64) (Hole (Inferred 0)))))

abbrev no_rows : FlatTerm
no_rows = Apply (Lambda (pattern_and (name 1) no_pattern) (Strict Array_of at no_term)) (Lambda (pattern_and (name 2) no_pattern) (Apply (prelude prim.Iota) (int 3)))

size_of_a_function : Gives of_rows (base tt) no_rows (Val (Array_value (Array_shape 3 row) no_datum))
unfolding bound flat_look flat_names operate coerced plain row_told made array shape_of words array_words weight heaviest same_sizes place told_shape result_shape with_results value_shape closure_tells found tells is_known gives_chosen is_dim is_free
size_of_a_function =
    close _ _ _ _ _ _ (goes_on {f = 0} {g = 0} (close _ _ _ _ _ _ exact) (goes_on {f = 0} {g = 0} (close _ _ _ _ _ _ exact)
    (close _ _ _ _ _ _ (goes_on {f = 0} {g = 0} exact (close _ _ _ _ _ _ (goes_on {f = 0} {g = 0} exact (goes_on {f = 0} {g = 0} exact (goes_on {f = 0} {g = 0} exact exact))))))))

-- ---- [] :> [1]i64

abbrev of_one : ℕ → Size
of_one n = cond (nat_eq n 0) (Level (At (Const 1)) i64) (Level (At (Const 0)) i64)

abbrev any_type : FlatType
any_type = Type_use (ref.Scalar (sort.Int I64)) no_arg

coercion_fails : Gives of_one (base tt) (Strict (Coerce any_type) at (term_and (Strict Array_of at no_term) no_term)) (Fail (report kind.Size at))
unfolding flat_names operate coerced plain row_told fits_type has_sizes value_shape made array shape_of words array_words weight heaviest same_sizes told_shape found
coercion_fails =
    close _ _ _ _ _ _ (goes_on {f = 0} {g = 0} (goes_on {f = 0} {g = 0} (close _ _ _ _ _ _ (goes_on {f = 0} {g = 0} exact (goes_on {f = 0} {g = 0} exact (goes_on {f = 0} {g = 0} exact exact)))) (goes_on {f = 0} {g = 0} exact exact)) exact)

-- ---- where there is no sizing, [] has rows of no shape, and the same coercion gives its value

abbrev Alone : FlatTerm → Out FlatValue → Type 0
Alone e o = Ever ((flat_names (unsized (λ n. I64))).lang []) (plain false) 1 (Evaluate (base tt) 0 e) o 0

coercion_passes : Alone (Strict (Coerce any_type) at (term_and (Strict Array_of at no_term) no_term)) (Val (Array_value Unmet_shape no_datum))
unfolding flat_names operate coerced plain row_told fits_type made array shape_of words array_words weight heaviest same_sizes
coercion_passes =
    close _ _ _ _ _ _ (goes_on {f = 0} {g = 0} (goes_on {f = 0} {g = 0} (close _ _ _ _ _ _ (goes_on {f = 0} {g = 0} exact (goes_on {f = 0} {g = 0} exact (goes_on {f = 0} {g = 0} exact exact)))) (goes_on {f = 0} {g = 0} exact exact)) exact)

-- ---- the name of a size as an expression: \xs -> n, where the parameter's type is [n]i64 and n is the name 0

abbrev size_of_rows : FlatTerm
size_of_rows = Lambda (pattern_and (name 1) no_pattern) (var 0)

-- with these sized types, in which 0 alone is a size, whose use stands at node 3
abbrev Sized : (ℕ → Size) → Told
Sized sizes = record { integer_at = λ n. I64; sizes = Some (record { size_at = sizes; home = λ b. 100 + b; fields = λ n. []; is_size = λ k. nat_eq k 0; used = λ n. cond (nat_eq n 3) (Some 0) None }) }

abbrev Sized_gives : (ℕ → Size) → FlatEnv → FlatTerm → Out FlatValue → ℕ → Type 0
Sized_gives sizes env e o words = Ever ((flat_names (Sized sizes)).lang []) (plain false) 1 (Evaluate env 0 e) o words

abbrev of_parameter : ℕ → Size
of_parameter n = cond (nat_eq n 2) (Level (At (Name 0)) i64) (Hole (Inferred 0))

size_of_three : Sized_gives of_parameter (base tt) (Apply size_of_rows (Strict Array_of at (term_and (int 7) (term_and (int 8) (term_and (int 9) no_term))))) (Val (long 3)) 3
unfolding bound flat_look flat_names operate coerced plain row_told made array shape_of words array_words weight heaviest same_sizes place told_shape with_results value_shape found tells is_dim is_free size_value told datum_of
size_of_three =
    close _ _ _ _ _ _ (goes_on {f = 0} {g = 3} (close _ _ _ _ _ _ exact) (goes_on {f = 3} {g = 0}
    (close _ _ _ _ _ _ (goes_on {f = 0} {g = 3}
    (goes_on {f = 0} {g = 0} (close _ _ _ _ _ _ (goes_on {f = 0} {g = 0} exact exact)) (goes_on {f = 0} {g = 0} (goes_on {f = 0} {g = 0} (close _ _ _ _ _ _ (goes_on {f = 0} {g = 0} exact exact)) (goes_on {f = 0} {g = 0} (goes_on {f = 0} {g = 0} (close _ _ _ _ _ _ (goes_on {f = 0} {g = 0} exact exact)) (goes_on {f = 0} {g = 0} exact exact)) exact)) exact))
    (goes_on {f = 0} {g = 3} exact (goes_on {f = 0} {g = 3} exact exact))))
    (close _ _ _ _ _ _ (goes_on {f = 0} {g = 0} exact (close _ _ _ _ _ _ exact)))))

-- the size of rows that are missing, where the parameter's type is [m][n]i64
abbrev of_rows_of : ℕ → Size
of_rows_of n = cond (nat_eq n 2) (Level (At (Name 9)) (Level (At (Name 0)) i64)) (Hole (Inferred 0))

abbrev no_row_of_three : FlatEnv
no_row_of_three = bind (record { 0 = 4 }) (Array_value (Array_shape 3 row) no_datum) (base tt)

size_of_missing_rows : Sized_gives of_rows_of no_row_of_three (Apply size_of_rows (var 4)) (Val (long 3)) 0
unfolding bound flat_look flat_names plain shape_of place told_shape with_results value_shape found tells is_dim is_free size_value told
size_of_missing_rows =
    close _ _ _ _ _ _ (goes_on {f = 0} {g = 0} (close _ _ _ _ _ _ exact) (goes_on {f = 0} {g = 0} (close _ _ _ _ _ _ exact)
    (close _ _ _ _ _ _ (goes_on {f = 0} {g = 0} exact (close _ _ _ _ _ _ exact)))))

-- ---- the same in a source, where n has no number: what it stands for is told by its node

abbrev Source_gives : (ℕ → Size) → SourceEnv → SourceTerm → Out SourceValue → Type 0
Source_gives sizes env e o = Ever ((source_names (Sized sizes)).lang []) (plain false) 1 (Evaluate env 0 e) o 0

abbrev letter_x : Text
letter_x = 120 ∷ []

abbrev letter_n : Text
letter_n = 110 ∷ []

-- a name n of another value is hidden
abbrev two_outside : SourceEnv
two_outside = bind (label letter_x at) (Array_value (Array_shape 3 row) no_datum) (bind (label letter_n at) (Scalar_value (scalar.Int I64 2)) (base (λ p. Names_nothing)))

size_in_a_source : Source_gives of_rows_of two_outside (Apply (Lambda (pattern_and (Bound_pattern (label letter_x at)) no_pattern) (Use (spelled (letter_n ∷ []) at) at 0)) (Use (spelled (letter_x ∷ []) at) at 0)) (Val (Scalar_value (scalar.Int I64 3)))
unfolding bound source_look source_names plain shape_of place told_shape with_results value_shape found tells is_dim is_free size_value told
size_in_a_source =
    close _ _ _ _ _ _ (goes_on {f = 0} {g = 0} (close _ _ _ _ _ _ exact) (goes_on {f = 0} {g = 0} (close _ _ _ _ _ _ exact)
    (close _ _ _ _ _ _ (goes_on {f = 0} {g = 0} exact (close _ _ _ _ _ _ exact)))))

-- ---- \(g: [n]i64 -> i64) -> n: nothing tells n but the function itself, by the size that it takes

abbrev of_function : Dim → ℕ → Size
of_function d n = cond (nat_eq n 2) (Fun 0 (Level (At (Name 0)) i64) i64) (cond (nat_eq n 50) (Level d i64) i64)

-- \(xs: [d]i64) -> xs, where a name that is bound at node 108 is 7
abbrev function_seen : FlatEnv
function_seen = entered 108 (Scalar_value (scalar.Int I64 7)) (base tt)

abbrev function_at_four : FlatEnv
function_at_four = bind (record { 0 = 4 }) (Closure (pattern_and (Bound_pattern (record { 0 = 6 })) no_pattern) (var 6) 51 function_seen) (base tt)

abbrev Taken_is : Dim → ℕ → Type 0
Taken_is d z = Sized_gives (of_function d) function_at_four (Apply size_of_rows (var 4)) (Val (long z)) 0

size_that_a_function_takes : Taken_is (At (Const 5)) 5
unfolding bound flat_look flat_names plain place value_shape found tells is_dim is_free size_value told taken passed says beside is_known
size_that_a_function_takes =
    close _ _ _ _ _ _ (goes_on {f = 0} {g = 0} (close _ _ _ _ _ _ exact) (goes_on {f = 0} {g = 0} (close _ _ _ _ _ _ exact)
    (close _ _ _ _ _ _ (goes_on {f = 0} {g = 0} exact (close _ _ _ _ _ _ exact)))))

size_by_a_name : Taken_is (At (Name 8)) 7
unfolding bound flat_look flat_names plain place value_shape found tells is_dim is_free size_value told taken passed says beside is_known
size_by_a_name =
    close _ _ _ _ _ _ (goes_on {f = 0} {g = 0} (close _ _ _ _ _ _ exact) (goes_on {f = 0} {g = 0} (close _ _ _ _ _ _ exact)
    (close _ _ _ _ _ _ (goes_on {f = 0} {g = 0} exact (close _ _ _ _ _ _ exact)))))

-- what the function itself does not know is 0
size_that_nothing_tells : Taken_is (At (Name 9)) 0
unfolding bound flat_look flat_names plain place value_shape found tells is_dim is_free size_value told taken passed says beside is_known
size_that_nothing_tells =
    close _ _ _ _ _ _ (goes_on {f = 0} {g = 0} (close _ _ _ _ _ _ exact) (goes_on {f = 0} {g = 0} (close _ _ _ _ _ _ exact)
    (close _ _ _ _ _ _ (goes_on {f = 0} {g = 0} exact (close _ _ _ _ _ _ exact)))))
