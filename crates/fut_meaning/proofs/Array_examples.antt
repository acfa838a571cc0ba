-- Small arrays with what operations and primitives make of them, by computation: their order, sizes, counts and reports.
use Rattle.std.proofs.Common.{◌≡◌, ℕ, List, [], ◌∷◌, Bool, true, false, map, refl}
use Rattle.fut_scalar.specs.declared.place.Place.{Place}
use Rattle.fut_scalar.specs.declared.report.FailKind.TheVariants as kind
use Rattle.fut_scalar.specs.declared.scalar.IntType.TheVariants.{I64}
use Rattle.fut_scalar.specs.declared.scalar.Scalar.TheVariants as scalar
use Rattle.fut_scalar.specs.declared.scalar.ScalarType.TheVariants as sort
use Rattle.fut_ast.specs.declared.node.End.TheVariants as end
use Rattle.fut_flat.specs.declared.act.Part.TheVariants as part
use Rattle.fut_flat.specs.declared.prim.Primitive.{Primitive}
use Rattle.fut_flat.specs.declared.prim.Folding.TheVariants as folding
use Rattle.fut_flat.specs.declared.prim.Primitive.TheVariants as prim
use Rattle.fut_meaning.specs.Outcomes.{Out, Val, Wrong, and_then}
use Rattle.fut_value.specs.Data.{Shape, Scalar_shape, Tuple_shape, Array_shape, Unmet_shape, shape_and, no_shape, Datum, Scalar_datum, Tuple_datum, Array_datum, no_datum, datum_and, datums, shape_of, words, all_words, array_words, all_array_words, weight, heaviest, heaviest_of, same_sizes, all_same_sizes, is_unmet}
use Rattle.fut_meaning.specs.Arrays.{Make_array, Make_index, Make_update, Make_range, made, array, failure, i64, indexed, picks, cuts, cut, updated, range, Counted}
use Rattle.fut_arithmetic.specs.Operations.{result_of}
use Rattle.fut_meaning.specs.Operators.{binary_result}
use Rattle.fut_meaning.specs.Jobs.{Job, Done, Apply_each, Reduce_each, Choose_each, job}

abbrev pub at : Place
at = record { file = 0; line = 1; column = 7 }

abbrev pub row : Shape
row = Scalar_shape (sort.Int I64)

abbrev pub ints : List ℕ → Datum
ints ns = Array_datum row (datums (map i64 ns))

abbrev pub rows : ℕ → List (List ℕ) → Datum
rows m nss = Array_datum (Array_shape m row) (datums (map ints nss))

abbrev pub truth : Bool → Datum
truth b = Scalar_datum (scalar.Bool b)

abbrev pair : Datum → Datum → Datum
pair d e = Tuple_datum (datum_and d (datum_and e no_datum))

abbrev pub done : Job → Out Counted
done (Done r) = Val r
done j = Wrong

abbrev pub ended : List Datum → Job → Out Counted
ended es (Apply_each r k) = k es
ended es (Reduce_each any ne lists k) = k es
ended es (Choose_each ws old k) = k es
ended es (Done r) = Val r

abbrev pub of_job : Job → Out (List (List Datum))
of_job (Apply_each r k) = Val r
of_job (Reduce_each any ne lists k) = Val lists
of_job (Choose_each ws old k) = Val []
of_job (Done r) = Wrong

abbrev of_writes : Job → Out (List (ℕ × Datum))
of_writes (Choose_each ws old k) = Val ws
of_writes j = Wrong

-- what a primitive gives at once
abbrev pub gives : Primitive → List Datum → Out Counted
gives p ds = and_then (job false Unmet_shape p at ds) done

-- what it makes of what its function gave
abbrev pub ends : Primitive → List Datum → List Datum → Out Counted
ends p ds es = and_then (job false Unmet_shape p at ds) (ended es)

-- the rows on which its function is applied, or the lists that it reduces
abbrev pub applied : Primitive → List Datum → Out (List (List Datum))
applied p ds = and_then (job false Unmet_shape p at ds) of_job

literal : made false Unmet_shape Make_array at (i64 4 ∷ i64 5 ∷ []) ≡ Val (2, ints (4 ∷ 5 ∷ []))
unfolding job made array indexed picks cuts cut updated range shape_of words array_words weight heaviest heaviest_of all_words all_array_words same_sizes all_same_sizes is_unmet
literal = refl

no_rows : made false Unmet_shape Make_array at [] ≡ Val (0, Array_datum Unmet_shape no_datum)
unfolding job made array indexed picks cuts cut updated range shape_of words array_words weight heaviest heaviest_of all_words all_array_words same_sizes all_same_sizes is_unmet
no_rows = refl

of_arrays : made false Unmet_shape Make_array at (ints (1 ∷ 2 ∷ []) ∷ ints (3 ∷ 4 ∷ []) ∷ []) ≡ Val (4, rows 2 ((1 ∷ 2 ∷ []) ∷ (3 ∷ 4 ∷ []) ∷ []))
unfolding job made array indexed picks cuts cut updated range shape_of words array_words weight heaviest heaviest_of all_words all_array_words same_sizes all_same_sizes is_unmet
of_arrays = refl

irregular : made false Unmet_shape Make_array at (ints (1 ∷ 2 ∷ []) ∷ ints (3 ∷ []) ∷ []) ≡ failure kind.Size at
unfolding job made array indexed picks cuts cut updated range shape_of words array_words weight heaviest heaviest_of all_words all_array_words same_sizes all_same_sizes is_unmet
irregular = refl

one_index : made false Unmet_shape (Make_index (part.At ∷ [])) at ((ints (4 ∷ 5 ∷ 6 ∷ [])) ∷ i64 2 ∷ []) ≡ Val (0, i64 6)
unfolding job made array indexed picks cuts cut updated range shape_of words array_words weight heaviest heaviest_of all_words all_array_words same_sizes all_same_sizes is_unmet
one_index = refl

past_index : made false Unmet_shape (Make_index (part.At ∷ [])) at ((ints (4 ∷ 5 ∷ 6 ∷ [])) ∷ i64 3 ∷ []) ≡ failure kind.Bounds at
unfolding job made array indexed picks cuts cut updated range shape_of words array_words weight heaviest heaviest_of all_words all_array_words same_sizes all_same_sizes is_unmet
past_index = refl

below_index : made false Unmet_shape (Make_index (part.At ∷ [])) at ((ints (4 ∷ 5 ∷ 6 ∷ [])) ∷ i64 18446744073709551615 ∷ []) ≡ failure kind.Bounds at
unfolding job made array indexed picks cuts cut updated range shape_of words array_words weight heaviest heaviest_of all_words all_array_words same_sizes all_same_sizes is_unmet
below_index = refl

slice : made false Unmet_shape (Make_index (part.Slice true true ∷ [])) at ((ints (4 ∷ 5 ∷ 6 ∷ [])) ∷ i64 1 ∷ i64 3 ∷ []) ≡ Val (0, ints (5 ∷ 6 ∷ []))
unfolding job made array indexed picks cuts cut updated range shape_of words array_words weight heaviest heaviest_of all_words all_array_words same_sizes all_same_sizes is_unmet
slice = refl

whole_slice : made false Unmet_shape (Make_index (part.Slice false false ∷ [])) at ((ints (4 ∷ 5 ∷ 6 ∷ [])) ∷ []) ≡ Val (0, ints (4 ∷ 5 ∷ 6 ∷ []))
unfolding job made array indexed picks cuts cut updated range shape_of words array_words weight heaviest heaviest_of all_words all_array_words same_sizes all_same_sizes is_unmet
whole_slice = refl

crossed_slice : made false Unmet_shape (Make_index (part.Slice true true ∷ [])) at ((ints (4 ∷ 5 ∷ 6 ∷ [])) ∷ i64 2 ∷ i64 1 ∷ []) ≡ failure kind.Bounds at
unfolding job made array indexed picks cuts cut updated range shape_of words array_words weight heaviest heaviest_of all_words all_array_words same_sizes all_same_sizes is_unmet
crossed_slice = refl

backwards : made false Unmet_shape (Make_index (part.Backwards ∷ [])) at ((ints (4 ∷ 5 ∷ 6 ∷ [])) ∷ []) ≡ Val (0, ints (6 ∷ 5 ∷ 4 ∷ []))
unfolding job made array indexed picks cuts cut updated range shape_of words array_words weight heaviest heaviest_of all_words all_array_words same_sizes all_same_sizes is_unmet
backwards = refl

column : made false Unmet_shape (Make_index (part.Slice false false ∷ part.At ∷ [])) at (rows 2 ((1 ∷ 2 ∷ []) ∷ (3 ∷ 4 ∷ []) ∷ []) ∷ i64 1 ∷ []) ≡ Val (0, ints (2 ∷ 4 ∷ []))
unfolding job made array indexed picks cuts cut updated range shape_of words array_words weight heaviest heaviest_of all_words all_array_words same_sizes all_same_sizes is_unmet
column = refl

column_past : made false Unmet_shape (Make_index (part.Slice false true ∷ part.At ∷ [])) at (rows 2 ((1 ∷ 2 ∷ []) ∷ []) ∷ i64 0 ∷ i64 2 ∷ []) ≡ failure kind.Bounds at
unfolding job made array indexed picks cuts cut updated range shape_of words array_words weight heaviest heaviest_of all_words all_array_words same_sizes all_same_sizes is_unmet
column_past = refl

update : made false Unmet_shape Make_update at ((ints (4 ∷ 5 ∷ 6 ∷ [])) ∷ i64 1 ∷ i64 9 ∷ []) ≡ Val (0, ints (4 ∷ 9 ∷ 6 ∷ []))
unfolding job made array indexed picks cuts cut updated range shape_of words array_words weight heaviest heaviest_of all_words all_array_words same_sizes all_same_sizes is_unmet
update = refl

update_past : made false Unmet_shape Make_update at ((ints (4 ∷ 5 ∷ 6 ∷ [])) ∷ i64 3 ∷ i64 9 ∷ []) ≡ failure kind.Bounds at
unfolding job made array indexed picks cuts cut updated range shape_of words array_words weight heaviest heaviest_of all_words all_array_words same_sizes all_same_sizes is_unmet
update_past = refl

update_row : made false Unmet_shape Make_update at (rows 2 ((1 ∷ 2 ∷ []) ∷ (3 ∷ 4 ∷ []) ∷ []) ∷ i64 0 ∷ ints (7 ∷ 8 ∷ []) ∷ []) ≡ Val (0, rows 2 ((7 ∷ 8 ∷ []) ∷ (3 ∷ 4 ∷ []) ∷ []))
unfolding job made array indexed picks cuts cut updated range shape_of words array_words weight heaviest heaviest_of all_words all_array_words same_sizes all_same_sizes is_unmet
update_row = refl

update_size : made false Unmet_shape Make_update at (rows 2 ((1 ∷ 2 ∷ []) ∷ (3 ∷ 4 ∷ []) ∷ []) ∷ i64 0 ∷ ints (7 ∷ []) ∷ []) ≡ failure kind.Size at
unfolding job made array indexed picks cuts cut updated range shape_of words array_words weight heaviest heaviest_of all_words all_array_words same_sizes all_same_sizes is_unmet
update_size = refl

range_below : made false Unmet_shape (Make_range false end.Below) at (i64 2 ∷ i64 5 ∷ []) ≡ Val (3, ints (2 ∷ 3 ∷ 4 ∷ []))
unfolding job made array indexed picks cuts cut updated range shape_of words array_words weight heaviest heaviest_of all_words all_array_words same_sizes all_same_sizes is_unmet
range_below = refl

range_above : made false Unmet_shape (Make_range false end.Above) at (i64 5 ∷ i64 2 ∷ []) ≡ Val (3, ints (5 ∷ 4 ∷ 3 ∷ []))
unfolding job made array indexed picks cuts cut updated range shape_of words array_words weight heaviest heaviest_of all_words all_array_words same_sizes all_same_sizes is_unmet
range_above = refl

range_through : made false Unmet_shape (Make_range true end.Through) at (i64 1 ∷ i64 3 ∷ i64 8 ∷ []) ≡ Val (4, ints (1 ∷ 3 ∷ 5 ∷ 7 ∷ []))
unfolding job made array indexed picks cuts cut updated range shape_of words array_words weight heaviest heaviest_of all_words all_array_words same_sizes all_same_sizes is_unmet
range_through = refl

range_none : made false Unmet_shape (Make_range false end.Below) at (i64 2 ∷ i64 2 ∷ []) ≡ Val (0, ints [])
unfolding job made array indexed picks cuts cut updated range shape_of words array_words weight heaviest heaviest_of all_words all_array_words same_sizes all_same_sizes is_unmet
range_none = refl

range_bad : made false Unmet_shape (Make_range false end.Below) at (i64 3 ∷ i64 2 ∷ []) ≡ failure kind.Range at
unfolding job made array indexed picks cuts cut updated range shape_of words array_words weight heaviest heaviest_of all_words all_array_words same_sizes all_same_sizes is_unmet
range_bad = refl

range_still : made false Unmet_shape (Make_range true end.Through) at (i64 1 ∷ i64 1 ∷ i64 8 ∷ []) ≡ failure kind.Range at
unfolding job made array indexed picks cuts cut updated range shape_of words array_words weight heaviest heaviest_of all_words all_array_words same_sizes all_same_sizes is_unmet
range_still = refl

map2_rows : applied prim.Map2 ((ints (4 ∷ 5 ∷ 6 ∷ [])) ∷ ints (1 ∷ 2 ∷ 3 ∷ []) ∷ []) ≡ Val ((i64 4 ∷ i64 1 ∷ []) ∷ (i64 5 ∷ i64 2 ∷ []) ∷ (i64 6 ∷ i64 3 ∷ []) ∷ [])
unfolding job made array indexed picks cuts cut updated range shape_of words array_words weight heaviest heaviest_of all_words all_array_words same_sizes all_same_sizes is_unmet
map2_rows = refl

map2_sizes : applied prim.Map2 ((ints (4 ∷ 5 ∷ 6 ∷ [])) ∷ ints (1 ∷ 2 ∷ []) ∷ []) ≡ failure kind.Size at
unfolding job made array indexed picks cuts cut updated range shape_of words array_words weight heaviest heaviest_of all_words all_array_words same_sizes all_same_sizes is_unmet
map2_sizes = refl

map_ends : ends prim.Map ((ints (4 ∷ 5 ∷ 6 ∷ [])) ∷ []) (i64 1 ∷ i64 2 ∷ i64 3 ∷ []) ≡ Val (3, ints (1 ∷ 2 ∷ 3 ∷ []))
unfolding job made array indexed picks cuts cut updated range shape_of words array_words weight heaviest heaviest_of all_words all_array_words same_sizes all_same_sizes is_unmet
map_ends = refl

map_irregular : ends prim.Map (ints (1 ∷ 2 ∷ []) ∷ []) (ints (1 ∷ []) ∷ ints (1 ∷ 2 ∷ []) ∷ []) ≡ failure kind.Size at
unfolding job made array indexed picks cuts cut updated range shape_of words array_words weight heaviest heaviest_of all_words all_array_words same_sizes all_same_sizes is_unmet
map_irregular = refl

reduce_list : applied prim.Reduce (i64 0 ∷ (ints (4 ∷ 5 ∷ 6 ∷ [])) ∷ []) ≡ Val ((i64 4 ∷ i64 5 ∷ i64 6 ∷ []) ∷ [])
unfolding job made array indexed picks cuts cut updated range shape_of words array_words weight heaviest heaviest_of all_words all_array_words same_sizes all_same_sizes is_unmet
reduce_list = refl

scan_lists : applied prim.Scan (i64 0 ∷ (ints (4 ∷ 5 ∷ 6 ∷ [])) ∷ []) ≡ Val ((i64 4 ∷ []) ∷ (i64 4 ∷ i64 5 ∷ []) ∷ (i64 4 ∷ i64 5 ∷ i64 6 ∷ []) ∷ [])
unfolding job made array indexed picks cuts cut updated range shape_of words array_words weight heaviest heaviest_of all_words all_array_words same_sizes all_same_sizes is_unmet
scan_lists = refl

filter_ends : ends prim.Filter ((ints (4 ∷ 5 ∷ 6 ∷ [])) ∷ []) (truth true ∷ truth false ∷ truth true ∷ []) ≡ Val (3, ints (4 ∷ 6 ∷ []))
unfolding job made array indexed picks cuts cut updated range shape_of words array_words weight heaviest heaviest_of all_words all_array_words same_sizes all_same_sizes is_unmet
filter_ends = refl

partition_ends : ends prim.Partition ((ints (4 ∷ 5 ∷ 6 ∷ [])) ∷ []) (truth false ∷ truth true ∷ truth false ∷ []) ≡ Val (3, pair (ints (5 ∷ [])) (ints (4 ∷ 6 ∷ [])))
unfolding job made array indexed picks cuts cut updated range shape_of words array_words weight heaviest heaviest_of all_words all_array_words same_sizes all_same_sizes is_unmet
partition_ends = refl

scatter_writes : and_then (job false Unmet_shape prim.Scatter at ((ints (4 ∷ 5 ∷ 6 ∷ [])) ∷ ints (2 ∷ 18446744073709551615 ∷ 3 ∷ 2 ∷ []) ∷ ints (7 ∷ 8 ∷ 9 ∷ 10 ∷ []) ∷ [])) of_writes ≡ Val ((2, i64 7) ∷ (2, i64 10) ∷ [])
unfolding job made array indexed picks cuts cut updated range shape_of words array_words weight heaviest heaviest_of all_words all_array_words same_sizes all_same_sizes is_unmet
scatter_writes = refl

scatter_sizes : and_then (job false Unmet_shape prim.Scatter at ((ints (4 ∷ 5 ∷ 6 ∷ [])) ∷ ints (1 ∷ []) ∷ ints (7 ∷ 8 ∷ []) ∷ [])) of_writes ≡ failure kind.Size at
unfolding job made array indexed picks cuts cut updated range shape_of words array_words weight heaviest heaviest_of all_words all_array_words same_sizes all_same_sizes is_unmet
scatter_sizes = refl

histogram_lists : applied prim.ReduceByIndex ((ints (4 ∷ 5 ∷ 6 ∷ [])) ∷ i64 0 ∷ ints (0 ∷ 2 ∷ 0 ∷ 7 ∷ []) ∷ ints (1 ∷ 2 ∷ 3 ∷ 4 ∷ []) ∷ []) ≡ Val ((i64 4 ∷ i64 1 ∷ i64 3 ∷ []) ∷ (i64 5 ∷ []) ∷ (i64 6 ∷ i64 2 ∷ []) ∷ [])
unfolding job made array indexed picks cuts cut updated range shape_of words array_words weight heaviest heaviest_of all_words all_array_words same_sizes all_same_sizes is_unmet
histogram_lists = refl

zipped : gives prim.Zip (ints (1 ∷ 2 ∷ []) ∷ ints (3 ∷ 4 ∷ []) ∷ []) ≡ Val (4, Array_datum (Tuple_shape (shape_and row (shape_and row no_shape))) (datums (pair (i64 1) (i64 3) ∷ pair (i64 2) (i64 4) ∷ [])))
unfolding job made array indexed picks cuts cut updated range shape_of words array_words weight heaviest heaviest_of all_words all_array_words same_sizes all_same_sizes is_unmet
zipped = refl

zip_sizes : gives prim.Zip (ints (1 ∷ 2 ∷ []) ∷ ints (3 ∷ []) ∷ []) ≡ failure kind.Size at
unfolding job made array indexed picks cuts cut updated range shape_of words array_words weight heaviest heaviest_of all_words all_array_words same_sizes all_same_sizes is_unmet
zip_sizes = refl

unzipped : gives prim.Unzip (Array_datum (Tuple_shape (shape_and row (shape_and row no_shape))) (datums (pair (i64 1) (i64 3) ∷ pair (i64 2) (i64 4) ∷ [])) ∷ []) ≡ Val (0, pair (ints (1 ∷ 2 ∷ [])) (ints (3 ∷ 4 ∷ [])))
unfolding job made array indexed picks cuts cut updated range shape_of words array_words weight heaviest heaviest_of all_words all_array_words same_sizes all_same_sizes is_unmet
unzipped = refl

iota : gives prim.Iota (i64 3 ∷ []) ≡ Val (3, ints (0 ∷ 1 ∷ 2 ∷ []))
unfolding job made array indexed picks cuts cut updated range shape_of words array_words weight heaviest heaviest_of all_words all_array_words same_sizes all_same_sizes is_unmet
iota = refl

iota_below : gives prim.Iota (i64 18446744073709551615 ∷ []) ≡ failure kind.Range at
unfolding job made array indexed picks cuts cut updated range shape_of words array_words weight heaviest heaviest_of all_words all_array_words same_sizes all_same_sizes is_unmet
iota_below = refl

replicated : gives prim.Replicate (i64 2 ∷ ints (1 ∷ 2 ∷ []) ∷ []) ≡ Val (4, rows 2 ((1 ∷ 2 ∷ []) ∷ (1 ∷ 2 ∷ []) ∷ []))
unfolding job made array indexed picks cuts cut updated range shape_of words array_words weight heaviest heaviest_of all_words all_array_words same_sizes all_same_sizes is_unmet
replicated = refl

replicate_heavy : gives prim.Replicate (i64 33554433 ∷ i64 1 ∷ []) ≡ failure kind.TooLarge at
unfolding job made array indexed picks cuts cut updated range shape_of words array_words weight heaviest heaviest_of all_words all_array_words same_sizes all_same_sizes is_unmet
replicate_heavy = refl

tabulated : ends prim.Tabulate (i64 2 ∷ []) (i64 7 ∷ i64 8 ∷ []) ≡ Val (4, ints (7 ∷ 8 ∷ []))
unfolding job made array indexed picks cuts cut updated range shape_of words array_words weight heaviest heaviest_of all_words all_array_words same_sizes all_same_sizes is_unmet
tabulated = refl

indices : gives prim.Indices ((ints (4 ∷ 5 ∷ 6 ∷ [])) ∷ []) ≡ Val (3, ints (0 ∷ 1 ∷ 2 ∷ []))
unfolding job made array indexed picks cuts cut updated range shape_of words array_words weight heaviest heaviest_of all_words all_array_words same_sizes all_same_sizes is_unmet
indices = refl

size : gives prim.Length ((ints (4 ∷ 5 ∷ 6 ∷ [])) ∷ []) ≡ Val (0, i64 3)
unfolding job made array indexed picks cuts cut updated range shape_of words array_words weight heaviest heaviest_of all_words all_array_words same_sizes all_same_sizes is_unmet
size = refl

null : gives prim.Null ((ints (4 ∷ 5 ∷ 6 ∷ [])) ∷ []) ≡ Val (0, truth false)
unfolding job made array indexed picks cuts cut updated range shape_of words array_words weight heaviest heaviest_of all_words all_array_words same_sizes all_same_sizes is_unmet
null = refl

head : gives prim.Head ((ints (4 ∷ 5 ∷ 6 ∷ [])) ∷ []) ≡ Val (0, i64 4)
unfolding job made array indexed picks cuts cut updated range shape_of words array_words weight heaviest heaviest_of all_words all_array_words same_sizes all_same_sizes is_unmet
head = refl

head_none : gives prim.Head (ints [] ∷ []) ≡ failure kind.Bounds at
unfolding job made array indexed picks cuts cut updated range shape_of words array_words weight heaviest heaviest_of all_words all_array_words same_sizes all_same_sizes is_unmet
head_none = refl

final : gives prim.Last ((ints (4 ∷ 5 ∷ 6 ∷ [])) ∷ []) ≡ Val (0, i64 6)
unfolding job made array indexed picks cuts cut updated range shape_of words array_words weight heaviest heaviest_of all_words all_array_words same_sizes all_same_sizes is_unmet
final = refl

front : gives prim.Init ((ints (4 ∷ 5 ∷ 6 ∷ [])) ∷ []) ≡ Val (0, ints (4 ∷ 5 ∷ []))
unfolding job made array indexed picks cuts cut updated range shape_of words array_words weight heaviest heaviest_of all_words all_array_words same_sizes all_same_sizes is_unmet
front = refl

rest : gives prim.Tail ((ints (4 ∷ 5 ∷ 6 ∷ [])) ∷ []) ≡ Val (0, ints (5 ∷ 6 ∷ []))
unfolding job made array indexed picks cuts cut updated range shape_of words array_words weight heaviest heaviest_of all_words all_array_words same_sizes all_same_sizes is_unmet
rest = refl

taken : gives prim.Take (i64 2 ∷ (ints (4 ∷ 5 ∷ 6 ∷ [])) ∷ []) ≡ Val (0, ints (4 ∷ 5 ∷ []))
unfolding job made array indexed picks cuts cut updated range shape_of words array_words weight heaviest heaviest_of all_words all_array_words same_sizes all_same_sizes is_unmet
taken = refl

take_past : gives prim.Take (i64 4 ∷ (ints (4 ∷ 5 ∷ 6 ∷ [])) ∷ []) ≡ failure kind.Bounds at
unfolding job made array indexed picks cuts cut updated range shape_of words array_words weight heaviest heaviest_of all_words all_array_words same_sizes all_same_sizes is_unmet
take_past = refl

dropped : gives prim.Drop (i64 2 ∷ (ints (4 ∷ 5 ∷ 6 ∷ [])) ∷ []) ≡ Val (0, ints (6 ∷ []))
unfolding job made array indexed picks cuts cut updated range shape_of words array_words weight heaviest heaviest_of all_words all_array_words same_sizes all_same_sizes is_unmet
dropped = refl

reversed : gives prim.Reverse ((ints (4 ∷ 5 ∷ 6 ∷ [])) ∷ []) ≡ Val (3, ints (6 ∷ 5 ∷ 4 ∷ []))
unfolding job made array indexed picks cuts cut updated range shape_of words array_words weight heaviest heaviest_of all_words all_array_words same_sizes all_same_sizes is_unmet
reversed = refl

rotated : gives prim.Rotate (i64 1 ∷ (ints (4 ∷ 5 ∷ 6 ∷ [])) ∷ []) ≡ Val (3, ints (5 ∷ 6 ∷ 4 ∷ []))
unfolding job made array indexed picks cuts cut updated range shape_of words array_words weight heaviest heaviest_of all_words all_array_words same_sizes all_same_sizes is_unmet
rotated = refl

rotated_back : gives prim.Rotate (i64 18446744073709551615 ∷ (ints (4 ∷ 5 ∷ 6 ∷ [])) ∷ []) ≡ Val (3, ints (6 ∷ 4 ∷ 5 ∷ []))
unfolding job made array indexed picks cuts cut updated range shape_of words array_words weight heaviest heaviest_of all_words all_array_words same_sizes all_same_sizes is_unmet
rotated_back = refl

concatenated : gives prim.Concat ((ints (4 ∷ 5 ∷ 6 ∷ [])) ∷ ints (7 ∷ []) ∷ []) ≡ Val (4, ints (4 ∷ 5 ∷ 6 ∷ 7 ∷ []))
unfolding job made array indexed picks cuts cut updated range shape_of words array_words weight heaviest heaviest_of all_words all_array_words same_sizes all_same_sizes is_unmet
concatenated = refl

flattened : gives prim.Flatten (rows 2 ((1 ∷ 2 ∷ []) ∷ (3 ∷ 4 ∷ []) ∷ []) ∷ []) ≡ Val (4, ints (1 ∷ 2 ∷ 3 ∷ 4 ∷ []))
unfolding job made array indexed picks cuts cut updated range shape_of words array_words weight heaviest heaviest_of all_words all_array_words same_sizes all_same_sizes is_unmet
flattened = refl

unflattened : gives prim.Unflatten (i64 2 ∷ i64 2 ∷ ints (1 ∷ 2 ∷ 3 ∷ 4 ∷ []) ∷ []) ≡ Val (4, rows 2 ((1 ∷ 2 ∷ []) ∷ (3 ∷ 4 ∷ []) ∷ []))
unfolding job made array indexed picks cuts cut updated range shape_of words array_words weight heaviest heaviest_of all_words all_array_words same_sizes all_same_sizes is_unmet
unflattened = refl

unflatten_size : gives prim.Unflatten (i64 2 ∷ i64 3 ∷ ints (1 ∷ 2 ∷ 3 ∷ 4 ∷ []) ∷ []) ≡ failure kind.Size at
unfolding job made array indexed picks cuts cut updated range shape_of words array_words weight heaviest heaviest_of all_words all_array_words same_sizes all_same_sizes is_unmet
unflatten_size = refl

transposed : gives prim.Transpose (rows 3 ((1 ∷ 2 ∷ 3 ∷ []) ∷ (4 ∷ 5 ∷ 6 ∷ []) ∷ []) ∷ []) ≡ Val (0, rows 2 ((1 ∷ 4 ∷ []) ∷ (2 ∷ 5 ∷ []) ∷ (3 ∷ 6 ∷ []) ∷ []))
unfolding job made array indexed picks cuts cut updated range shape_of words array_words weight heaviest heaviest_of all_words all_array_words same_sizes all_same_sizes is_unmet
transposed = refl

transposed_flat : gives prim.Transpose (rows 0 ([] ∷ [] ∷ []) ∷ []) ≡ Val (0, Array_datum (Array_shape 2 row) no_datum)
unfolding job made array indexed picks cuts cut updated range shape_of words array_words weight heaviest heaviest_of all_words all_array_words same_sizes all_same_sizes is_unmet
transposed_flat = refl

copied : gives prim.Copy ((ints (4 ∷ 5 ∷ 6 ∷ [])) ∷ []) ≡ Val (3, ints (4 ∷ 5 ∷ 6 ∷ []))
unfolding job made array indexed picks cuts cut updated range shape_of words array_words weight heaviest heaviest_of all_words all_array_words same_sizes all_same_sizes is_unmet
copied = refl

-- ---- all elements of an array, and none

summed : gives (prim.Fold folding.Sum I64) (ints (3 ∷ 18446744073709551615 ∷ 5 ∷ []) ∷ []) ≡ Val (0, i64 7)
unfolding job made array shape_of words array_words weight binary_result result_of
summed = refl

summed_none : gives (prim.Fold folding.Sum I64) (ints [] ∷ []) ≡ Val (0, i64 0)
unfolding job made array shape_of words array_words weight binary_result result_of
summed_none = refl

multiplied : gives (prim.Fold folding.Product I64) (ints (3 ∷ 18446744073709551615 ∷ 5 ∷ []) ∷ []) ≡ Val (0, i64 18446744073709551601)
unfolding job made array shape_of words array_words weight binary_result result_of
multiplied = refl

multiplied_none : gives (prim.Fold folding.Product I64) (ints [] ∷ []) ≡ Val (0, i64 1)
unfolding job made array shape_of words array_words weight binary_result result_of
multiplied_none = refl

least : gives (prim.Fold folding.Minimum I64) (ints (3 ∷ 18446744073709551615 ∷ 5 ∷ []) ∷ []) ≡ Val (0, i64 18446744073709551615)
unfolding job made array shape_of words array_words weight binary_result result_of
least = refl

least_none : gives (prim.Fold folding.Minimum I64) (ints [] ∷ []) ≡ Val (0, i64 9223372036854775807)
unfolding job made array shape_of words array_words weight binary_result result_of
least_none = refl

greatest : gives (prim.Fold folding.Maximum I64) (ints (3 ∷ 18446744073709551615 ∷ 5 ∷ []) ∷ []) ≡ Val (0, i64 5)
unfolding job made array shape_of words array_words weight binary_result result_of
greatest = refl

greatest_none : gives (prim.Fold folding.Maximum I64) (ints [] ∷ []) ≡ Val (0, i64 9223372036854775808)
unfolding job made array shape_of words array_words weight binary_result result_of
greatest_none = refl
