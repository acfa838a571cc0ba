-- More of what primitives make of small arrays, by computation: their failures, which of two goes before, and arrays without rows.
use Rattle.std.proofs.Common.{◌≡◌, [], ◌∷◌, true, false, refl}
use Rattle.fut_scalar.specs.declared.report.FailKind.TheVariants as kind
use Rattle.fut_ast.specs.declared.node.End.TheVariants as end
use Rattle.fut_flat.specs.declared.act.Part.TheVariants as part
use Rattle.fut_flat.specs.declared.prim.Primitive.TheVariants as prim
use Rattle.fut_meaning.specs.Outcomes.{Val, Wrong, and_then}
use Rattle.fut_value.specs.Data.{Tuple_shape, Array_shape, Unmet_shape, shape_and, no_shape, Datum, Tuple_datum, Array_datum, no_datum, datum_and, datums, shape_of, words, all_words, array_words, all_array_words, weight, heaviest, heaviest_of, same_sizes, all_same_sizes, is_unmet}
use Rattle.fut_meaning.specs.Arrays.{Make_array, Make_index, Make_update, Make_range, made, array, failure, i64, indexed, picks, cuts, cut, updated, range}
use Rattle.fut_meaning.specs.Jobs.{job}
use Rattle.fut_meaning.proofs.Array_examples.{at, row, ints, rows, truth, done, ended, of_job, gives, ends, applied}

abbrev triple : Datum → Datum → Datum → Datum
triple d e f = Tuple_datum (datum_and d (datum_and e (datum_and f no_datum)))

map3_rows : applied prim.Map3 (ints (1 ∷ []) ∷ ints (2 ∷ []) ∷ ints (3 ∷ []) ∷ []) ≡ Val ((i64 1 ∷ i64 2 ∷ i64 3 ∷ []) ∷ [])
unfolding job made array indexed picks cuts cut updated range shape_of words array_words weight heaviest heaviest_of all_words all_array_words same_sizes all_same_sizes is_unmet
map3_rows = refl

map4_rows : applied prim.Map4 (ints (1 ∷ []) ∷ ints (2 ∷ []) ∷ ints (3 ∷ []) ∷ ints (4 ∷ []) ∷ []) ≡ Val ((i64 1 ∷ i64 2 ∷ i64 3 ∷ i64 4 ∷ []) ∷ [])
unfolding job made array indexed picks cuts cut updated range shape_of words array_words weight heaviest heaviest_of all_words all_array_words same_sizes all_same_sizes is_unmet
map4_rows = refl

map5_rows : applied prim.Map5 (ints (1 ∷ []) ∷ ints (2 ∷ []) ∷ ints (3 ∷ []) ∷ ints (4 ∷ []) ∷ ints (5 ∷ []) ∷ []) ≡ Val ((i64 1 ∷ i64 2 ∷ i64 3 ∷ i64 4 ∷ i64 5 ∷ []) ∷ [])
unfolding job made array indexed picks cuts cut updated range shape_of words array_words weight heaviest heaviest_of all_words all_array_words same_sizes all_same_sizes is_unmet
map5_rows = refl

map_of_none : ends prim.Map (ints [] ∷ []) [] ≡ Val (0, Array_datum Unmet_shape no_datum)
unfolding job made array indexed picks cuts cut updated range shape_of words array_words weight heaviest heaviest_of all_words all_array_words same_sizes all_same_sizes is_unmet
map_of_none = refl

map_to_rows : ends prim.Map (ints (1 ∷ 2 ∷ []) ∷ []) (ints (1 ∷ []) ∷ ints (2 ∷ []) ∷ []) ≡ Val (2, rows 1 ((1 ∷ []) ∷ (2 ∷ []) ∷ []))
unfolding job made array indexed picks cuts cut updated range shape_of words array_words weight heaviest heaviest_of all_words all_array_words same_sizes all_same_sizes is_unmet
map_to_rows = refl

reduce_ends : ends prim.Reduce (i64 0 ∷ ints (4 ∷ 5 ∷ []) ∷ []) (i64 9 ∷ []) ≡ Val (0, i64 9)
unfolding job made array indexed picks cuts cut updated range shape_of words array_words weight heaviest heaviest_of all_words all_array_words same_sizes all_same_sizes is_unmet
reduce_ends = refl

reduce_to_row : ends prim.Reduce (ints (0 ∷ 0 ∷ []) ∷ rows 2 ((1 ∷ 2 ∷ []) ∷ []) ∷ []) (ints (1 ∷ 2 ∷ []) ∷ []) ≡ Val (2, ints (1 ∷ 2 ∷ []))
unfolding job made array indexed picks cuts cut updated range shape_of words array_words weight heaviest heaviest_of all_words all_array_words same_sizes all_same_sizes is_unmet
reduce_to_row = refl

reduce_comm_list : applied prim.ReduceComm (i64 0 ∷ ints (4 ∷ 5 ∷ []) ∷ []) ≡ Val ((i64 4 ∷ i64 5 ∷ []) ∷ [])
unfolding job made array indexed picks cuts cut updated range shape_of words array_words weight heaviest heaviest_of all_words all_array_words same_sizes all_same_sizes is_unmet
reduce_comm_list = refl

scan_ends : ends prim.Scan (i64 0 ∷ ints (4 ∷ 5 ∷ []) ∷ []) (i64 4 ∷ i64 9 ∷ []) ≡ Val (2, ints (4 ∷ 9 ∷ []))
unfolding job made array indexed picks cuts cut updated range shape_of words array_words weight heaviest heaviest_of all_words all_array_words same_sizes all_same_sizes is_unmet
scan_ends = refl

scan_irregular : ends prim.Scan (ints [] ∷ rows 1 ((4 ∷ []) ∷ (5 ∷ []) ∷ []) ∷ []) (ints (4 ∷ []) ∷ ints (4 ∷ 5 ∷ []) ∷ []) ≡ failure kind.Size at
unfolding job made array indexed picks cuts cut updated range shape_of words array_words weight heaviest heaviest_of all_words all_array_words same_sizes all_same_sizes is_unmet
scan_irregular = refl

filter_none : ends prim.Filter (rows 2 [] ∷ []) [] ≡ Val (0, rows 2 [])
unfolding job made array indexed picks cuts cut updated range shape_of words array_words weight heaviest heaviest_of all_words all_array_words same_sizes all_same_sizes is_unmet
filter_none = refl

scatter_ends : ends prim.Scatter (ints (4 ∷ 5 ∷ []) ∷ ints (1 ∷ []) ∷ ints (7 ∷ []) ∷ []) (i64 4 ∷ i64 7 ∷ []) ≡ Val (0, ints (4 ∷ 7 ∷ []))
unfolding job made array indexed picks cuts cut updated range shape_of words array_words weight heaviest heaviest_of all_words all_array_words same_sizes all_same_sizes is_unmet
scatter_ends = refl

scatter_rows : ends prim.Scatter (rows 1 ((4 ∷ []) ∷ []) ∷ ints (0 ∷ []) ∷ rows 2 ((7 ∷ 8 ∷ []) ∷ []) ∷ []) [] ≡ failure kind.Size at
unfolding job made array indexed picks cuts cut updated range shape_of words array_words weight heaviest heaviest_of all_words all_array_words same_sizes all_same_sizes is_unmet
scatter_rows = refl

histogram_ends : ends prim.ReduceByIndex (ints (4 ∷ 5 ∷ []) ∷ i64 0 ∷ ints (1 ∷ []) ∷ ints (7 ∷ []) ∷ []) (i64 4 ∷ i64 12 ∷ []) ≡ Val (0, ints (4 ∷ 12 ∷ []))
unfolding job made array indexed picks cuts cut updated range shape_of words array_words weight heaviest heaviest_of all_words all_array_words same_sizes all_same_sizes is_unmet
histogram_ends = refl

histogram_sizes : applied prim.ReduceByIndex (ints (4 ∷ 5 ∷ []) ∷ i64 0 ∷ ints (1 ∷ []) ∷ ints [] ∷ []) ≡ failure kind.Size at
unfolding job made array indexed picks cuts cut updated range shape_of words array_words weight heaviest heaviest_of all_words all_array_words same_sizes all_same_sizes is_unmet
histogram_sizes = refl

zip3_rows : gives prim.Zip3 (ints (1 ∷ []) ∷ ints (2 ∷ []) ∷ ints (3 ∷ []) ∷ []) ≡ Val (3, Array_datum (Tuple_shape (shape_and row (shape_and row (shape_and row no_shape)))) (datums (triple (i64 1) (i64 2) (i64 3) ∷ [])))
unfolding job made array indexed picks cuts cut updated range shape_of words array_words weight heaviest heaviest_of all_words all_array_words same_sizes all_same_sizes is_unmet
zip3_rows = refl

zip_of_none : gives prim.Zip (ints [] ∷ rows 2 [] ∷ []) ≡ Val (0, Array_datum (Tuple_shape (shape_and row (shape_and (Array_shape 2 row) no_shape))) no_datum)
unfolding job made array indexed picks cuts cut updated range shape_of words array_words weight heaviest heaviest_of all_words all_array_words same_sizes all_same_sizes is_unmet
zip_of_none = refl

unzip3_rows : gives prim.Unzip3 (Array_datum (Tuple_shape (shape_and row (shape_and row (shape_and row no_shape)))) (datums (triple (i64 1) (i64 2) (i64 3) ∷ [])) ∷ []) ≡ Val (0, triple (ints (1 ∷ [])) (ints (2 ∷ [])) (ints (3 ∷ [])))
unfolding job made array indexed picks cuts cut updated range shape_of words array_words weight heaviest heaviest_of all_words all_array_words same_sizes all_same_sizes is_unmet
unzip3_rows = refl

null_none : gives prim.Null (ints [] ∷ []) ≡ Val (0, truth true)
unfolding job made array indexed picks cuts cut updated range shape_of words array_words weight heaviest heaviest_of all_words all_array_words same_sizes all_same_sizes is_unmet
null_none = refl

last_none : gives prim.Last (ints [] ∷ []) ≡ failure kind.Bounds at
unfolding job made array indexed picks cuts cut updated range shape_of words array_words weight heaviest heaviest_of all_words all_array_words same_sizes all_same_sizes is_unmet
last_none = refl

init_none : gives prim.Init (ints [] ∷ []) ≡ failure kind.Bounds at
unfolding job made array indexed picks cuts cut updated range shape_of words array_words weight heaviest heaviest_of all_words all_array_words same_sizes all_same_sizes is_unmet
init_none = refl

tail_none : gives prim.Tail (ints [] ∷ []) ≡ failure kind.Bounds at
unfolding job made array indexed picks cuts cut updated range shape_of words array_words weight heaviest heaviest_of all_words all_array_words same_sizes all_same_sizes is_unmet
tail_none = refl

take_below : gives prim.Take (i64 18446744073709551615 ∷ ints (4 ∷ []) ∷ []) ≡ failure kind.Bounds at
unfolding job made array indexed picks cuts cut updated range shape_of words array_words weight heaviest heaviest_of all_words all_array_words same_sizes all_same_sizes is_unmet
take_below = refl

take_all : gives prim.Take (i64 1 ∷ ints (4 ∷ []) ∷ []) ≡ Val (0, ints (4 ∷ []))
unfolding job made array indexed picks cuts cut updated range shape_of words array_words weight heaviest heaviest_of all_words all_array_words same_sizes all_same_sizes is_unmet
take_all = refl

drop_past : gives prim.Drop (i64 2 ∷ ints (4 ∷ []) ∷ []) ≡ failure kind.Bounds at
unfolding job made array indexed picks cuts cut updated range shape_of words array_words weight heaviest heaviest_of all_words all_array_words same_sizes all_same_sizes is_unmet
drop_past = refl

drop_all : gives prim.Drop (i64 1 ∷ ints (4 ∷ []) ∷ []) ≡ Val (0, ints [])
unfolding job made array indexed picks cuts cut updated range shape_of words array_words weight heaviest heaviest_of all_words all_array_words same_sizes all_same_sizes is_unmet
drop_all = refl

rotated_none : gives prim.Rotate (i64 5 ∷ ints [] ∷ []) ≡ Val (0, ints [])
unfolding job made array indexed picks cuts cut updated range shape_of words array_words weight heaviest heaviest_of all_words all_array_words same_sizes all_same_sizes is_unmet
rotated_none = refl

rotated_around : gives prim.Rotate (i64 7 ∷ ints (4 ∷ 5 ∷ 6 ∷ []) ∷ []) ≡ Val (3, ints (5 ∷ 6 ∷ 4 ∷ []))
unfolding job made array indexed picks cuts cut updated range shape_of words array_words weight heaviest heaviest_of all_words all_array_words same_sizes all_same_sizes is_unmet
rotated_around = refl

concat_rows : gives prim.Concat (rows 1 ((4 ∷ []) ∷ []) ∷ rows 2 ((5 ∷ 6 ∷ []) ∷ []) ∷ []) ≡ failure kind.Size at
unfolding job made array indexed picks cuts cut updated range shape_of words array_words weight heaviest heaviest_of all_words all_array_words same_sizes all_same_sizes is_unmet
concat_rows = refl

concat_none : gives prim.Concat (Array_datum Unmet_shape no_datum ∷ rows 2 ((5 ∷ 6 ∷ []) ∷ []) ∷ []) ≡ Val (2, rows 2 ((5 ∷ 6 ∷ []) ∷ []))
unfolding job made array indexed picks cuts cut updated range shape_of words array_words weight heaviest heaviest_of all_words all_array_words same_sizes all_same_sizes is_unmet
concat_none = refl

flatten_none : gives prim.Flatten (rows 2 [] ∷ []) ≡ Val (0, ints [])
unfolding job made array indexed picks cuts cut updated range shape_of words array_words weight heaviest heaviest_of all_words all_array_words same_sizes all_same_sizes is_unmet
flatten_none = refl

transpose_none : gives prim.Transpose (rows 2 [] ∷ []) ≡ Val (0, rows 0 ([] ∷ [] ∷ []))
unfolding job made array indexed picks cuts cut updated range shape_of words array_words weight heaviest heaviest_of all_words all_array_words same_sizes all_same_sizes is_unmet
transpose_none = refl

copied_scalar : gives prim.Copy (i64 4 ∷ []) ≡ Val (0, i64 4)
unfolding job made array indexed picks cuts cut updated range shape_of words array_words weight heaviest heaviest_of all_words all_array_words same_sizes all_same_sizes is_unmet
copied_scalar = refl

iota_heavy : gives prim.Iota (i64 33554433 ∷ []) ≡ failure kind.TooLarge at
unfolding job made array indexed picks cuts cut updated range shape_of words array_words weight heaviest heaviest_of all_words all_array_words same_sizes all_same_sizes is_unmet
iota_heavy = refl

iota_below_goes_before : gives prim.Iota (i64 18446744073709551615 ∷ []) ≡ failure kind.Range at
unfolding job made array indexed picks cuts cut updated range shape_of words array_words weight heaviest heaviest_of all_words all_array_words same_sizes all_same_sizes is_unmet
iota_below_goes_before = refl

replicate_below : gives prim.Replicate (i64 18446744073709551615 ∷ i64 1 ∷ []) ≡ failure kind.Range at
unfolding job made array indexed picks cuts cut updated range shape_of words array_words weight heaviest heaviest_of all_words all_array_words same_sizes all_same_sizes is_unmet
replicate_below = refl

replicate_of_none : gives prim.Replicate (i64 33554433 ∷ ints [] ∷ []) ≡ failure kind.TooLarge at
unfolding job made array indexed picks cuts cut updated range shape_of words array_words weight heaviest heaviest_of all_words all_array_words same_sizes all_same_sizes is_unmet
replicate_of_none = refl

replicate_rows : gives prim.Replicate (i64 16777217 ∷ ints (1 ∷ 2 ∷ []) ∷ []) ≡ failure kind.TooLarge at
unfolding job made array indexed picks cuts cut updated range shape_of words array_words weight heaviest heaviest_of all_words all_array_words same_sizes all_same_sizes is_unmet
replicate_rows = refl

tabulate_below : applied prim.Tabulate (i64 18446744073709551615 ∷ []) ≡ failure kind.Range at
unfolding job made array indexed picks cuts cut updated range shape_of words array_words weight heaviest heaviest_of all_words all_array_words same_sizes all_same_sizes is_unmet
tabulate_below = refl

tabulate_rows : applied prim.Tabulate (i64 2 ∷ []) ≡ Val ((i64 0 ∷ []) ∷ (i64 1 ∷ []) ∷ [])
unfolding job made array indexed picks cuts cut updated range shape_of words array_words weight heaviest heaviest_of all_words all_array_words same_sizes all_same_sizes is_unmet
tabulate_rows = refl

tabulate_irregular : ends prim.Tabulate (i64 2 ∷ []) (ints [] ∷ ints (1 ∷ []) ∷ []) ≡ failure kind.Size at
unfolding job made array indexed picks cuts cut updated range shape_of words array_words weight heaviest heaviest_of all_words all_array_words same_sizes all_same_sizes is_unmet
tabulate_irregular = refl

tabulate_of_none : ends prim.Tabulate (i64 0 ∷ []) [] ≡ Val (0, Array_datum Unmet_shape no_datum)
unfolding job made array indexed picks cuts cut updated range shape_of words array_words weight heaviest heaviest_of all_words all_array_words same_sizes all_same_sizes is_unmet
tabulate_of_none = refl

unflatten_first_below : gives prim.Unflatten (i64 18446744073709551615 ∷ i64 18446744073709551615 ∷ ints (1 ∷ []) ∷ []) ≡ failure kind.Range at
unfolding job made array indexed picks cuts cut updated range shape_of words array_words weight heaviest heaviest_of all_words all_array_words same_sizes all_same_sizes is_unmet
unflatten_first_below = refl

unflatten_second_below : gives prim.Unflatten (i64 0 ∷ i64 18446744073709551615 ∷ ints (1 ∷ []) ∷ []) ≡ failure kind.Range at
unfolding job made array indexed picks cuts cut updated range shape_of words array_words weight heaviest heaviest_of all_words all_array_words same_sizes all_same_sizes is_unmet
unflatten_second_below = refl

unflatten_size_goes_before : gives prim.Unflatten (i64 33554433 ∷ i64 1 ∷ ints (1 ∷ []) ∷ []) ≡ failure kind.Size at
unfolding job made array indexed picks cuts cut updated range shape_of words array_words weight heaviest heaviest_of all_words all_array_words same_sizes all_same_sizes is_unmet
unflatten_size_goes_before = refl

unflatten_heavy : gives prim.Unflatten (i64 33554433 ∷ i64 0 ∷ ints [] ∷ []) ≡ failure kind.TooLarge at
unfolding job made array indexed picks cuts cut updated range shape_of words array_words weight heaviest heaviest_of all_words all_array_words same_sizes all_same_sizes is_unmet
unflatten_heavy = refl

unflatten_of_none : gives prim.Unflatten (i64 0 ∷ i64 33554433 ∷ ints [] ∷ []) ≡ Val (0, Array_datum (Array_shape 33554433 row) no_datum)
unfolding job made array indexed picks cuts cut updated range shape_of words array_words weight heaviest heaviest_of all_words all_array_words same_sizes all_same_sizes is_unmet
unflatten_of_none = refl

transpose_heavy : gives prim.Transpose (Array_datum (Array_shape 33554433 row) no_datum ∷ []) ≡ failure kind.TooLarge at
unfolding job made array indexed picks cuts cut updated range shape_of words array_words weight heaviest heaviest_of all_words all_array_words same_sizes all_same_sizes is_unmet
transpose_heavy = refl

literal_heavy : made false Unmet_shape Make_array at (Array_datum (Array_shape 33554433 (Array_shape 0 row)) no_datum ∷ []) ≡ Val (0, Array_datum (Array_shape 0 (Array_shape 33554433 (Array_shape 0 row))) (datums (Array_datum (Array_shape 33554433 (Array_shape 0 row)) no_datum ∷ [])))
unfolding job made array indexed picks cuts cut updated range shape_of words array_words weight heaviest heaviest_of all_words all_array_words same_sizes all_same_sizes is_unmet
literal_heavy = refl

range_heavy : made false Unmet_shape (Make_range false end.Below) at (i64 0 ∷ i64 33554433 ∷ []) ≡ failure kind.TooLarge at
unfolding job made array indexed picks cuts cut updated range shape_of words array_words weight heaviest heaviest_of all_words all_array_words same_sizes all_same_sizes is_unmet
range_heavy = refl

range_past_its_end : made false Unmet_shape (Make_range true end.Below) at (i64 0 ∷ i64 5 ∷ i64 3 ∷ []) ≡ Val (1, ints (0 ∷ []))
unfolding job made array indexed picks cuts cut updated range shape_of words array_words weight heaviest heaviest_of all_words all_array_words same_sizes all_same_sizes is_unmet
range_past_its_end = refl

range_to_its_start : made false Unmet_shape (Make_range true end.Through) at (i64 4 ∷ i64 5 ∷ i64 4 ∷ []) ≡ Val (1, ints (4 ∷ []))
unfolding job made array indexed picks cuts cut updated range shape_of words array_words weight heaviest heaviest_of all_words all_array_words same_sizes all_same_sizes is_unmet
range_to_its_start = refl

range_down_to_its_start : made false Unmet_shape (Make_range false end.Through) at (i64 5 ∷ i64 4 ∷ []) ≡ failure kind.Range at
unfolding job made array indexed picks cuts cut updated range shape_of words array_words weight heaviest heaviest_of all_words all_array_words same_sizes all_same_sizes is_unmet
range_down_to_its_start = refl

index_of_rows_that_are_missing : made false Unmet_shape (Make_index (part.Slice false false ∷ part.At ∷ [])) at (rows 2 [] ∷ i64 2 ∷ []) ≡ failure kind.Bounds at
unfolding job made array indexed picks cuts cut updated range shape_of words array_words weight heaviest heaviest_of all_words all_array_words same_sizes all_same_sizes is_unmet
index_of_rows_that_are_missing = refl

update_past_goes_before : made false Unmet_shape Make_update at (rows 1 ((4 ∷ []) ∷ []) ∷ i64 1 ∷ ints [] ∷ []) ≡ failure kind.Bounds at
unfolding job made array indexed picks cuts cut updated range shape_of words array_words weight heaviest heaviest_of all_words all_array_words same_sizes all_same_sizes is_unmet
update_past_goes_before = refl

-- ---- where nothing is to misfit

literal_misfits : made true Unmet_shape Make_array at (ints (1 ∷ 2 ∷ []) ∷ ints (3 ∷ []) ∷ []) ≡ Wrong
unfolding job made array indexed picks cuts cut updated range shape_of words array_words weight heaviest heaviest_of all_words all_array_words same_sizes all_same_sizes is_unmet
literal_misfits = refl

update_misfits : made true Unmet_shape Make_update at (rows 1 ((4 ∷ []) ∷ []) ∷ i64 0 ∷ ints [] ∷ []) ≡ Wrong
unfolding job made array indexed picks cuts cut updated range shape_of words array_words weight heaviest heaviest_of all_words all_array_words same_sizes all_same_sizes is_unmet
update_misfits = refl

map2_misfits : and_then (job true Unmet_shape prim.Map2 at (ints (4 ∷ []) ∷ ints [] ∷ [])) of_job ≡ Wrong
unfolding job made array indexed picks cuts cut updated range shape_of words array_words weight heaviest heaviest_of all_words all_array_words same_sizes all_same_sizes is_unmet
map2_misfits = refl

reduce_misfits : and_then (job true Unmet_shape prim.Reduce at (ints [] ∷ rows 1 [] ∷ [])) of_job ≡ Wrong
unfolding job made array indexed picks cuts cut updated range shape_of words array_words weight heaviest heaviest_of all_words all_array_words same_sizes all_same_sizes is_unmet
reduce_misfits = refl

concat_misfits : and_then (job true Unmet_shape prim.Concat at (rows 1 [] ∷ rows 2 [] ∷ [])) done ≡ Wrong
unfolding job made array indexed picks cuts cut updated range shape_of words array_words weight heaviest heaviest_of all_words all_array_words same_sizes all_same_sizes is_unmet
concat_misfits = refl

concat_fits : and_then (job true Unmet_shape prim.Concat at (Array_datum Unmet_shape no_datum ∷ rows 2 [] ∷ [])) done ≡ Val (0, rows 2 [])
unfolding job made array indexed picks cuts cut updated range shape_of words array_words weight heaviest heaviest_of all_words all_array_words same_sizes all_same_sizes is_unmet
concat_fits = refl

unflatten_is_asked : and_then (job true Unmet_shape prim.Unflatten at (i64 2 ∷ i64 3 ∷ ints (1 ∷ []) ∷ [])) done ≡ failure kind.Size at
unfolding job made array indexed picks cuts cut updated range shape_of words array_words weight heaviest heaviest_of all_words all_array_words same_sizes all_same_sizes is_unmet
unflatten_is_asked = refl

rows_are_told : and_then (job true (Array_shape 3 row) prim.Map at (ints [] ∷ [])) (ended []) ≡ Val (0, rows 3 [])
unfolding job made array indexed picks cuts cut updated range shape_of words array_words weight heaviest heaviest_of all_words all_array_words same_sizes all_same_sizes is_unmet
rows_are_told = refl
