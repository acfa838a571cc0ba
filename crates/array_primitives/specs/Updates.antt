-- Updates, by what the meaning says of them.
use Rattle.std.specs.Prelude.{ℕ, false, List, [], ◌∷◌, slice_get, slice_set, Result}
use Rattle.fut_scalar.specs.declared.place.Place.{Place}
use Rattle.fut_value.specs.Data.{Datum, Array_datum, datums, shape_of, same_sizes}
use Rattle.fut_meaning.specs.Arrays.{each_out, exact_of, fitting, last_apart, row_or_wrong, updated}
use Rattle.fut_meaning.specs.Outcomes.{Out, Val, Wrong, and_then}
use Rattle.array_data.specs.declared.stop.Stop.{Stop}
use Rattle.array_data.specs.Answers.{Tells}
use Rattle.array_data.specs.Held.{row_shape_in, rows_in}

-- data in place of other data
abbrev pub replaced_by : Place → Datum → Datum → Out Datum
replaced_by at d v = fitting false (same_sizes (shape_of d) (shape_of v)) at (Val v)

-- the data with another one at an index, by the values of its parts
unfoldable pub updated_at : Place → List Datum → Datum → Datum → Out Datum
updated_at at is v d = and_then (each_out exact_of is) (λ zs. updated false at zs v d)

-- an array with other data at an index inside one of its rows
unfoldable pub Updated_inside : Place → Datum → ℕ → List Datum → Datum → Result Datum Stop → Type 0
Updated_inside at d k is v r = Tells (and_then (row_or_wrong (slice_get (rows_in d) k) (updated_at at is v)) (λ e. Val (Array_datum (row_shape_in d) (datums (slice_set (rows_in d) k e))))) r

-- the first data with the last at an index, whose parts lie between
abbrev pub updated_of : Place → List Datum → Out Datum
updated_of at [] = Wrong
updated_of at (d ∷ ds) = and_then (last_apart ds) (λ r. updated_at at r.0 r.1 d)
