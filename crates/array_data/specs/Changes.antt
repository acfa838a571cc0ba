-- Rows of which single ones are found and replaced.
use Rattle.std.specs.Prelude.{◌≡◌, ℕ, false, List, slice_get, slice_set, Option, Some, None, Result, Ok, Err}
use Rattle.fut_scalar.specs.declared.place.Place.{Place}
use Rattle.fut_scalar.specs.declared.report.Report.{Report}
use Rattle.fut_value.specs.Data.{Shape, Datum}
use Rattle.fut_meaning.specs.Jobs.{in_place_of}
use Rattle.fut_meaning.specs.Outcomes.{Val, Fail}
use Rattle.array_data.specs.declared.data.Data.{Data}
use Rattle.array_data.specs.declared.stop.Stop.{Stop}
use Rattle.array_data.specs.declared.stop.Stop.TheVariants.{Failed, Memory}
use Rattle.array_data.specs.Held.{held}

abbrev pub as_found : Result (Option Data) Stop → Result (Option Datum) Stop
as_found (Ok (Some d)) = Ok (Some (held d))
as_found (Ok None) = Ok None
as_found (Err e) = Err e

-- the row at an index, where there is one
pub data Found (ds : List Datum) (at : ℕ) : Result (Option Datum) Stop → Type 0 where
  found : {o : Option Datum} → slice_get ds at ≡ o → Found ds at (Ok o)
  not_found : Found ds at (Err Memory)

-- a row in the place of one
pub data Replaced (at : ℕ) (d : Datum) (ds ds' : List Datum) : Result (Unit {0}) Stop → Type 0 where
  replaced : ds' ≡ slice_set ds at d → Replaced at d ds ds' (Ok tt)
  not_replaced : Replaced at d ds ds' (Err Memory)

-- the row at an index, which is taken out: another one is to be put there
pub data Taken_out (at : ℕ) (ds ds' : List Datum) : Result Datum Stop → Type 0 where
  taken_out : {e : Datum} → slice_get ds at ≡ Some e → ((d : Datum) → slice_set ds' at d ≡ slice_set ds at d) → Taken_out at ds ds' (Ok e)
  not_taken_out : Taken_out at ds ds' (Err Memory)

-- an array of other rows, which have to be like its own; it counts nothing
pub data Stands_in (at : Place) (row : Shape) (ds : List Datum) : Result Datum Stop → Type 0 where
  stands_in : {d : Datum} → in_place_of false at row ds ≡ Val (0, d) → Stands_in at row ds (Ok d)
  misfits : {r : Report} → in_place_of false at row ds ≡ Fail r → Stands_in at row ds (Err (Failed r))
  no_memory_for : Stands_in at row ds (Err Memory)
