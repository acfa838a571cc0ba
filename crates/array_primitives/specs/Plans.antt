-- What is left to do of a primitive, once its data is known.
use Rattle.std.specs.Prelude.{◌≡◌, ℕ, ℤ, ◌<◌, ◌%◌, ◌==◌, false, true, Bool, List, [], ◌∷◌, ◌++◌, length, slice_get, Option, Some, Result, Ok, Err}
use Rattle.fut_scalar.specs.declared.place.Place.{Place}
use Rattle.fut_scalar.specs.declared.report.Report.{Report}
use Rattle.fut_value.specs.Data.{Shape, Unmet_shape, Datum, Array_datum, datums}
use Rattle.fut_meaning.specs.Arrays.{Counted, i64, rows_of, array, all_fresh, fresh, each_out, exact_of}
use Rattle.fut_flat.specs.declared.prim.Primitive.{Primitive}
use Rattle.fut_meaning.specs.Jobs.{job, mapped, Job, Apply_each, Reduce_each, array_of_results, array_of_indices, part_at, places, prefixes_on, truths, counting, sifted, two_arrays, in_place_of, scattered, writes}
use Rattle.fut_meaning.specs.Outcomes.{Out, Val, Fail, Wrong, and_then}
use Rattle.array_data.specs.declared.data.Data.{Data}
use Rattle.array_primitives.specs.declared.jobs.Finish.{Finish}
use Rattle.array_primitives.specs.declared.jobs.Finish.TheVariants as finish
use Rattle.array_primitives.specs.declared.jobs.Plan.{Plan}
use Rattle.array_primitives.specs.declared.jobs.Plan.TheVariants as plan
use Rattle.array_data.specs.declared.stop.Stop.{Stop}
use Rattle.array_data.specs.declared.stop.Stop.TheVariants.{Failed, Stuck, Memory}
use Rattle.array_data.specs.Answers.{each_at, Does}
use Rattle.array_data.specs.Held.{held, rows_in, row_shape_in}
use Rattle.array_primitives.specs.Writes.{Scatters}

-- the truth value of a word
abbrev pub odd : ℕ → Bool
odd w = w % 2 == 1

-- the arguments of a function for one row
abbrev pub source_row : Finish → List Datum → ℕ → Option (List Datum)
source_row finish.Mapped ds i = each_at i ds
source_row (finish.Tabulated n) ds i = Some (i64 i ∷ [])
source_row finish.Kept ds i = each_at i ds
source_row finish.Parted ds i = each_at i ds

-- what is made of its results, where rows that are missing have a shape that is told
abbrev pub made_of : (told : Shape) → Finish → Place → List Datum → List Datum → Out Counted
made_of told finish.Mapped at ds es = array_of_results false told at es
made_of told (finish.Tabulated n) at ds es = array_of_indices false told at n es
made_of told finish.Kept at (d ∷ []) es = truths (λ bs. counting d (Val (Array_datum (row_shape_in d) (datums (sifted true (rows_in d) bs))))) es
made_of told finish.Kept at ds es = Wrong
made_of told finish.Parted at (d ∷ []) es = truths (λ bs. counting d (Val (two_arrays (row_shape_in d) (rows_in d) bs))) es
made_of told finish.Parted at ds es = Wrong

-- these are the rows that the function is applied to
abbrev pub Source_is : Finish → List Datum → List (List Datum) → Type 0
Source_is f ds rows = (i : ℕ) (es : List Datum) → i < length rows → source_row f ds i ≡ Some es → slice_get rows i ≡ Some es

-- the result of a reduction
abbrev pub first_fresh : List Datum → Out Counted
first_fresh ds = and_then (part_at 0 ds) fresh

-- what is reduced at a place: the old row, and those that are written there
abbrev pub and_old : Datum → List Datum → List Datum
and_old v vs = v ∷ vs

-- the reductions at all places
abbrev pub combines : Place → (d ne vs : Datum) → List ℤ → Job
combines at d ne vs zs = Reduce_each true ne (places and_old 0 (rows_in d) (writes (length (rows_in d)) zs (rows_in vs))) (in_place_of false at (row_shape_in d))

-- what is left to do of a job, where a shape is told
pub data Planned (told : Shape) (o : Out Job) (at : Place) (ds : List Datum) : Result Plan Stop → Type 0 where
  plan_done : {v : Data} → Does o (Ok (held v)) → Planned told o at ds (Ok (plan.Done v))
  plan_scatter : (d is vs : Datum) → ds ≡ d ∷ is ∷ vs ∷ [] → o ≡ scattered false at d is vs → Planned told o at ds (Ok plan.Scatter)
  plan_each : {f : Finish} {n : ℕ} (rows : List (List Datum)) → o ≡ Val (Apply_each rows (made_of told f at ds)) → n ≡ length rows → Source_is f ds rows → Planned told o at ds (Ok (plan.Each f n))
  plan_reduce : (any : Bool) (ne d : Datum) → ds ≡ ne ∷ d ∷ [] → o ≡ Val (Reduce_each any ne (rows_in d ∷ []) first_fresh) → Planned told o at ds (Ok plan.Reduce)
  plan_scan : (ne d : Datum) → ds ≡ ne ∷ d ∷ [] → o ≡ Val (Reduce_each false ne (prefixes_on [] (rows_in d)) (λ es. all_fresh (array false at (row_shape_in d) es))) → Planned told o at ds (Ok plan.Scan)
  plan_combine : {n : ℕ} (d ne is vs : Datum) (zs : List ℤ) → ds ≡ d ∷ ne ∷ is ∷ vs ∷ [] → each_out exact_of (rows_in is) ≡ Val zs → n ≡ length (rows_in is) → n ≡ length (rows_in vs) → o ≡ Val (combines at d ne vs zs) → Planned told o at ds (Ok (plan.Combine n))
  plan_fails : {r : Report} → o ≡ Fail r → Planned told o at ds (Err (Failed r))
  plan_memory : Planned told o at ds (Err Memory)
  plan_lost : {r : Result Plan Stop} → o ≡ Wrong → Planned told o at ds r

-- of a primitive, and of a map, whatever shape is told
unfoldable pub Plans : Primitive → Place → List Datum → Result Plan Stop → Type 0
Plans p at ds r = (told : Shape) → Planned told (job false told p at ds) at ds r

unfoldable pub Plans_map : Place → List Datum → Result Plan Stop → Type 0
Plans_map at ds r = (told : Shape) → Planned told (mapped false told at ds) at ds r

-- some data and an array
pub data Two_rows (ds : List Datum) : Result (Unit {0}) Stop → Type 0 where
  two_rows : (ne d : Datum) → ds ≡ ne ∷ d ∷ [] → rows_of d ≡ Val (row_shape_in d, rows_in d) → Two_rows ds (Ok tt)
  no_second : (ne d : Datum) → ds ≡ ne ∷ d ∷ [] → rows_of d ≡ Wrong → Two_rows ds (Err Stuck)
  two_memory : Two_rows ds (Err Memory)

-- the arguments for one row are put on a stack
pub data Put_row (f : Finish) (ds : List Datum) (i : ℕ) (stack stack' : List Datum) : Result (Unit {0}) Stop → Type 0 where
  put_row : (es : List Datum) → source_row f ds i ≡ Some es → stack' ≡ stack ++ es → Put_row f ds i stack stack' (Ok tt)
  no_row_put : Put_row f ds i stack stack' (Err Memory)

-- data that counts some words
pub data Counted_is (o : Out Counted) : Result Datum Stop → Type 0 where
  counted_is : {c : ℕ} {d : Datum} → o ≡ Val (c, d) → Counted_is o (Ok d)
  counted_fails : {r : Report} → o ≡ Fail r → Counted_is o (Err (Failed r))
  counted_memory : Counted_is o (Err Memory)
  counted_lost : {r : Result Datum Stop} → o ≡ Wrong → Counted_is o r

-- what is made of truth values for the rows of an array
unfoldable pub Sieved : Finish → Place → Datum → List Datum → Result Datum Stop → Type 0
Sieved f at d es r = Counted_is (made_of Unmet_shape f at (d ∷ []) es) r
