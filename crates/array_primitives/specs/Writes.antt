-- Rows that are written at places of an array, and what stands there in the end.
use Rattle.std.specs.Prelude.{◌≡◌, ℕ, ◌<◌, ℤ, pos, false, List, [], ◌∷◌, length, slice_get, slice_set, Some, Result, Ok, Err}
use Rattle.fut_scalar.specs.declared.place.Place.{Place}
use Rattle.fut_scalar.specs.declared.report.Report.{Report}
use Rattle.fut_value.specs.Data.{Shape, Datum, Array_datum, datums}
use Rattle.fut_meaning.specs.Arrays.{Counted, Rows, each_out, exact_of, shared}
use Rattle.fut_meaning.specs.Jobs.{Job, Choose_each, Is_one_of, and_write, on_rows, or_old, places, writes, written}
use Rattle.fut_meaning.specs.Outcomes.{Out, Val, Fail, Wrong, and_then}
use Rattle.array_data.specs.declared.sizes.Exact.{Exact}
use Rattle.array_data.specs.declared.stop.Stop.{Stop}
use Rattle.array_data.specs.declared.stop.Stop.TheVariants.{Failed, Memory}
use Rattle.array_data.specs.Answers.{exact_held}
use Rattle.array_data.specs.Held.{row_shape_in, rows_in}

-- one of each of these lists
pub data All_chosen : List (List Datum) → List Datum → Type 0 where
  none_chosen : All_chosen [] []
  one_chosen : {xs : List Datum} {xss : List (List Datum)} {y : Datum} {ys : List Datum} → Is_one_of xs y → All_chosen xss ys → All_chosen (xs ∷ xss) (y ∷ ys)

-- the array of the rows that stand at all places in the end
abbrev pub in_array : Shape → List Datum → Out Counted
in_array row ds = shared (Array_datum row (datums ds))

-- what a scatter comes to
pub data Scatters (o : Out Job) : Result Datum Stop → Type 0 where
  scatters : {v : Datum} (ws : List (ℕ × Datum)) (old : List Datum) (row : Shape) (es : List Datum) → o ≡ Val (Choose_each ws old (in_array row)) → All_chosen (places or_old 0 old ws) es → v ≡ Array_datum row (datums es) → Scatters o (Ok v)
  scatter_fails : {r : Report} → o ≡ Fail r → Scatters o (Err (Failed r))
  scatter_memory : Scatters o (Err Memory)
  scatter_lost : {r : Result Datum Stop} → o ≡ Wrong → Scatters o r

-- a job that writes rows at places, before their sizes are tested and after
unfoldable pub written_to : Place → (d is vs : Datum) → (Rows → List (ℕ × Datum) → Out Job) → Out Job
written_to at d is vs k = on_rows d (λ r. written false at r is vs (k r))

unfoldable pub all_written : (d is vs : Datum) → (List (ℕ × Datum) → Out Job) → Out Job
all_written d is vs k = and_then (each_out exact_of (rows_in is)) (λ zs. k (writes (length (rows_in d)) zs (rows_in vs)))

-- how many places an array has, and how many rows are written, where these fit
pub data Write_counts (at : Place) (d is vs : Datum) : Result (ℕ × ℕ) Stop → Type 0 where
  write_counts : {n m : ℕ} → n ≡ length (rows_in d) → m ≡ length (rows_in is) → m ≡ length (rows_in vs)
      → ((k : Rows → List (ℕ × Datum) → Out Job) → written_to at d is vs k ≡ all_written d is vs (k (row_shape_in d, rows_in d))) → Write_counts at d is vs (Ok (n, m))
  writes_fail : {r : Report} → ((k : Rows → List (ℕ × Datum) → Out Job) → written_to at d is vs k ≡ Fail r) → Write_counts at d is vs (Err (Failed r))
  writes_memory : Write_counts at d is vs (Err Memory)

-- the integer that a row is, where all rows are integers
unfoldable pub Index_at : List Datum → ℕ → Exact → Type 0
Index_at is i z = (zs : List ℤ) → each_out exact_of is ≡ Val zs → slice_get zs i ≡ Some (exact_held z)

-- a row in the place of the one at an index, where there is one
pub data Put_at (z : ℤ) (d : Datum) (ds ds' : List Datum) : Type 0 where
  put_there : (k : ℕ) → z ≡ pos k → k < length ds → ds' ≡ slice_set ds k d → Put_at z d ds ds'
  put_nowhere : and_write (length ds) z d [] ≡ [] → ds' ≡ ds → Put_at z d ds ds'

-- the rows that stand at all places in the end
unfoldable pub Rows_chosen : (old is vs : List Datum) → ℕ → List Datum → Type 0
Rows_chosen old is vs m ds = (zs : List ℤ) → each_out exact_of is ≡ Val zs → m ≡ length is → m ≡ length vs → All_chosen (places or_old 0 old (writes (length old) zs vs)) ds
