-- What calls answer, in words of the meaning. Want of memory may come anywhere; and where the meaning is wrong, as it never is
-- in a well-formed program, an answer says nothing.
use Rattle.std.specs.Prelude.{◌≡◌, ℕ, ℤ, pos, negsuc, List, [], ◌∷◌, ◌++◌, length, map, replicate, slice_get, Option, Some, None, false, Result, Ok, Err}
use Rattle.fut_scalar.specs.declared.place.Place.{Place}
use Rattle.fut_scalar.specs.declared.report.Report.{Report}
use Rattle.fut_scalar.specs.declared.scalar.IntType.TheVariants.{I64}
use Rattle.fut_scalar.specs.declared.scalar.ScalarType.TheVariants as sort
use Rattle.fut_value.specs.Data.{Datum, Array_datum, Tuple_datum, Array_shape, datums, shape_of}
use Rattle.fut_meaning.specs.Arrays.{rows_of, exact_of, fresh}
use Rattle.fut_meaning.specs.Jobs.{Job, Done, done, columns, numbers_from, of_weight, tupled}
use Rattle.fut_meaning.specs.Outcomes.{Out, Val, Fail, Wrong, and_then}
use Rattle.array_data.specs.declared.data.Data.{Data}
use Rattle.array_data.specs.declared.sizes.Exact.{Exact}
use Rattle.array_data.specs.declared.sizes.Exact.TheVariants as exact
use Rattle.array_data.specs.declared.stop.Stop.{Stop}
use Rattle.array_data.specs.declared.stop.Stop.TheVariants.{Failed, Stuck, Memory}
use Rattle.array_data.specs.Held.{held, scalars, rows_in, row_shape_in}

-- exactly this outcome of what has one
pub data Tells {A : Type 0} (o : Out A) : Result A Stop → Type 0 where
  told : {a : A} → o ≡ Val a → Tells o (Ok a)
  report_told : {r : Report} → o ≡ Fail r → Tells o (Err (Failed r))
  no_memory_told : Tells o (Err Memory)
  lost : {r : Result A Stop} → o ≡ Wrong → Tells o r

-- the same data, or no memory
pub data Copied (d : Data) : Result Data Stop → Type 0 where
  copied : {c : Data} → held c ≡ held d → Copied d (Ok c)
  not_copied : Copied d (Err Memory)

-- one row more
pub data Added (d : Datum) (ds ds' : List Datum) : Result (Unit {0}) Stop → Type 0 where
  added : ds' ≡ ds ++ d ∷ [] → Added d ds ds' (Ok tt)
  not_added : Added d ds ds' (Err Memory)

-- how many rows an array has
pub data Counts (d : Datum) : Result ℕ Stop → Type 0 where
  counts : {n : ℕ} → rows_of d ≡ Val (row_shape_in d, rows_in d) → n ≡ length (rows_in d) → Counts d (Ok n)
  no_array : rows_of d ≡ Wrong → Counts d (Err Stuck)

-- the row at an index
pub data Row_is (d : Datum) (at : ℕ) : Result Datum Stop → Type 0 where
  row_is : {e : Datum} → slice_get (rows_in d) at ≡ Some e → Row_is d at (Ok e)
  no_memory_row : Row_is d at (Err Memory)

-- some rows more
pub data All_added (es : List Datum) (ds ds' : List Datum) : Result (Unit {0}) Stop → Type 0 where
  all_added : ds' ≡ ds ++ es → All_added es ds ds' (Ok tt)
  not_all_added : All_added es ds ds' (Err Memory)

-- an exact integer: n, or -(n + 1)
unfoldable pub exact_held : Exact → ℤ
exact_held (exact.Natural n) = pos n
exact_held (exact.Below n) = negsuc n

-- the integer that data is
pub data Exact_is (d : Datum) : Result Exact Stop → Type 0 where
  exact_is : {z : Exact} → exact_of d ≡ Val (exact_held z) → Exact_is d (Ok z)
  no_integer : exact_of d ≡ Wrong → Exact_is d (Err Stuck)

-- what a primitive gives at once
pub data Does (o : Out Job) : Result Datum Stop → Type 0 where
  does : {c : ℕ} {d : Datum} → o ≡ Val (Done (c, d)) → Does o (Ok d)
  does_fail : {r : Report} → o ≡ Fail r → Does o (Err (Failed r))
  does_memory : Does o (Err Memory)
  does_lost : {r : Result Datum Stop} → o ≡ Wrong → Does o r

-- the rows of arrays of one size, side by side
abbrev pub columned : Place → List Datum → Out (List (List Datum))
columned at [] = Wrong
columned at (d ∷ ds) = and_then (rows_of d) (λ r. columns false at r ds)

abbrev pub and_row : Option Datum → Option (List Datum) → Option (List Datum)
and_row None es = None
and_row (Some d) None = None
and_row (Some d) (Some es) = Some (d ∷ es)

-- one row of each array
abbrev pub each_at : ℕ → List Datum → Option (List Datum)
each_at i [] = Some []
each_at i (d ∷ ds) = and_row (slice_get (rows_in d) i) (each_at i ds)

-- the words 0, 1, .. : so many
unfoldable pub Numbers : ℕ → List ℕ → Type 0
Numbers n ws = scalars (sort.Int I64) ws ≡ numbers_from n 0

-- an array of so many copies
unfoldable pub Replicas : Place → ℕ → Datum → Result Datum Stop → Type 0
Replicas at n d r = Does (of_weight at (Array_shape n (shape_of d)) (done (fresh (Array_datum (shape_of d) (datums (replicate n d)))))) r

abbrev pub first_long : List Datum → ℕ
first_long [] = 0
first_long (d ∷ ds) = length (rows_in d)

-- these are the rows side by side
abbrev pub Rows_are : List Datum → List (List Datum) → Type 0
Rows_are ds rows = (i : ℕ) (es : List Datum) → each_at i ds ≡ Some es → slice_get rows i ≡ Some es

-- how many rows these are
pub data Columned (at : Place) (ds : List Datum) : Result ℕ Stop → Type 0 where
  columned_is : {n : ℕ} (rows : List (List Datum)) → columned at ds ≡ Val rows → n ≡ length rows → n ≡ first_long ds → Rows_are ds rows → Columned at ds (Ok n)
  columned_fails : {r : Report} → columned at ds ≡ Fail r → Columned at ds (Err (Failed r))
  columned_memory : Columned at ds (Err Memory)
  columned_lost : {r : Result ℕ Stop} → columned at ds ≡ Wrong → Columned at ds r

-- one row of each array is put on a stack
pub data Put (ds : List Datum) (i : ℕ) (stack stack' : List Datum) : Result (Unit {0}) Stop → Type 0 where
  put : (es : List Datum) → each_at i ds ≡ Some es → stack' ≡ stack ++ es → Put ds i stack stack' (Ok tt)
  not_put : Put ds i stack stack' (Err Memory)

-- the parts of a tuple on a stack
pub data Parted (d : Datum) (stack stack' : List Datum) : Result (Unit {0}) Stop → Type 0 where
  parted : (es : List Datum) → d ≡ Tuple_datum (datums es) → stack' ≡ stack ++ es → Parted d stack stack' (Ok tt)
  not_parted : Parted d stack stack' (Err Memory)

-- the tuple of one row of each array
pub data Tupled (ds : List Datum) (i : ℕ) : Result Datum Stop → Type 0 where
  tupled_row : {v : Datum} (es : List Datum) → each_at i ds ≡ Some es → v ≡ Tuple_datum (datums es) → Tupled ds i (Ok v)
  not_tupled : Tupled ds i (Err Memory)

-- the tuples of all rows, so many, behind others
unfoldable pub Tuples_added : List Datum → ℕ → List Datum → List Datum → Result (Unit {0}) Stop → Type 0
Tuples_added ds n s s' r = (rows : List (List Datum)) → n ≡ length rows → Rows_are ds rows → All_added (map tupled rows) s s' r
