-- What runs of primitives answer: of functions on rows, one after the other, and of folds.
use Rattle.std.specs.Prelude.{◌≡◌, ℕ, zero, suc, ◌≤◌, ℤ, pos, negsuc, Bool, true, false, List, [], ◌∷◌, ◌++◌, length, slice_get, slice_set, Option, Some, None, Result, Ok, Err}
use Rattle.fut_scalar.specs.declared.report.Report.{Report}
use Rattle.fut_scalar.specs.declared.place.Place.{Place}
use Rattle.fut_flat.specs.declared.prim.Primitive.{Primitive}
use Rattle.fut_value.specs.Data.{Shape, Datum}
use Rattle.fut_meaning.specs.Arrays.{each_out, exact_of}
use Rattle.fut_meaning.specs.Jobs.{job, Job, Applied, Reduces, all_of, places, prefixes_on, writes}
use Rattle.fut_meaning.specs.Outcomes.{Out, Val, Fail, Wrong, and_then, Rel, gives, the, Then, each_of}
use Rattle.fut_blocks.specs.Plain.{Body}
use Rattle.fut_blocks.specs.Meaning.{Component, Names, function_of, job_given, body_means}
use Rattle.fut_blocks.specs.Rows.{Row}
use Rattle.fut_blocks.specs.Sizes.{row_shape}
use Rattle.fut_blocks.specs.Numbered.{Upward, Body_numbered}
use Rattle.array_data.specs.declared.built.Built.{Built}
use Rattle.array_primitives.specs.declared.jobs.Finish.{Finish}
use Rattle.array_data.specs.declared.stop.Stop.{Stop}
use Rattle.array_data.specs.declared.stop.Stop.TheVariants.{Failed, Memory}
use Rattle.array_data.specs.Held.{built_rows, rows_in}
use Rattle.array_primitives.specs.Plans.{Source_is, and_old, made_of, Counted_is}
use Rattle.fut_eval.specs.Answers.{Answer, Stands, Kept, Runs}

abbrev pub as_built : Result Built Stop → Result (List Datum) Stop
as_built (Ok b) = Ok (built_rows b)
as_built (Err e) = Err e

-- what one or several uses of a function give, which leave nothing on the stack
pub data Gives {A : Type 0} (m : Rel A) (next : ℕ) (table table' stack stack' : List Component) : Result A Stop → Type 0 where
  gave : {v : A} (f : ℕ) → m (Val v) f → Kept next table table' → stack' ≡ stack → Gives m next table table' stack stack' (Ok v)
  gave_failure : {r : Report} (f : ℕ) → m (Fail r) f → Gives m next table table' stack stack' (Err (Failed r))
  gave_memory : Gives m next table table' stack stack' (Err Memory)
  gave_wrong : {r : Result A Stop} (f : ℕ) → m Wrong f → Gives m next table table' stack stack' r

-- the function of a body
abbrev pub applies : ℕ → Body → List ℕ → Names Component → Applied
applies budget b xs env = function_of (body_means true budget b) xs env

-- the function on the arguments that lie on the stack from the mark on
unfoldable pub Applied_runs : ℕ → Body → List ℕ → ℕ → (table table' stack stack' : List Component) → Result Datum Stop → Type 0
Applied_runs budget b xs mark table table' stack stack' r =
    (env : Names Component) (next mid last : ℕ) (below args : List Component) → Stands env next table → Upward next xs mid → Body_numbered mid b last → last ≤ length table
    → stack ≡ below ++ args → length below ≡ mark → Gives (applies budget b xs env args) next table table' below stack' r

-- the function on two arguments
unfoldable pub Two_runs : ℕ → Body → List ℕ → (d e : Datum) → (table table' stack stack' : List Component) → Result Datum Stop → Type 0
Two_runs budget b xs d e table table' stack stack' r =
    (env : Names Component) (next mid last : ℕ) → Stands env next table → Upward next xs mid → Body_numbered mid b last → last ≤ length table
    → Gives (applies budget b xs env (d ∷ e ∷ [])) next table table' stack stack' r

-- one step of a fold
abbrev pub next_of : ℕ → Applied → Datum → Datum → Rel Datum
next_of zero f acc x = gives 0 x
next_of (suc i) f acc x = f (acc ∷ x ∷ [])

unfoldable pub Next_runs : ℕ → Body → List ℕ → ℕ → (acc x : Datum) → (table table' stack stack' : List Component) → Result Datum Stop → Type 0
Next_runs budget b xs i acc x table table' stack stack' r =
    (env : Names Component) (next mid last : ℕ) → Stands env next table → Upward next xs mid → Body_numbered mid b last → last ≤ length table
    → Gives (next_of i (applies budget b xs env) acc x) next table table' stack stack' r

-- the function on each row
unfoldable pub Each_runs : ℕ → Body → List ℕ → Finish → List Datum → ℕ → (table table' stack stack' : List Component) → Result (List Datum) Stop → Type 0
Each_runs budget b xs f ds n table table' stack stack' r =
    (rows : List (List Datum)) → n ≡ length rows → Source_is f ds rows
    → (env : Names Component) (next mid last : ℕ) → Stands env next table → Upward next xs mid → Body_numbered mid b last → last ≤ length table
    → Gives (each_of (applies budget b xs env) rows) next table table' stack stack' r

-- a reduction of which nothing is asked but that it is tight
abbrev pub reduction : Bool → Applied → Datum → List Datum → Rel Datum
reduction any f ne ds = Reduces true any (λ ne ds. Unit {0}) f ne ds

-- in any order or in theirs
unfoldable pub Fold_runs : ℕ → Body → List ℕ → (ne d : Datum) → (table table' stack stack' : List Component) → Result Datum Stop → Type 0
Fold_runs budget b xs ne d table table' stack stack' r =
    (any : Bool) (env : Names Component) (next mid last : ℕ) → Stands env next table → Upward next xs mid → Body_numbered mid b last → last ≤ length table
    → Gives (reduction any (applies budget b xs env) ne (rows_in d)) next table table' stack stack' r

unfoldable pub Scan_runs : ℕ → Body → List ℕ → (ne d : Datum) → (table table' stack stack' : List Component) → Result (List Datum) Stop → Type 0
Scan_runs budget b xs ne d table table' stack stack' r =
    (env : Names Component) (next mid last : ℕ) → Stands env next table → Upward next xs mid → Body_numbered mid b last → last ≤ length table
    → Gives (all_of (reduction false (applies budget b xs env) ne) (prefixes_on [] (rows_in d))) next table table' stack stack' r

-- one write: a row is combined with the one that stands at its index; where none stands there, nothing changes
abbrev pub combined_with : Applied → List Datum → ℕ → Datum → Option Datum → Rel (List Datum)
combined_with f cells k v None = gives 0 cells
combined_with f cells k v (Some a) = Then (f (a ∷ v ∷ [])) (λ w. gives 0 (slice_set cells k w))

abbrev pub write_of : Applied → List Datum → ℤ → Datum → Rel (List Datum)
write_of f cells (pos k) v = combined_with f cells k v (slice_get cells k)
write_of f cells (negsuc k) v = gives 0 cells

-- an answer, with the rows that it leaves
abbrev pub leaving : List Datum → Answer → Result (List Datum) Stop
leaving ds (Ok u) = Ok ds
leaving ds (Err e) = Err e

unfoldable pub Write_runs : ℕ → Body → List ℕ → ℤ → Datum → (cells cells' : List Datum) → (table table' stack stack' : List Component) → Answer → Type 0
Write_runs budget b xs z v cells cells' table table' stack stack' r =
    (env : Names Component) (next mid last : ℕ) → Stands env next table → Upward next xs mid → Body_numbered mid b last → last ≤ length table
    → Gives (write_of (applies budget b xs env) cells z v) next table table' stack stack' (leaving cells' r)

-- a reduction at each place of an array, from its rows on, of so many rows that are written
unfoldable pub Combine_runs : ℕ → Body → List ℕ → List Datum → (is vs : Datum) → ℕ → (table table' stack stack' : List Component) → Result (List Datum) Stop → Type 0
Combine_runs budget b xs old is vs n table table' stack stack' r =
    (ne : Datum) (zs : List ℤ) → each_out exact_of (rows_in is) ≡ Val zs → n ≡ length (rows_in is) → n ≡ length (rows_in vs)
    → (env : Names Component) (next mid last : ℕ) → Stands env next table → Upward next xs mid → Body_numbered mid b last → last ≤ length table
    → Gives (all_of (reduction true (applies budget b xs env) ne) (places and_old 0 old (writes (length old) zs (rows_in vs)))) next table table' stack stack' r

-- a job, whose result is put on the stack
unfoldable pub Job_runs : ℕ → Body → List ℕ → Out Job → (table table' stack stack' : List Component) → Answer → Type 0
Job_runs budget b xs o table table' stack stack' r =
    (env : Names Component) (next mid last : ℕ) → Stands env next table → Upward next xs mid → Body_numbered mid b last → last ≤ length table
    → Runs (Then (the o) (job_given true (applies budget b xs env))) next table table' stack stack' r

-- a primitive on data, whatever shape is told of missing rows
unfoldable pub Told_runs : ℕ → Body → List ℕ → Primitive → Place → List Datum → (table table' stack stack' : List Component) → Answer → Type 0
Told_runs budget b xs p at ds table table' stack stack' r = (told : Shape) → Job_runs budget b xs (job false told p at ds) table table' stack stack' r

-- and where a row tells it
abbrev pub told_by : Names Component → Row → Primitive → Place → List Datum → Out Job
told_by env row p at ds = and_then (row_shape env row) (λ h. job false h p at ds)

unfoldable pub Primitive_runs : ℕ → Body → List ℕ → Row → Primitive → Place → List Datum → (table table' stack stack' : List Component) → Answer → Type 0
Primitive_runs budget b xs row p at ds table table' stack stack' r =
    (env : Names Component) (next mid last : ℕ) → Stands env next table → Upward next xs mid → Body_numbered mid b last → last ≤ length table
    → Runs (Then (the (told_by env row p at ds)) (job_given true (applies budget b xs env))) next table table' stack stack' r

-- what is made of the results of a function, where a row tells of missing ones
unfoldable pub Finishes : List Component → Row → Finish → Place → (ds es : List Datum) → Result Datum Stop → Type 0
Finishes table row f at ds es r = (env : Names Component) (n : ℕ) → Stands env n table → Counted_is (and_then (row_shape env row) (λ h. made_of h f at ds es)) r
