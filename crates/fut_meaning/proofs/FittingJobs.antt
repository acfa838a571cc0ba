-- What operations and primitives make of data, where what does not fit is Wrong: the same, or Wrong.
use Rattle.std.proofs.Common.{ℕ, ◌&&◌, cond, List, [], ◌∷◌, Bool, true, false, ℤ, pos, negsuc}
use Rattle.fut_scalar.specs.declared.place.Place.{Place}
use Rattle.fut_scalar.specs.declared.report.Report.{Report}
use Rattle.fut_flat.specs.declared.prim.Primitive.{Primitive}
use Rattle.fut_flat.specs.declared.prim.Primitive.TheVariants as prim
use Rattle.fut_meaning.specs.Outcomes.{Out, Val, Fail, Wrong, and_then}
use Rattle.fut_value.specs.Data.{Shape, Datum, Array_datum, datums, shape_of, same_sizes}
use Rattle.fut_meaning.specs.Arrays.{fitting, array, all_like, row_shape, rows_of, Rows, row_at, updated, Making, Make_array, Make_index, Make_update, Make_range, made, last_apart, each_out, exact_of, Counted, shared}
use Rattle.fut_meaning.specs.Jobs.{Job, Done, Apply_each, Reduce_each, Choose_each, Applied, job, job_means, finished, shown_to_agree, rows_agree, columns, array_of_results, mapped, zipped, written, scattered, in_place_of, histogram, reduced, scanned, concatenated, sized, places}
use Rattle.fut_meaning.proofs.Fitting.{Fitted, Fitted_out, fits, misfits, fitted_same, fitted_then, fitted_first, fitted_each_of, fitted_all_of, fitted_reduces}

-- ---- outcomes

pub out_then : {A B : Type 0} (o : Out A) (k l : A → Out B) → ((a : A) → Fitted_out (k a) (l a)) → Fitted_out (and_then o k) (and_then o l)
out_then (Val a) k l h = h a
out_then (Fail r) k l h = fits
out_then Wrong k l h = fits

pub out_first : {A B : Type 0} {o o' : Out A} (k l : A → Out B) → Fitted_out o o' → ((a : A) → Fitted_out (k a) (l a)) → Fitted_out (and_then o k) (and_then o' l)
out_first {o = o} k l fits h = out_then o k l h
out_first k l misfits h = misfits

out_fitting : {A : Type 0} (b : Bool) (at : Place) {o o' : Out A} → Fitted_out o o' → Fitted_out (fitting false b at o) (fitting true b at o')
out_fitting true at h = h
out_fitting false at h = misfits

-- ---- jobs

pub data Job_like : Job → Job → Type 0 where
  j_done : {r : Counted} → Job_like (Done r) (Done r)
  j_each : {rows : List (List Datum)} {k l : List Datum → Out Counted} → ((ds : List Datum) → Fitted_out (k ds) (l ds)) → Job_like (Apply_each rows k) (Apply_each rows l)
  j_reduce : {any : Bool} {ne : Datum} {lists : List (List Datum)} {k l : List Datum → Out Counted} → ((ds : List Datum) → Fitted_out (k ds) (l ds)) → Job_like (Reduce_each any ne lists k) (Reduce_each any ne lists l)
  j_choose : {ws : List (ℕ × Datum)} {old : List Datum} {k l : List Datum → Out Counted} → ((ds : List Datum) → Fitted_out (k ds) (l ds)) → Job_like (Choose_each ws old k) (Choose_each ws old l)

pub data Jobs_like : Out Job → Out Job → Type 0 where
  jobs_go : {j j' : Job} → Job_like j j' → Jobs_like (Val j) (Val j')
  jobs_stop : {r : Report} → Jobs_like (Fail r) (Fail r)
  jobs_misfit : {o : Out Job} → Jobs_like o Wrong

pub job_same : (j : Job) → Job_like j j
job_same (Done r) = j_done
job_same (Apply_each rows k) = j_each (λ ds. fits)
job_same (Reduce_each any ne lists k) = j_reduce (λ ds. fits)
job_same (Choose_each ws old k) = j_choose (λ ds. fits)

jobs_same : (o : Out Job) → Jobs_like o o
jobs_same (Val j) = jobs_go (job_same j)
jobs_same (Fail r) = jobs_stop
jobs_same Wrong = jobs_misfit

jobs_then : {A : Type 0} (o : Out A) (k l : A → Out Job) → ((a : A) → Jobs_like (k a) (l a)) → Jobs_like (and_then o k) (and_then o l)
jobs_then (Val a) k l h = h a
jobs_then (Fail r) k l h = jobs_stop
jobs_then Wrong k l h = jobs_misfit

jobs_first : {A : Type 0} {o o' : Out A} (k l : A → Out Job) → Fitted_out o o' → ((a : A) → Jobs_like (k a) (l a)) → Jobs_like (and_then o k) (and_then o' l)
jobs_first {o = o} k l fits h = jobs_then o k l h
jobs_first k l misfits h = jobs_misfit

jobs_fitting : (b : Bool) (at : Place) {o o' : Out Job} → Jobs_like o o' → Jobs_like (fitting false b at o) (fitting true b at o')
jobs_fitting true at h = h
jobs_fitting false at h = jobs_misfit

jobs_rows : (b c : Bool) (at : Place) {o o' : Out Job} → Jobs_like o o' → Jobs_like (fitting false b at o) (fitting true (b && c) at o')
jobs_rows true true at h = h
jobs_rows true false at h = jobs_misfit
jobs_rows false c at h = jobs_misfit

jobs_neutral : (b : Bool) {o o' : Out Job} → Jobs_like o o' → Jobs_like o (cond b o' Wrong)
jobs_neutral true h = h
jobs_neutral false h = jobs_misfit

-- ---- operations

array_fits : (at : Place) (told : Shape) (ds : List Datum) → Fitted_out (array false at told ds) (array true at told ds)
unfolding array
array_fits at told ds = out_fitting (all_like (row_shape told ds) ds) at fits

updated_fits : (at : Place) (zs : List ℤ) (v d : Datum) → Fitted_out (updated false at zs v d) (updated true at zs v d)
unfolding updated
updated_fits at [] v d = out_fitting (same_sizes (shape_of d) (shape_of v)) at {o = Val v} {o' = Val v} fits
updated_fits at (z ∷ zs) v d = out_then (rows_of d) _ _ (λ r. out_then (row_at at z r.1) _ _ (λ e. out_first _ _ (updated_fits at zs v e) (λ u. fits)))

pub made_fits : (told : Shape) (m : Making) (at : Place) (ds : List Datum) → Fitted_out (made false told m at ds) (made true told m at ds)
unfolding made
made_fits told Make_array at ds = out_first _ _ (array_fits at told ds) (λ d. fits)
made_fits told (Make_index parts) at [] = fits
made_fits told (Make_index parts) at (d ∷ is) = fits
made_fits told Make_update at [] = fits
made_fits told Make_update at (d ∷ ds) = out_then (last_apart ds) _ _ (λ r. out_then (each_out exact_of r.0) _ _ (λ zs. out_first _ _ (updated_fits at zs r.1 d) (λ u. fits)))
made_fits told (Make_range stepped e) at ds = fits

-- ---- primitives

columns_fit : (at : Place) (r : Rows) (ds : List Datum) → Fitted_out (columns false at r ds) (columns true at r ds)
columns_fit at r [] = fits
columns_fit at r (d ∷ ds) = out_then (rows_of d) _ _ (λ s. out_fitting _ at (out_first _ _ (columns_fit at s ds) (λ rs. fits)))

results_fit : (told : Shape) (at : Place) (ds : List Datum) → Fitted_out (array_of_results false told at ds) (array_of_results true told at ds)
results_fit told at ds = out_first _ _ (array_fits at told ds) (λ d. fits)

mapped_fits : (told : Shape) (at : Place) (ds : List Datum) → Jobs_like (mapped false told at ds) (mapped true told at ds)
mapped_fits told at [] = jobs_misfit
mapped_fits told at (d ∷ ds) = jobs_then (rows_of d) _ _ (λ r. jobs_first _ _ (columns_fit at r ds) (λ rows. jobs_go (j_each (results_fit told at))))

zipped_fits : (at : Place) (row : Shape) (ds : List Datum) → Jobs_like (zipped false at row ds) (zipped true at row ds)
zipped_fits at row [] = jobs_misfit
zipped_fits at row (d ∷ ds) = jobs_then (rows_of d) _ _ (λ r. jobs_first _ _ (columns_fit at r ds) (λ rows. jobs_same _))

written_fits : (at : Place) (r : Rows) (is vs : Datum) (k l : List (ℕ × Datum) → Out Job) → ((ws : List (ℕ × Datum)) → Jobs_like (k ws) (l ws)) → Jobs_like (written false at r is vs k) (written true at r is vs l)
written_fits at r is vs k l h =
    jobs_then (rows_of is) _ _ (λ i. jobs_then (rows_of vs) _ _ (λ s. jobs_fitting _ at (jobs_rows (shown_to_agree r s) (rows_agree r.0 s.0) at (jobs_then (each_out exact_of i.1) _ _ (λ zs. h _)))))

scattered_fits : (at : Place) (d is vs : Datum) → Jobs_like (scattered false at d is vs) (scattered true at d is vs)
scattered_fits at d is vs = jobs_then (rows_of d) _ _ (λ r. let k : List (ℕ × Datum) → Out Job = (λ ws. Val (Choose_each ws r.1 (λ ds. shared (Array_datum r.0 (datums ds))))) in written_fits at r is vs k k (λ ws. jobs_same (k ws)))

in_place_fits : (at : Place) (row : Shape) (ds : List Datum) → Fitted_out (in_place_of false at row ds) (in_place_of true at row ds)
in_place_fits at row ds = out_fitting (all_like row ds) at {o = shared (Array_datum row (datums ds))} {o' = shared (Array_datum row (datums ds))} fits

histogram_fits : (at : Place) (d ne is vs : Datum) → Jobs_like (histogram false at d ne is vs) (histogram true at d ne is vs)
histogram_fits at d ne is vs = jobs_then (rows_of d) _ _ (λ r. jobs_neutral (rows_agree r.0 (shape_of ne)) (written_fits at r is vs
    (λ ws. Val (Reduce_each true ne (places (λ v vs. v ∷ vs) 0 r.1 ws) (in_place_of false at r.0)))
    (λ ws. Val (Reduce_each true ne (places (λ v vs. v ∷ vs) 0 r.1 ws) (in_place_of true at r.0)))
    (λ ws. jobs_go (j_reduce (in_place_fits at r.0)))))

reduced_fits : (any : Bool) (ne d : Datum) → Jobs_like (reduced false any ne d) (reduced true any ne d)
reduced_fits any ne d = jobs_then (rows_of d) _ _ (λ r. jobs_neutral _ (jobs_same _))

scanned_fits : (at : Place) (ne d : Datum) → Jobs_like (scanned false at ne d) (scanned true at ne d)
scanned_fits at ne d = jobs_then (rows_of d) _ _ (λ r. jobs_neutral _ (jobs_go (j_reduce (λ ds. out_first _ _ (array_fits at r.0 ds) (λ e. fits)))))

concatenated_fits : (at : Place) (d e : Datum) → Jobs_like (concatenated false at d e) (concatenated true at d e)
concatenated_fits at d e = jobs_then (rows_of d) _ _ (λ r. jobs_then (rows_of e) _ _ (λ s. jobs_rows (shown_to_agree r s) (rows_agree r.0 s.0) at (jobs_same _)))

sized_fits : (at : Place) (z : ℤ) (k l : ℕ → Out Job) → ((n : ℕ) → Jobs_like (k n) (l n)) → Jobs_like (sized at z k) (sized at z l)
sized_fits at (pos n) k l h = h n
sized_fits at (negsuc n) k l h = jobs_stop

pub job_fits : (told : Shape) (p : Primitive) (at : Place) (ds : List Datum) → Jobs_like (job false told p at ds) (job true told p at ds)
unfolding job
job_fits told prim.Map at ds = mapped_fits told at ds
job_fits told prim.Map2 at ds = mapped_fits told at ds
job_fits told prim.Map3 at ds = mapped_fits told at ds
job_fits told prim.Map4 at ds = mapped_fits told at ds
job_fits told prim.Map5 at ds = mapped_fits told at ds
job_fits told prim.Reduce at (ne ∷ d ∷ []) = reduced_fits false ne d
job_fits told prim.ReduceComm at (ne ∷ d ∷ []) = reduced_fits true ne d
job_fits told prim.Scan at (ne ∷ d ∷ []) = scanned_fits at ne d
job_fits told prim.Scatter at (d ∷ is ∷ vs ∷ []) = scattered_fits at d is vs
job_fits told prim.ReduceByIndex at (d ∷ ne ∷ is ∷ vs ∷ []) = histogram_fits at d ne is vs
job_fits told prim.Zip at (d ∷ e ∷ []) = zipped_fits at _ (d ∷ e ∷ [])
job_fits told prim.Zip3 at (d ∷ e ∷ f ∷ []) = zipped_fits at _ (d ∷ e ∷ f ∷ [])
job_fits told prim.Tabulate at (n ∷ []) = jobs_then (exact_of n) _ _ (λ z. sized_fits at z _ _ (λ k. jobs_go (j_each (λ ds. out_first _ _ (array_fits at told ds) (λ e. fits)))))
job_fits told prim.Concat at (d ∷ e ∷ []) = concatenated_fits at d e
job_fits told p at ds = jobs_same _

-- ---- what jobs may give

finished_fits : (k l : List Datum → Out Counted) → ((ds : List Datum) → Fitted_out (k ds) (l ds)) → (ds : List Datum) → Fitted (finished k ds) (finished l ds)
finished_fits k l h ds = fitted_first (h ds) _ _ (λ r. fitted_same _)

pub fitted_job : (tight : Bool) (Fits : Bool → Datum → List Datum → Type 0) (Writes : List (ℕ × Datum) → Type 0) (f f' : Applied) → ((ds : List Datum) → Fitted (f ds) (f' ds)) → (j j' : Job) → Job_like j j' → Fitted (job_means tight Fits Writes f j) (job_means tight Fits Writes f' j')
fitted_job tight Fits Writes f f' h _ _ (j_done {r}) = fitted_same _
fitted_job tight Fits Writes f f' h _ _ (j_each {rows} {k} {l} i) = fitted_then _ _ _ _ (fitted_each_of f f' h rows) (finished_fits k l i)
fitted_job tight Fits Writes f f' h _ _ (j_reduce {any} {ne} {lists} {k} {l} i) = fitted_then _ _ _ _ (fitted_all_of _ _ (fitted_reduces tight any (Fits any) f f' h ne) lists) (finished_fits k l i)
fitted_job tight Fits Writes f f' h _ _ (j_choose {ws} {old} {k} {l} i) = fitted_then _ _ _ _ (fitted_same _) (finished_fits k l i)
