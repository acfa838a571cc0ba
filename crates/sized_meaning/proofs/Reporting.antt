-- Which reports are allowed: no size but at some places. What is made of data reports no size where what does not fit goes wrong,
-- unless it is `unflatten`.
use Rattle.std.specs.Prelude.{ℤ, pos, negsuc, Option, Some, None, ◌*◌, nat_eq, nat_le, take, drop, reverse, slice_get, length, ◌&&◌, ◌-◌, suc, Result, Ok, Err, map, replicate, ◌++◌, ◌-ℤ◌}
use Rattle.std.proofs.Common.{◌≡◌, ℕ, zero, List, [], ◌∷◌, Bool, true, false, cond, not}
use Rattle.fut_ast.specs.declared.node.End.{End}
use Rattle.fut_arithmetic.specs.Operations.{result_of}
use Rattle.fut_scalar.specs.Integers.{integer_of}
use Rattle.fut_scalar.specs.declared.scalar.ScalarType.TheVariants as sort
use Rattle.fut_scalar.specs.declared.operator.BinOp.{BinOp}
use Rattle.fut_scalar.specs.declared.operator.BinOp.TheVariants as binary
use Rattle.fut_scalar.specs.declared.operator.ScalarFault.{ScalarFault}
use Rattle.fut_scalar.specs.declared.operator.ScalarFault.TheVariants as fault
use Rattle.fut_scalar.specs.declared.place.Place.{Place}
use Rattle.fut_scalar.specs.declared.report.FailKind.{FailKind}
use Rattle.fut_scalar.specs.declared.report.FailKind.TheVariants as kind
use Rattle.fut_scalar.specs.declared.scalar.IntType.{IntType}
use Rattle.fut_scalar.specs.declared.scalar.Scalar.{Scalar}
use Rattle.fut_scalar.specs.declared.scalar.Scalar.TheVariants as scalar
use Rattle.fut_flat.specs.declared.act.Part.{Part}
use Rattle.fut_flat.specs.declared.act.Part.TheVariants as part
use Rattle.fut_flat.specs.declared.prim.Folding.TheVariants as folding
use Rattle.fut_flat.specs.declared.prim.Primitive.{Primitive}
use Rattle.fut_flat.specs.declared.prim.Primitive.TheVariants as prim
use Rattle.fut_value.specs.Data.{Shape, Datum, Scalar_datum, Tuple_datum, Record_datum, Array_datum, shape_of, weight, same_sizes, Scalar_shape, Array_shape, datums, listed}
use Rattle.fut_meaning.specs.Arrays.{most_words, all_like, row_shape, or_else, unit_step, range_count, stepped_from, size, inner, fitting, checked, failure, within_weight, array, array_of, rows_of, exact_of, integer_of_scalar, truth_of_datum, scalar_of_datum, each_out, or_bounds, row_at, Pick, Pick_at, Pick_slice, Pick_backwards, and_pick, picks, Cut, Cut_at, Cut_slice, Cut_backwards, slice_cut, cut_of, cuts, cut, row_or_wrong, indexed, last_apart, updated, range_of, range, Making, Make_array, Make_index, Make_update, Make_range, made, all_fresh, all_shared, fresh, shared, Rows, Counted}
use Rattle.fut_meaning.specs.Jobs.{size_of, beside, tupled, numbers_from, i64_shape, all_but_last, around, either_row, joined, grouped, Job, Done, Apply_each, Reduce_each, Choose_each, done, on_rows, on_exact, columns, mapped, zipped, tuple_part, part_at, column, all_columns, truths, written, writes, fitting_neutral, in_place_of, places, some_rows, counted_rows, first_of_rows, last_of, inner_rows, crossed, unflattened, combined, summary, sized, shown_to_agree, rows_agree, job}
use Rattle.fut_meaning.specs.Operations.{reported}
use Rattle.fut_meaning.specs.Operators.{by_kind, binary_result, is_same_type}
use Rattle.fut_meaning.specs.Outcomes.{Out, Val, Fail, Wrong, and_then}
use Rattle.sized_meaning.specs.There.{There, Primitive_there}
use Rattle.sized_meaning.specs.Fits.{Out_fits}

module _ (is_there : Place → Bool) where
  abbrev pub Out_there : {A : Type 0} → (A → Type 0) → Out A → Type 0
  Out_there P o = Out_fits (There is_there) P o

  -- whatever is given
  abbrev pub Fine : {A : Type 0} → Out A → Type 0
  Fine o = Out_there (λ a. Unit {0}) o

  pub out_then : {A B : Type 0} (P : A → Type 0) (Q : B → Type 0) (o : Out A) (k : A → Out B) → Out_there P o → ((a : A) → P a → Out_there Q (k a)) → Out_there Q (and_then o k)
  out_then P Q (Val a) k h go = go a h
  out_then P Q (Fail r) k h go = h
  out_then P Q Wrong k h go = tt

  pub fine_then : {A B : Type 0} (Q : B → Type 0) (o : Out A) (k : A → Out B) → Fine o → ((a : A) → Out_there Q (k a)) → Out_there Q (and_then o k)
  fine_then Q o k h go = out_then (λ a. Unit {0}) Q o k h (λ a u. go a)

  abbrev pub No_size : FailKind → Type 0
  No_size k = k ≡ kind.Size → ⊥

  pub bounds : No_size kind.Bounds
  bounds e = let z = e in cc

  pub range_kind : No_size kind.Range
  range_kind e = let z = e in cc

  pub heavy : No_size kind.TooLarge
  heavy e = let z = e in cc

  fails : {A : Type 0} (P : A → Type 0) (k : FailKind) (at : Place) → No_size k → Out_there P (failure k at)
  fails P k at n = λ e. absurd (n e)

  tested : {A : Type 0} (P : A → Type 0) (b : Bool) (k : FailKind) (at : Place) (o : Out A) → No_size k → Out_there P o → Out_there P (checked b k at o)
  tested P true k at o n h = h
  tested P false k at o n h = λ e. absurd (n e)

  fitted : {A : Type 0} (P : A → Type 0) (b : Bool) (at : Place) (o : Out A) → Out_there P o → Out_there P (fitting true b at o)
  fitted P true at o h = h
  fitted P false at o h = tt

  -- ---- parts of data, and arrays

  pub rows_fine : (d : Datum) → Fine (rows_of d)
  rows_fine (Array_datum row ds) = tt
  rows_fine (Scalar_datum s) = tt
  rows_fine (Tuple_datum ds) = tt
  rows_fine (Record_datum fs) = tt

  integer_fine : (s : Scalar) → Fine (integer_of_scalar s)
  integer_fine (scalar.Int t n) = tt
  integer_fine (scalar.Bool b) = tt

  pub exact_fine : (d : Datum) → Fine (exact_of d)
  exact_fine (Scalar_datum s) = integer_fine s
  exact_fine (Array_datum row ds) = tt
  exact_fine (Tuple_datum ds) = tt
  exact_fine (Record_datum fs) = tt

  pub truth_fine : (d : Datum) → Fine (truth_of_datum d)
  truth_fine (Scalar_datum (scalar.Bool b)) = tt
  truth_fine (Scalar_datum (scalar.Int t n)) = tt
  truth_fine (Array_datum row ds) = tt
  truth_fine (Tuple_datum ds) = tt
  truth_fine (Record_datum fs) = tt

  pub scalar_fine : (d : Datum) → Fine (scalar_of_datum d)
  scalar_fine (Scalar_datum s) = tt
  scalar_fine (Array_datum row ds) = tt
  scalar_fine (Tuple_datum ds) = tt
  scalar_fine (Record_datum fs) = tt

  pub each_fine : {A B : Type 0} (g : A → Out B) → ((x : A) → Fine (g x)) → (xs : List A) → Fine (each_out g xs)
  each_fine g h [] = tt
  each_fine g h (x ∷ xs) = fine_then _ (g x) _ (h x) (λ y. fine_then _ (each_out g xs) _ (each_fine g h xs) (λ ys. tt))

  light : (at : Place) (d : Datum) → Fine (within_weight at d)
  light at d = tested (λ x. Unit {0}) (nat_le (weight (shape_of d)) most_words) kind.TooLarge at (Val d) heavy tt

  light_array : (at : Place) (row : Shape) (ds : List Datum) → Fine (array_of at row ds)
  light_array at row ds = light at (Array_datum row (datums ds))

  pub array_fine : (at : Place) (row : Shape) (ds : List Datum) → Fine (array true at row ds)
  unfolding array
  array_fine at row ds = fitted (λ x. Unit {0}) (all_like (row_shape row ds) ds) at (array_of at (row_shape row ds) ds) (light_array at (row_shape row ds) ds)

  fresh_fine : (o : Out Datum) → Fine o → Fine (all_fresh o)
  fresh_fine o h = fine_then _ o _ h (λ d. tt)

  shared_fine : (o : Out Datum) → Fine o → Fine (all_shared o)
  shared_fine o h = fine_then _ o _ h (λ d. tt)

  found_fine : {A : Type 0} (at : Place) (o : Option A) → Fine (or_bounds at o)
  found_fine {A = A} at None = fails {A = A} (λ x. Unit {0}) kind.Bounds at bounds
  found_fine at (Some a) = tt

  row_fine : (at : Place) (z : ℤ) (ds : List Datum) → Fine (row_at at z ds)
  row_fine at (pos n) ds = found_fine at (slice_get ds n)
  row_fine at (negsuc n) ds = fails {A = Datum} (λ x. Unit {0}) kind.Bounds at bounds

  picked : (p : Pick) (o : Out (List Pick)) → Fine o → Fine (and_pick p o)
  picked p o h = fine_then _ o _ h (λ ps. tt)

  picks_fine : (ps : List Part) (zs : List ℤ) → Fine (picks ps zs)
  unfolding picks
  picks_fine [] [] = tt
  picks_fine [] (z ∷ zs) = tt
  picks_fine (part.At ∷ ps) (z ∷ zs) = picked (Pick_at z) (picks ps zs) (picks_fine ps zs)
  picks_fine (part.Slice true true ∷ ps) (z ∷ w ∷ zs) = picked (Pick_slice (Some z) (Some w)) (picks ps zs) (picks_fine ps zs)
  picks_fine (part.Slice true false ∷ ps) (z ∷ zs) = picked (Pick_slice (Some z) None) (picks ps zs) (picks_fine ps zs)
  picks_fine (part.Slice false true ∷ ps) (z ∷ zs) = picked (Pick_slice None (Some z)) (picks ps zs) (picks_fine ps zs)
  picks_fine (part.Slice false false ∷ ps) zs = picked (Pick_slice None None) (picks ps zs) (picks_fine ps zs)
  picks_fine (part.Backwards ∷ ps) zs = picked Pick_backwards (picks ps zs) (picks_fine ps zs)
  picks_fine ps zs = tt

  slice_fine : (at : Place) (n : ℕ) (i j : ℤ) → Fine (slice_cut at n i j)
  slice_fine at n (pos i) (pos j) = tested (λ x. Unit {0}) (nat_le i j && nat_le j n) kind.Bounds at (Val (Cut_slice i j)) bounds tt
  slice_fine at n (pos i) (negsuc j) = fails {A = Cut} (λ x. Unit {0}) kind.Bounds at bounds
  slice_fine at n (negsuc i) j = fails {A = Cut} (λ x. Unit {0}) kind.Bounds at bounds

  pub cut_of_fine : (at : Place) (n : ℕ) (p : Pick) → Fine (cut_of at n p)
  cut_of_fine at n (Pick_at (pos i)) = tested (λ x. Unit {0}) (nat_le (suc i) n) kind.Bounds at (Val (Cut_at i)) bounds tt
  cut_of_fine at n (Pick_at (negsuc i)) = fails {A = Cut} (λ x. Unit {0}) kind.Bounds at bounds
  cut_of_fine at n (Pick_slice i j) = slice_fine at n (or_else (pos 0) i) (or_else (pos n) j)
  cut_of_fine at n Pick_backwards = tt

  cuts_fine : (at : Place) (ps : List Pick) (h : Shape) → Fine (cuts at ps h)
  unfolding cuts
  cuts_fine at [] h = tt
  cuts_fine at (p ∷ ps) h = fine_then _ (cut_of at _ p) _ (cut_of_fine at _ p) (λ c. fine_then _ (cuts at ps _) _ (cuts_fine at ps _) (λ cs. tt))

  row_or_fine : (o : Option Datum) (k : Datum → Out Datum) → ((d : Datum) → Fine (k d)) → Fine (row_or_wrong o k)
  row_or_fine None k h = tt
  row_or_fine (Some d) k h = h d

  cut_fine : (cs : List Cut) (d : Datum) → Fine (cut cs d)
  unfolding cut
  cut_fine [] d = tt
  cut_fine (Cut_at i ∷ cs) d = fine_then _ (rows_of d) _ (rows_fine d) (λ r. row_or_fine (slice_get r.1 i) (cut cs) (λ d. cut_fine cs d))
  cut_fine (Cut_slice i j ∷ cs) d = fine_then _ (rows_of d) _ (rows_fine d) (λ r. fine_then _ (each_out (cut cs) (take (j - i) (drop i r.1))) _ (each_fine (cut cs) (λ d. cut_fine cs d) (take (j - i) (drop i r.1))) (λ ds. tt))
  cut_fine (Cut_backwards ∷ cs) d = fine_then _ (rows_of d) _ (rows_fine d) (λ r. fine_then _ (each_out (cut cs) (reverse r.1)) _ (each_fine (cut cs) (λ d. cut_fine cs d) (reverse r.1)) (λ ds. tt))

  indexed_fine : (at : Place) (parts : List Part) (d : Datum) (is : List Datum) → Fine (indexed at parts d is)
  unfolding indexed
  indexed_fine at parts d is = fine_then _ (each_out exact_of is) _ (each_fine exact_of exact_fine is) (λ zs. fine_then _ (picks parts zs) _ (picks_fine parts zs) (λ ps. fine_then _ (cuts at ps (shape_of d)) _ (cuts_fine at ps (shape_of d)) (λ cs. fine_then _ (cut cs d) _ (cut_fine cs d) (λ e. light at e))))

  updated_fine : (at : Place) (zs : List ℤ) (v d : Datum) → Fine (updated true at zs v d)
  unfolding updated
  updated_fine at [] v d = fitted (λ x. Unit {0}) (same_sizes (shape_of d) (shape_of v)) at (Val v) tt
  updated_fine at (z ∷ zs) v d = fine_then _ (rows_of d) _ (rows_fine d) (λ r. fine_then _ (row_at at z r.1) _ (row_fine at z r.1) (λ e. fine_then _ (updated true at zs v e) _ (updated_fine at zs v e) (λ u. tt)))

  pub last_fine : (ds : List Datum) → Fine (last_apart ds)
  last_fine [] = tt
  last_fine (v ∷ []) = tt
  last_fine (i ∷ v ∷ vs) = fine_then _ (last_apart (v ∷ vs)) _ (last_fine (v ∷ vs)) (λ r. tt)

  range_of_fine : (at : Place) (t : IntType) (from step : ℤ) (o : Option ℕ) → Fine (range_of at t from step o)
  range_of_fine at t from step None = fails {A = Datum} (λ x. Unit {0}) kind.Range at range_kind
  range_of_fine at t from step (Some n) = tested {A = Datum} (λ x. Unit {0}) (nat_le n most_words) kind.TooLarge at (Val (Array_datum (Scalar_shape (sort.Int t)) (datums (stepped_from t from step n)))) heavy tt

  range_fine : (at : Place) (stepped : Bool) (e : End) (ds : List Datum) → Fine (range at stepped e ds)
  unfolding range
  range_fine at false e (Scalar_datum (scalar.Int t m) ∷ Scalar_datum (scalar.Int u n) ∷ []) = range_of_fine at t (integer_of t m) (unit_step e) (range_count e (integer_of t m) (unit_step e) (integer_of t n))
  range_fine at true e (Scalar_datum (scalar.Int t m) ∷ Scalar_datum (scalar.Int u k) ∷ Scalar_datum (scalar.Int w n) ∷ []) = range_of_fine at t (integer_of t m) (integer_of t k -ℤ integer_of t m) (range_count e (integer_of t m) (integer_of t k -ℤ integer_of t m) (integer_of t n))
  range_fine at stepped e ds = tt

  pub made_fine : (row : Shape) (m : Making) (at : Place) (ds : List Datum) → Fine (made true row m at ds)
  unfolding made
  made_fine row Make_array at ds = fresh_fine _ (array_fine at row ds)
  made_fine row (Make_index parts) at (d ∷ is) = shared_fine _ (indexed_fine at parts d is)
  made_fine row Make_update at (d ∷ ds) = fine_then _ (last_apart ds) _ (last_fine ds) (λ r. fine_then _ (each_out exact_of r.0) _ (each_fine exact_of exact_fine r.0) (λ zs. shared_fine _ (updated_fine at zs r.1 d)))
  made_fine row (Make_range stepped e) at ds = fresh_fine _ (range_fine at stepped e ds)
  made_fine row m at ds = tt

  -- ---- scalars

  result_fine : (at : Place) (r : Result Scalar ScalarFault) → Fine (reported at (Some (by_kind r)))
  result_fine at (Ok s) = tt
  result_fine at (Err fault.Division) = λ e. let z : kind.Division ≡ kind.Size = e in cc
  result_fine at (Err fault.Power) = λ e. let z : kind.Power ≡ kind.Size = e in cc

  if_typed : (at : Place) (b : Bool) (r : Result Scalar ScalarFault) → Fine (reported at (cond b (Some (by_kind r)) None))
  if_typed at true r = result_fine at r
  if_typed at false r = tt

  pub scalars_fine : (at : Place) (op : BinOp) (a b : Scalar) → Fine (reported at (binary_result op a b))
  unfolding binary_result
  scalars_fine at op (scalar.Int t m) (scalar.Int u n) = if_typed at (is_same_type t u) (result_of op (scalar.Int t m) (scalar.Int u n))
  scalars_fine at binary.Eq (scalar.Bool a) (scalar.Bool b) = result_fine at _
  scalars_fine at binary.Ne (scalar.Bool a) (scalar.Bool b) = result_fine at _
  scalars_fine at op a b = tt

  combined_fine : (op : BinOp) (at : Place) (s : Scalar) (ds : List Datum) → Fine (combined op at s ds)
  combined_fine op at s [] = tt
  combined_fine op at s (d ∷ ds) = fine_then _ (scalar_of_datum d) _ (scalar_fine d) (λ c. fine_then _ (reported at (binary_result op s c)) _ (scalars_fine at op s c) (λ r. combined_fine op at r ds))

  -- ---- primitives on arrays

  abbrev pub Job_there : Job → Type 0
  Job_there (Done r) = Unit {0}
  Job_there (Apply_each rows k) = (ds : List Datum) → Fine (k ds)
  Job_there (Reduce_each any ne lists k) = (ds : List Datum) → Fine (k ds)
  Job_there (Choose_each ws old k) = (ds : List Datum) → Fine (k ds)

  abbrev Jobs : Out Job → Type 0
  Jobs o = Out_there Job_there o

  done_there : (o : Out Counted) → Fine o → Jobs (done o)
  done_there o h = fine_then Job_there o _ h (λ r. tt)

  rows_then : (d : Datum) (k : Rows → Out Job) → ((r : Rows) → Jobs (k r)) → Jobs (on_rows d k)
  rows_then d k h = fine_then Job_there (rows_of d) k (rows_fine d) h

  exact_then : (d : Datum) (k : ℤ → Out Job) → ((z : ℤ) → Jobs (k z)) → Jobs (on_exact d k)
  exact_then d k h = fine_then Job_there (exact_of d) k (exact_fine d) h

  sized_there : (at : Place) (z : ℤ) (k : ℕ → Out Job) → ((n : ℕ) → Jobs (k n)) → Jobs (sized at z k)
  sized_there at (pos n) k h = h n
  sized_there at (negsuc n) k h = fails Job_there kind.Range at range_kind

  columns_fine : (at : Place) (r : Rows) (ds : List Datum) → Fine (columns true at r ds)
  columns_fine at r [] = tt
  columns_fine at r (d ∷ ds) = fine_then _ (rows_of d) _ (rows_fine d) (λ s. fitted {A = List (List Datum)} (λ x. Unit {0}) (nat_eq (size_of r) (size_of s)) at (and_then (columns true at s ds) (λ rs. Val (beside r.1 rs))) (fine_then _ (columns true at s ds) _ (columns_fine at s ds) (λ rs. tt)))

  mapped_there : (row : Shape) (at : Place) (ds : List Datum) → Jobs (mapped true row at ds)
  mapped_there row at [] = tt
  mapped_there row at (d ∷ ds) = rows_then d _ (λ r. fine_then Job_there (columns true at r ds) _ (columns_fine at r ds) (λ rows. λ es. fresh_fine _ (array_fine at row es)))

  zipped_there : (at : Place) (row : Shape) (ds : List Datum) → Jobs (zipped true at row ds)
  zipped_there at row [] = tt
  zipped_there at row (d ∷ ds) = rows_then d _ (λ r. fine_then Job_there (columns true at r ds) _ (columns_fine at r ds) (λ rows. done_there _ (fresh_fine (array_of at row (map tupled rows)) (light_array at row (map tupled rows)))))

  neutral_there : (r : Rows) (ne : Datum) (o : Out Job) → Jobs o → Jobs (fitting_neutral true r ne o)
  neutral_there r ne o h = by_test (rows_agree r.0 (shape_of ne))
    where
      by_test : (b : Bool) → Jobs (cond b o Wrong)
      by_test true = h
      by_test false = tt

  written_there : (at : Place) (r : Rows) (is vs : Datum) (k : List (ℕ × Datum) → Out Job) → ((ws : List (ℕ × Datum)) → Jobs (k ws)) → Jobs (written true at r is vs k)
  written_there at r is vs k h = rows_then is _ (λ i. rows_then vs _ (λ s. fitted Job_there (nat_eq (size_of i) (size_of s)) at (fitting true (shown_to_agree r s && rows_agree r.0 s.0) at (and_then (each_out exact_of i.1) (λ zs. k (writes (size_of r) zs s.1)))) (fitted Job_there (shown_to_agree r s && rows_agree r.0 s.0) at (and_then (each_out exact_of i.1) (λ zs. k (writes (size_of r) zs s.1))) (fine_then Job_there (each_out exact_of i.1) _ (each_fine exact_of exact_fine i.1) (λ zs. h _)))))

  part_fine : (k : ℕ) (ds : List Datum) → Fine (part_at k ds)
  part_fine k [] = tt
  part_fine zero (d ∷ ds) = tt
  part_fine (suc k) (d ∷ ds) = part_fine k ds

  tuple_fine : (k : ℕ) (d : Datum) → Fine (tuple_part k d)
  tuple_fine k (Tuple_datum ds) = part_fine k (listed ds)
  tuple_fine k (Scalar_datum s) = tt
  tuple_fine k (Array_datum row ds) = tt
  tuple_fine k (Record_datum fs) = tt

  column_fine : (k : ℕ) (r : Rows) → Fine (column k r)
  column_fine k r = fine_then _ (each_out (tuple_part k) r.1) _ (each_fine (tuple_part k) (λ d. tuple_fine k d) r.1) (λ ds. tt)

  unzipped_there : (ks : List ℕ) (d : Datum) (k : List Datum → Out Counted) → ((ds : List Datum) → Fine (k ds)) → Jobs (on_rows d (λ r. and_then (all_columns ks r) (λ ds. done (k ds))))
  unzipped_there ks d k h = rows_then d _ (λ r. fine_then Job_there (all_columns ks r) _ (each_fine (λ k. column k r) (λ k. column_fine k r) ks) (λ ds. done_there (k ds) (h ds)))

  truths_fine : (k : List Bool → Out Counted) → ((bs : List Bool) → Fine (k bs)) → (ds : List Datum) → Fine (truths k ds)
  truths_fine k h ds = fine_then _ (each_out truth_of_datum ds) k (each_fine truth_of_datum truth_fine ds) h

  some_there : (at : Place) (row : Shape) (ds : List Datum) → Jobs (some_rows at row ds)
  some_there at row ds = done_there _ (shared_fine (array_of at row ds) (light_array at row ds))

  inner_fine : (ds : List Datum) → Fine (inner_rows ds)
  inner_fine ds = each_fine (λ d. and_then (rows_of d) (λ r. Val r.1)) (λ d. fine_then _ (rows_of d) _ (rows_fine d) (λ r. tt)) ds

  crossed_fine : (row : Shape) (m k : ℕ) (rs : List (List Datum)) → Fine (crossed row m k rs)
  crossed_fine row zero k rs = tt
  crossed_fine row (suc m) k rs = fine_then _ (each_out (part_at k) rs) _ (each_fine (part_at k) (λ ds. part_fine k ds) rs) (λ ds. fine_then _ (crossed row m (suc k) rs) _ (crossed_fine row m (suc k) rs) (λ es. tt))

  counted_there : (at : Place) (z : ℤ) (r : Rows) (k : ℕ → List Datum) → Jobs (counted_rows at z r k)
  counted_there at (negsuc n) r k = fails Job_there kind.Bounds at bounds
  counted_there at (pos n) r k = tested Job_there (nat_le n (size_of r)) kind.Bounds at (some_rows at r.0 (k n)) bounds (some_there at r.0 (k n))

  summary_there : (op : BinOp) (at : Place) (s : Scalar) (d : Datum) → Jobs (summary op at s d)
  summary_there op at s d = rows_then d _ (λ r. done_there _ (fine_then _ (combined op at s r.1) _ (combined_fine op at s r.1) (λ s. tt)))

  unflat_there : (at : Place) (b : Bool) (o : Out Job) → is_there at ≡ true → Jobs o → Jobs (checked b kind.Size at o)
  unflat_there at true o t h = h
  unflat_there at false o t h = λ e. t

  pub job_there : (row : Shape) (p : Primitive) (at : Place) (ds : List Datum) → Primitive_there is_there p at → Jobs (job true row p at ds)
  unfolding job
  job_there row prim.Map at ds t = mapped_there row at ds
  job_there row prim.Map2 at ds t = mapped_there row at ds
  job_there row prim.Map3 at ds t = mapped_there row at ds
  job_there row prim.Map4 at ds t = mapped_there row at ds
  job_there row prim.Map5 at ds t = mapped_there row at ds
  job_there row prim.Reduce at (ne ∷ d ∷ []) t = rows_then d _ (λ r. neutral_there r ne _ (λ es. fine_then _ (part_at 0 es) _ (part_fine 0 es) (λ e. tt)))
  job_there row prim.ReduceComm at (ne ∷ d ∷ []) t = rows_then d _ (λ r. neutral_there r ne _ (λ es. fine_then _ (part_at 0 es) _ (part_fine 0 es) (λ e. tt)))
  job_there row prim.Scan at (ne ∷ d ∷ []) t = rows_then d _ (λ r. neutral_there r ne _ (λ es. fresh_fine _ (array_fine at r.0 es)))
  job_there row prim.Filter at (d ∷ []) t = rows_then d _ (λ r. λ es. truths_fine _ (λ bs. tt) es)
  job_there row prim.Partition at (d ∷ []) t = rows_then d _ (λ r. λ es. truths_fine _ (λ bs. tt) es)
  job_there row prim.Scatter at (d ∷ is ∷ vs ∷ []) t = rows_then d _ (λ r. written_there at r is vs (λ ws. Val (Choose_each ws r.1 (λ ds. shared (Array_datum r.0 (datums ds))))) (λ ws. λ es. tt))
  job_there row prim.ReduceByIndex at (d ∷ ne ∷ is ∷ vs ∷ []) t = rows_then d _ (λ r. neutral_there r ne _ (written_there at r is vs (λ ws. Val (Reduce_each true ne (places (λ v vs. v ∷ vs) 0 r.1 ws) (in_place_of true at r.0))) (λ ws. λ es. fitted {A = Counted} (λ x. Unit {0}) (all_like r.0 es) at (shared (Array_datum r.0 (datums es))) tt)))
  job_there row prim.Zip at (d ∷ e ∷ []) t = zipped_there at _ (d ∷ e ∷ [])
  job_there row prim.Zip3 at (d ∷ e ∷ f ∷ []) t = zipped_there at _ (d ∷ e ∷ f ∷ [])
  job_there row prim.Unzip at (d ∷ []) t = unzipped_there (0 ∷ 1 ∷ []) d (λ ds. shared (tupled ds)) (λ ds. tt)
  job_there row prim.Unzip3 at (d ∷ []) t = unzipped_there (0 ∷ 1 ∷ 2 ∷ []) d (λ ds. shared (tupled ds)) (λ ds. tt)
  job_there row prim.Iota at (n ∷ []) t = exact_then n _ (λ z. sized_there at z _ (λ k. done_there _ (tested {A = Counted} (λ x. Unit {0}) (nat_le k most_words) kind.TooLarge at (fresh (Array_datum i64_shape (datums (numbers_from k 0)))) heavy tt)))
  job_there row prim.Replicate at (n ∷ d ∷ []) t = exact_then n _ (λ z. sized_there at z _ (λ k. tested Job_there (nat_le (weight (Array_shape k (shape_of d))) most_words) kind.TooLarge at (done (fresh (Array_datum (shape_of d) (datums (replicate k d))))) heavy tt))
  job_there row prim.Tabulate at (n ∷ []) t = exact_then n _ (λ z. sized_there at z _ (λ k. λ es. fine_then _ (array true at row es) _ (array_fine at row es) (λ e. tt)))
  job_there row prim.Indices at (d ∷ []) t = rows_then d _ (λ r. tt)
  job_there row prim.Length at (d ∷ []) t = rows_then d _ (λ r. tt)
  job_there row prim.Null at (d ∷ []) t = rows_then d _ (λ r. tt)
  job_there row prim.Head at (d ∷ []) t = rows_then d _ (λ r. done_there _ (shared_fine _ (found_fine at (first_of_rows r.1))))
  job_there row prim.Last at (d ∷ []) t = rows_then d _ (λ r. done_there _ (shared_fine _ (found_fine at (last_of r.1))))
  job_there row prim.Init at (d ∷ []) t = rows_then d _ (λ r. tested Job_there (not (nat_eq (length r.1) 0)) kind.Bounds at (some_rows at r.0 (all_but_last r.1)) bounds (some_there at r.0 (all_but_last r.1)))
  job_there row prim.Tail at (d ∷ []) t = rows_then d _ (λ r. tested Job_there (not (nat_eq (length r.1) 0)) kind.Bounds at (some_rows at r.0 (drop 1 r.1)) bounds (some_there at r.0 (drop 1 r.1)))
  job_there row prim.Take at (n ∷ d ∷ []) t = exact_then n _ (λ z. rows_then d _ (λ r. counted_there at z r (λ k. take k r.1)))
  job_there row prim.Drop at (n ∷ d ∷ []) t = exact_then n _ (λ z. rows_then d _ (λ r. counted_there at z r (λ k. drop k r.1)))
  job_there row prim.Reverse at (d ∷ []) t = rows_then d _ (λ r. done_there _ (fresh_fine (array_of at r.0 (reverse r.1)) (light_array at r.0 (reverse r.1))))
  job_there row prim.Rotate at (n ∷ d ∷ []) t = exact_then n _ (λ z. rows_then d _ (λ r. done_there _ (fresh_fine (array_of at r.0 (around z r.1)) (light_array at r.0 (around z r.1)))))
  job_there row prim.Concat at (d ∷ e ∷ []) t = rows_then d _ (λ r. rows_then e _ (λ s. fitted Job_there (shown_to_agree r s && rows_agree r.0 s.0) at (done (all_fresh (array_of at (either_row r s) (r.1 ++ s.1)))) (done_there _ (fresh_fine (array_of at (either_row r s) (r.1 ++ s.1)) (light_array at (either_row r s) (r.1 ++ s.1))))))
  job_there row prim.Flatten at (d ∷ []) t = rows_then d _ (λ r. fine_then Job_there (inner_rows r.1) _ (inner_fine r.1) (λ dss. done_there _ (fresh_fine (array_of at (inner r.0) (joined dss)) (light_array at (inner r.0) (joined dss)))))
  job_there row prim.Unflatten at (n ∷ m ∷ d ∷ []) t = exact_then n _ (λ z. exact_then m _ (λ w. rows_then d _ (λ r. sized_there at z _ (λ i. sized_there at w _ (λ j. unflat_there at (nat_eq (i * j) (size_of r)) (unflattened at i j r) t (tested Job_there (nat_le (weight (Array_shape i (Array_shape j r.0))) most_words) kind.TooLarge at (done (fresh (Array_datum (Array_shape j r.0) (datums (grouped r.0 i j r.1))))) heavy tt))))))
  job_there row prim.Transpose at (d ∷ []) t = rows_then d _ (λ r. tested Job_there (nat_le (weight (Array_shape (size r.0) (Array_shape (size_of r) (inner r.0)))) most_words) kind.TooLarge at (and_then (inner_rows r.1) (λ dss. and_then (crossed (inner r.0) (size r.0) 0 dss) (λ ds. done (shared (Array_datum (Array_shape (size_of r) (inner r.0)) (datums ds)))))) heavy (fine_then Job_there (inner_rows r.1) _ (inner_fine r.1) (λ dss. fine_then Job_there (crossed (inner r.0) (size r.0) 0 dss) _ (crossed_fine (inner r.0) (size r.0) 0 dss) (λ ds. tt))))
  job_there row prim.Copy at (d ∷ []) t = tt
  job_there row (prim.Fold folding.Sum i) at (d ∷ []) t = summary_there binary.Add at _ d
  job_there row (prim.Fold folding.Product i) at (d ∷ []) t = summary_there binary.Mul at _ d
  job_there row (prim.Fold folding.Minimum i) at (d ∷ []) t = summary_there binary.Min at _ d
  job_there row (prim.Fold folding.Maximum i) at (d ∷ []) t = summary_there binary.Max at _ d
  job_there row p at ds t = tt
