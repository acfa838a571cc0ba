-- What a primitive on arrays does with its data: it gives data at once, or it applies the function that it was given, to rows
-- or as the operator of reductions. It is said for data alone, so it is the same in every language, and for functions however
-- they are given (Futhark Language Reference, and the documentation of its prelude).
use Rattle.std.specs.Prelude.{◌≡◌, ◌⊎◌, ℕ, zero, suc, ◌+◌, ◌*◌, ◌||◌, ◌&&◌, nat_le, nat_eq, nat_lt, Bool, true, false, cond, not, List, [], ◌∷◌, ◌++◌, length, take, drop, reverse, replicate, map, Option, Some, None, ℤ, pos, negsuc, unsigned_abs}
use Rattle.std.specs.Int.{int_rem_euclid}
use Rattle.fut_scalar.specs.declared.place.Place.{Place}
use Rattle.fut_scalar.specs.declared.report.FailKind.TheVariants as kind
use Rattle.fut_scalar.specs.declared.scalar.IntType.TheVariants.{I64}
use Rattle.fut_scalar.specs.declared.scalar.Scalar.{Scalar}
use Rattle.fut_scalar.specs.declared.scalar.Scalar.TheVariants as scalar
use Rattle.fut_scalar.specs.declared.scalar.ScalarType.TheVariants as sort
use Rattle.fut_flat.specs.declared.prim.Primitive.{Primitive}
use Rattle.fut_flat.specs.declared.prim.Folding.TheVariants as folding
use Rattle.fut_flat.specs.declared.prim.Primitive.TheVariants as prim
use Rattle.fut_scalar.specs.declared.operator.BinOp.{BinOp}
use Rattle.fut_scalar.specs.declared.operator.BinOp.TheVariants as binary
use Rattle.fut_meaning.specs.Outcomes.{Out, Val, Wrong, and_then, Rel, gives, the, Then, Both, each_of, Bracket}
use Rattle.fut_value.specs.Data.{Shape, Scalar_shape, Tuple_shape, no_shape, shape_and, Array_shape, Unmet_shape, Datum, Scalar_datum, Tuple_datum, no_datum, datum_and, Array_datum, listed, datums, shape_of, array_words, weight, same_sizes}
use Rattle.fut_meaning.specs.Arrays.{fitting, array_of, size, inner, all_like, failure, checked, most_words, Rows, rows_of, exact_of, scalar_of_datum, truth_of_datum, each_out, i64, array, Counted, fresh, shared, all_fresh, all_shared, or_bounds}
use Rattle.fut_meaning.specs.Operators.{binary_result, lowest, highest}
use Rattle.fut_meaning.specs.Operations.{reported}

-- the same elements, in some order
pub data Reordered {A : Type 0} : List A → List A → Type 0 where
  order_kept : {xs : List A} → Reordered xs xs
  order_on : {x : A} {xs ys : List A} → Reordered xs ys → Reordered (x ∷ xs) (x ∷ ys)
  order_swapped : {x y : A} {xs : List A} → Reordered (x ∷ y ∷ xs) (y ∷ x ∷ xs)
  order_then : {xs ys zs : List A} → Reordered xs ys → Reordered ys zs → Reordered xs zs

-- in order, or in any order
abbrev pub In_order : {A : Type 0} → (any : Bool) → List A → List A → Type 0
In_order false xs ys = xs ≡ ys
In_order true xs ys = Reordered xs ys

-- on each element, in any order
abbrev pub all_of : {A B : Type 0} → (A → Rel B) → List A → Rel (List B)
all_of g [] = gives 0 []
all_of g (x ∷ xs) = Both (g x) (all_of g xs) (λ y ys. gives 0 (y ∷ ys))

abbrev pub Is_one_of : {A : Type 0} → List A → A → Type 0
Is_one_of [] a = ⊥
Is_one_of (x ∷ xs) a = (x ≡ a) ⊎ Is_one_of xs a

-- some element
pub data Some_of {A : Type 0} (xs : List A) : Out A → ℕ → Type 0 where
  some_of : {x : A} → Is_one_of xs x → Some_of xs (Val x) 0

-- where this is shown
pub data Shown {A : Type 0} (P : Type 0) (m : Rel A) : Out A → ℕ → Type 0 where
  shown : {o : Out A} {f : ℕ} → P → m o f → Shown P m o f

pub data Job : Type 0 where
  Done : Counted → Job
  -- the function on each of these rows of arguments, and then what is made of the results
  Apply_each : List (List Datum) → (List Datum → Out Counted) → Job
  -- a reduction of each of these lists, in any order or in theirs, and then what is made of the results
  Reduce_each : (any : Bool) → Datum → List (List Datum) → (List Datum → Out Counted) → Job
  -- for each of these rows one that is written at its place, or itself where none is, and then what is made of them
  Choose_each : List (ℕ × Datum) → List Datum → (List Datum → Out Counted) → Job

-- the rows that are written at a place
abbrev pub written_at : {A : Type 0} → ℕ → List (ℕ × A) → List A
written_at k [] = []
written_at k (w ∷ ws) = cond (nat_eq w.0 k) (w.1 ∷ written_at k ws) (written_at k ws)

-- the old row where none is written
abbrev pub or_old : {A : Type 0} → A → List A → List A
or_old v [] = v ∷ []
or_old v (w ∷ ws) = w ∷ ws

-- for each row from place `k` on, what may stand there, or what is reduced there
abbrev pub places : {A : Type 0} → (A → List A → List A) → ℕ → List A → List (ℕ × A) → List (List A)
places with k [] ws = []
places with k (v ∷ vs) ws = with v (written_at k ws) ∷ places with (suc k) vs ws

-- what a function gives for arguments
abbrev pub Applied : Type 1
Applied = List Datum → Rel Datum

abbrev pub two_of : Applied → Datum → Datum → Rel Datum
two_of f a b = f (a ∷ b ∷ [])

-- a reduction, of which the mode asks for something
pub data Reduces (tight any : Bool) (Fits : Datum → List Datum → Type 0) (f : Applied) (ne : Datum) (xs : List Datum) : Out Datum → ℕ → Type 0 where
  reduces : {ys : List Datum} {o : Out Datum} {n : ℕ} → Fits ne xs → In_order any xs ys → Bracket tight (two_of f) ne ys o n → Reduces tight any Fits f ne xs o n

abbrev pub finished : (List Datum → Out Counted) → List Datum → Rel Datum
finished k ds = Then (the (k ds)) (λ r. gives r.0 r.1)

-- what a job may give: `Fits` is asked of each reduction, and `Writes` of what a scatter writes
abbrev pub job_means : (tight : Bool) → (Bool → Datum → List Datum → Type 0) → (List (ℕ × Datum) → Type 0) → Applied → Job → Rel Datum
job_means tight Fits Writes f (Done r) = gives r.0 r.1
job_means tight Fits Writes f (Apply_each rows k) = Then (each_of f rows) (finished k)
job_means tight Fits Writes f (Reduce_each any ne lists k) = Then (all_of (Reduces tight any (Fits any) f ne) lists) (finished k)
job_means tight Fits Writes f (Choose_each ws old k) = Then (Shown (Writes ws) (all_of Some_of (places or_old 0 old ws))) (finished k)

-- ---- the primitives

abbrev pub done : Out Counted → Out Job
done o = and_then o (λ r. Val (Done r))

abbrev pub on_rows : Datum → (Rows → Out Job) → Out Job
on_rows d k = and_then (rows_of d) k

abbrev pub on_exact : Datum → (ℤ → Out Job) → Out Job
on_exact d k = and_then (exact_of d) k

abbrev pub i64_shape : Shape
i64_shape = Scalar_shape (sort.Int I64)

-- 0, 1, .. : so many from `i` on
abbrev pub numbers_from : ℕ → ℕ → List Datum
numbers_from zero i = []
numbers_from (suc n) i = i64 i ∷ numbers_from n (suc i)

-- a size that is asked for
abbrev pub sized : Place → ℤ → (ℕ → Out Job) → Out Job
sized at (negsuc n) k = failure kind.Range at
sized at (pos n) k = k n

abbrev pub size_of : Rows → ℕ
size_of r = length r.1

-- arrays of one size
abbrev pub same_size : {A : Type 0} → (misfit : Bool) → Place → Rows → Rows → Out A → Out A
same_size misfit at r s o = fitting misfit (nat_eq (size_of r) (size_of s)) at o

-- whether rows of these shapes fit, where an array without rows may have rows of a shape that nothing has given
abbrev pub rows_agree : Shape → Shape → Bool
rows_agree Unmet_shape k = true
rows_agree h Unmet_shape = true
rows_agree h k = same_sizes h k

abbrev pub or_met : Shape → Shape → Shape
or_met Unmet_shape k = k
or_met h k = h

-- the rows of two arrays, where both have some
abbrev pub shown_to_agree : Rows → Rows → Bool
shown_to_agree r s = nat_eq (size_of r) 0 || (nat_eq (size_of s) 0 || same_sizes r.0 s.0)

-- Whether the rows of two arrays fit one another. Without rows an array shows nothing of their sizes.
abbrev pub fitting_rows : {A : Type 0} → (misfit : Bool) → Place → Rows → Rows → Out A → Out A
fitting_rows false at r s o = fitting false (shown_to_agree r s) at o
fitting_rows true at r s o = fitting true (shown_to_agree r s && rows_agree r.0 s.0) at o

-- The neutral element has the sizes of the elements. A run does not ask for it, since its results show whether they fit.
abbrev pub fitting_neutral : {A : Type 0} → (misfit : Bool) → Rows → Datum → Out A → Out A
fitting_neutral false r ne o = o
fitting_neutral true r ne o = cond (rows_agree r.0 (shape_of ne)) o Wrong

-- what the rows of both look like
abbrev pub either_row : Rows → Rows → Shape
either_row r s = cond (nat_eq (size_of r) 0) (cond (nat_eq (size_of s) 0) (or_met r.0 s.0) s.0) r.0

-- a further column beside rows
abbrev pub beside : List Datum → List (List Datum) → List (List Datum)
beside [] rs = []
beside (d ∷ ds) [] = []
beside (d ∷ ds) (r ∷ rs) = (d ∷ r) ∷ beside ds rs

abbrev pub alone : List Datum → List (List Datum)
alone ds = map (λ d. d ∷ []) ds

-- the rows of arrays of one size, side by side
abbrev pub columns : (misfit : Bool) → Place → Rows → List Datum → Out (List (List Datum))
columns misfit at r [] = Val (alone r.1)
columns misfit at r (d ∷ ds) = and_then (rows_of d) (λ s. same_size misfit at r s (and_then (columns misfit at s ds) (λ rs. Val (beside r.1 rs))))

abbrev pub array_of_results : (misfit : Bool) → (told : Shape) → Place → List Datum → Out Counted
array_of_results misfit told at ds = all_fresh (array misfit at told ds)

-- the indices count too
abbrev pub array_of_indices : (misfit : Bool) → (told : Shape) → Place → ℕ → List Datum → Out Counted
array_of_indices misfit told at n ds = and_then (array misfit at told ds) (λ e. Val (array_words (shape_of e) + n, e))

abbrev pub mapped : (misfit : Bool) → (told : Shape) → Place → List Datum → Out Job
mapped misfit told at [] = Wrong
mapped misfit told at (d ∷ ds) = on_rows d (λ r. and_then (columns misfit at r ds) (λ rows. Val (Apply_each rows (array_of_results misfit told at))))

-- a tuple of the parts of each row
abbrev pub tupled : List Datum → Datum
tupled ds = Tuple_datum (datums ds)

abbrev pub zipped : (misfit : Bool) → Place → Shape → List Datum → Out Job
zipped misfit at row [] = Wrong
zipped misfit at row (d ∷ ds) = on_rows d (λ r. and_then (columns misfit at r ds) (λ rows. done (all_fresh (array_of at row (map tupled rows)))))

abbrev pub row_of : Datum → Shape
row_of (Array_datum row ds) = row
row_of d = Unmet_shape

abbrev pub part_shape : ℕ → Shape → Shape
part_shape zero (Tuple_shape (shape_and h hs)) = h
part_shape (suc k) (Tuple_shape (shape_and h hs)) = part_shape k (Tuple_shape hs)
part_shape k h = Unmet_shape

abbrev pub part_at : ℕ → List Datum → Out Datum
part_at k [] = Wrong
part_at zero (d ∷ ds) = Val d
part_at (suc k) (d ∷ ds) = part_at k ds

abbrev pub tuple_part : ℕ → Datum → Out Datum
tuple_part k (Tuple_datum ds) = part_at k (listed ds)
tuple_part k d = Wrong

-- the parts of each row at a position
abbrev pub column : ℕ → Rows → Out Datum
column k r = and_then (each_out (tuple_part k) r.1) (λ ds. Val (Array_datum (part_shape k r.0) (datums ds)))

abbrev pub all_columns : List ℕ → Rows → Out (List Datum)
all_columns ks r = each_out (λ k. column k r) ks

-- those that pass, or those that do not
abbrev pub sifted : Bool → List Datum → List Bool → List Datum
sifted b [] bs = []
sifted b (d ∷ ds) [] = []
sifted true (d ∷ ds) (true ∷ bs) = d ∷ sifted true ds bs
sifted true (d ∷ ds) (false ∷ bs) = sifted true ds bs
sifted false (d ∷ ds) (true ∷ bs) = sifted false ds bs
sifted false (d ∷ ds) (false ∷ bs) = d ∷ sifted false ds bs

-- arrays of rows of this one, which count its words
abbrev pub counting : Datum → Out Datum → Out Counted
counting d o = and_then o (λ e. Val (array_words (shape_of d), e))

abbrev pub two_arrays : Shape → List Datum → List Bool → Datum
two_arrays row ds bs = Tuple_datum (datum_and (Array_datum row (datums (sifted true ds bs))) (datum_and (Array_datum row (datums (sifted false ds bs))) no_datum))

-- the prefixes of a list that are not empty, the shortest first
abbrev pub prefixes_on : List Datum → List Datum → List (List Datum)
prefixes_on done [] = []
prefixes_on done (d ∷ ds) = (done ++ d ∷ []) ∷ prefixes_on (done ++ d ∷ []) ds

-- which of these rows are written at places below `n`: their places, and the rows; the others are passed over
abbrev pub and_write : ℕ → ℤ → Datum → List (ℕ × Datum) → List (ℕ × Datum)
and_write n (pos k) v ws = cond (nat_lt k n) ((k, v) ∷ ws) ws
and_write n (negsuc k) v ws = ws

abbrev pub writes : ℕ → List ℤ → List Datum → List (ℕ × Datum)
writes n [] vs = []
writes n (z ∷ zs) [] = []
writes n (z ∷ zs) (v ∷ vs) = and_write n z v (writes n zs vs)

-- an index for each row, and rows like those of the array whose places they name
abbrev pub written : (misfit : Bool) → Place → Rows → Datum → Datum → (List (ℕ × Datum) → Out Job) → Out Job
written misfit at r is vs k = on_rows is (λ i. on_rows vs (λ s. same_size misfit at i s (fitting_rows misfit at r s (and_then (each_out exact_of i.1) (λ zs. k (writes (size_of r) zs s.1))))))

abbrev pub scattered : (misfit : Bool) → Place → Datum → Datum → Datum → Out Job
scattered misfit at d is vs = on_rows d (λ r. written misfit at r is vs (λ ws. Val (Choose_each ws r.1 (λ ds. shared (Array_datum r.0 (datums ds))))))

-- results in the places of rows, which have to be like them
abbrev pub in_place_of : (misfit : Bool) → Place → Shape → List Datum → Out Counted
in_place_of misfit at row ds = fitting misfit (all_like row ds) at (shared (Array_datum row (datums ds)))

abbrev pub histogram : (misfit : Bool) → Place → Datum → Datum → Datum → Datum → Out Job
histogram misfit at d ne is vs = on_rows d (λ r. fitting_neutral misfit r ne (written misfit at r is vs (λ ws. Val (Reduce_each true ne (places (λ v vs. v ∷ vs) 0 r.1 ws) (in_place_of misfit at r.0)))))

abbrev pub reduced : (misfit any : Bool) → Datum → Datum → Out Job
reduced misfit any ne d = on_rows d (λ r. fitting_neutral misfit r ne (Val (Reduce_each any ne (r.1 ∷ []) (λ ds. and_then (part_at 0 ds) fresh))))

abbrev pub scanned : (misfit : Bool) → Place → Datum → Datum → Out Job
scanned misfit at ne d = on_rows d (λ r. fitting_neutral misfit r ne (Val (Reduce_each false ne (prefixes_on [] r.1) (λ ds. all_fresh (array misfit at r.0 ds)))))

-- the first and the last, in front of or behind which nothing stands
abbrev pub all_but_last : List Datum → List Datum
all_but_last [] = []
all_but_last (d ∷ []) = []
all_but_last (d ∷ e ∷ ds) = d ∷ all_but_last (e ∷ ds)

abbrev pub last_of : List Datum → Option Datum
last_of [] = None
last_of (d ∷ []) = Some d
last_of (d ∷ e ∷ ds) = last_of (e ∷ ds)

abbrev pub first_of_rows : List Datum → Option Datum
first_of_rows [] = None
first_of_rows (d ∷ ds) = Some d

-- these rows of an array
abbrev pub some_rows : Place → Shape → List Datum → Out Job
some_rows at row ds = done (all_shared (array_of at row ds))

abbrev pub if_some_row : Place → List Datum → Out Job → Out Job
if_some_row at ds o = checked (not (nat_eq (length ds) 0)) kind.Bounds at o

-- as many rows as are asked for, where there are so many
abbrev pub counted_rows : Place → ℤ → Rows → (ℕ → List Datum) → Out Job
counted_rows at (negsuc n) r k = failure kind.Bounds at
counted_rows at (pos n) r k = checked (nat_le n (size_of r)) kind.Bounds at (some_rows at r.0 (k n))

-- element i is the one at i + r, counted around
abbrev pub around : ℤ → List Datum → List Datum
around z ds = drop (unsigned_abs (int_rem_euclid z (pos (length ds)))) ds ++ take (unsigned_abs (int_rem_euclid z (pos (length ds)))) ds

abbrev pub joined : List (List Datum) → List Datum
joined [] = []
joined (ds ∷ dss) = ds ++ joined dss

abbrev pub inner_rows : List Datum → Out (List (List Datum))
inner_rows ds = each_out (λ d. and_then (rows_of d) (λ r. Val r.1)) ds

-- n groups of m
abbrev pub grouped : Shape → ℕ → ℕ → List Datum → List Datum
grouped row zero m ds = []
grouped row (suc n) m ds = Array_datum row (datums (take m ds)) ∷ grouped row n m (drop m ds)

-- the elements of each row at a position, for each position below `m`
abbrev pub crossed : Shape → ℕ → ℕ → List (List Datum) → Out (List Datum)
crossed row zero k rs = Val []
crossed row (suc m) k rs = and_then (each_out (part_at k) rs) (λ ds. and_then (crossed row m (suc k) rs) (λ es. Val (Array_datum row (datums ds) ∷ es)))

abbrev pub truths : (List Bool → Out Counted) → List Datum → Out Counted
truths k ds = and_then (each_out truth_of_datum ds) k

abbrev pub of_weight : Place → Shape → Out Job → Out Job
of_weight at h o = checked (nat_le (weight h) most_words) kind.TooLarge at o

abbrev pub concatenated : (misfit : Bool) → Place → Datum → Datum → Out Job
concatenated misfit at d e = on_rows d (λ r. on_rows e (λ s. fitting_rows misfit at r s (done (all_fresh (array_of at (either_row r s) (r.1 ++ s.1))))))

abbrev pub unflattened : Place → ℕ → ℕ → Rows → Out Job
unflattened at i j r = of_weight at (Array_shape i (Array_shape j r.0)) (done (fresh (Array_datum (Array_shape j r.0) (datums (grouped r.0 i j r.1)))))

abbrev pub transposed : Place → Rows → Out Job
transposed at r =
    of_weight at (Array_shape (size r.0) (Array_shape (size_of r) (inner r.0)))
    (and_then (inner_rows r.1) (λ dss. and_then (crossed (inner r.0) (size r.0) 0 dss) (λ ds. done (shared (Array_datum (Array_shape (size_of r) (inner r.0)) (datums ds))))))

-- a scalar and the elements of an array, combined one after the other
abbrev pub combined : BinOp → Place → Scalar → List Datum → Out Scalar
combined op at s [] = Val s
combined op at s (d ∷ ds) = and_then (scalar_of_datum d) (λ c. and_then (reported at (binary_result op s c)) (λ r. combined op at r ds))

-- a reduction by an operator of the language, of which all orders give the same
abbrev pub summary : BinOp → Place → Scalar → Datum → Out Job
summary op at ne d = on_rows d (λ r. done (and_then (combined op at ne r.1) (λ s. fresh (Scalar_datum s))))

-- A primitive at its place with all its data, the function left out: where nothing misfits or not, and where the shape of the rows of
-- what `map` and `tabulate` make without rows is told.
unfoldable pub job : (misfit : Bool) → (told : Shape) → Primitive → Place → List Datum → Out Job
job misfit told prim.Map at ds = mapped misfit told at ds
job misfit told prim.Map2 at ds = mapped misfit told at ds
job misfit told prim.Map3 at ds = mapped misfit told at ds
job misfit told prim.Map4 at ds = mapped misfit told at ds
job misfit told prim.Map5 at ds = mapped misfit told at ds
job misfit told prim.Reduce at (ne ∷ d ∷ []) = reduced misfit false ne d
job misfit told prim.ReduceComm at (ne ∷ d ∷ []) = reduced misfit true ne d
job misfit told prim.Scan at (ne ∷ d ∷ []) = scanned misfit at ne d
job misfit told prim.Filter at (d ∷ []) = on_rows d (λ r. Val (Apply_each (alone r.1) (truths (λ bs. counting d (Val (Array_datum r.0 (datums (sifted true r.1 bs))))))))
job misfit told prim.Partition at (d ∷ []) = on_rows d (λ r. Val (Apply_each (alone r.1) (truths (λ bs. counting d (Val (two_arrays r.0 r.1 bs))))))
job misfit told prim.Scatter at (d ∷ is ∷ vs ∷ []) = scattered misfit at d is vs
job misfit told prim.ReduceByIndex at (d ∷ ne ∷ is ∷ vs ∷ []) = histogram misfit at d ne is vs
job misfit told prim.Zip at (d ∷ e ∷ []) = zipped misfit at (Tuple_shape (shape_and (row_of d) (shape_and (row_of e) no_shape))) (d ∷ e ∷ [])
job misfit told prim.Zip3 at (d ∷ e ∷ f ∷ []) = zipped misfit at (Tuple_shape (shape_and (row_of d) (shape_and (row_of e) (shape_and (row_of f) no_shape)))) (d ∷ e ∷ f ∷ [])
job misfit told prim.Unzip at (d ∷ []) = on_rows d (λ r. and_then (all_columns (0 ∷ 1 ∷ []) r) (λ ds. done (shared (tupled ds))))
job misfit told prim.Unzip3 at (d ∷ []) = on_rows d (λ r. and_then (all_columns (0 ∷ 1 ∷ 2 ∷ []) r) (λ ds. done (shared (tupled ds))))
job misfit told prim.Iota at (n ∷ []) = on_exact n (λ z. sized at z (λ k. done (checked (nat_le k most_words) kind.TooLarge at (fresh (Array_datum i64_shape (datums (numbers_from k 0)))))))
job misfit told prim.Replicate at (n ∷ d ∷ []) = on_exact n (λ z. sized at z (λ k. of_weight at (Array_shape k (shape_of d)) (done (fresh (Array_datum (shape_of d) (datums (replicate k d)))))))
job misfit told prim.Tabulate at (n ∷ []) = on_exact n (λ z. sized at z (λ k. Val (Apply_each (alone (numbers_from k 0)) (array_of_indices misfit told at k))))
job misfit told prim.Indices at (d ∷ []) = on_rows d (λ r. done (fresh (Array_datum i64_shape (datums (numbers_from (size_of r) 0)))))
job misfit told prim.Length at (d ∷ []) = on_rows d (λ r. done (shared (i64 (size_of r))))
job misfit told prim.Null at (d ∷ []) = on_rows d (λ r. done (shared (Scalar_datum (scalar.Bool (nat_eq (size_of r) 0)))))
job misfit told prim.Head at (d ∷ []) = on_rows d (λ r. done (and_then (or_bounds at (first_of_rows r.1)) shared))
job misfit told prim.Last at (d ∷ []) = on_rows d (λ r. done (and_then (or_bounds at (last_of r.1)) shared))
job misfit told prim.Init at (d ∷ []) = on_rows d (λ r. if_some_row at r.1 (some_rows at r.0 (all_but_last r.1)))
job misfit told prim.Tail at (d ∷ []) = on_rows d (λ r. if_some_row at r.1 (some_rows at r.0 (drop 1 r.1)))
job misfit told prim.Take at (n ∷ d ∷ []) = on_exact n (λ z. on_rows d (λ r. counted_rows at z r (λ k. take k r.1)))
job misfit told prim.Drop at (n ∷ d ∷ []) = on_exact n (λ z. on_rows d (λ r. counted_rows at z r (λ k. drop k r.1)))
job misfit told prim.Reverse at (d ∷ []) = on_rows d (λ r. done (all_fresh (array_of at r.0 (reverse r.1))))
job misfit told prim.Rotate at (n ∷ d ∷ []) = on_exact n (λ z. on_rows d (λ r. done (all_fresh (array_of at r.0 (around z r.1)))))
job misfit told prim.Concat at (d ∷ e ∷ []) = concatenated misfit at d e
job misfit told prim.Flatten at (d ∷ []) = on_rows d (λ r. and_then (inner_rows r.1) (λ dss. done (all_fresh (array_of at (inner r.0) (joined dss)))))
job misfit told prim.Unflatten at (n ∷ m ∷ d ∷ []) =
    on_exact n (λ z. on_exact m (λ w. on_rows d (λ r. sized at z (λ i. sized at w (λ j.
    checked (nat_eq (i * j) (size_of r)) kind.Size at (unflattened at i j r))))))
job misfit told prim.Transpose at (d ∷ []) = on_rows d (transposed at)
job misfit told prim.Copy at (d ∷ []) = done (fresh d)
job misfit told (prim.Fold folding.Sum t) at (d ∷ []) = summary binary.Add at (scalar.Int t 0) d
job misfit told (prim.Fold folding.Product t) at (d ∷ []) = summary binary.Mul at (scalar.Int t 1) d
job misfit told (prim.Fold folding.Minimum t) at (d ∷ []) = summary binary.Min at (scalar.Int t (highest t)) d
job misfit told (prim.Fold folding.Maximum t) at (d ∷ []) = summary binary.Max at (scalar.Int t (lowest t)) d
job misfit told p at ds = Wrong
