-- What operations on arrays give. Each makes a new array; which memory they share is not spoken of. An array is made of rows
-- of one shape, and of no more words than the greatest weight (Futhark Language Reference, "Array operations").
use Rattle.std.specs.Prelude.{ℕ, zero, suc, ◌+◌, ◌-◌, ◌/◌, ◌&&◌, ◌||◌, nat_le, Bool, true, false, cond, List, [], ◌∷◌, take, drop, reverse, slice_get, slice_set, Option, Some, None, ℤ, pos, negsuc, ◌+ℤ◌, ◌-ℤ◌, int_lt, int_le, unsigned_abs}
use Rattle.fut_scalar.specs.Integers.{integer_of, reduced}
use Rattle.fut_scalar.specs.declared.place.Place.{Place}
use Rattle.fut_scalar.specs.declared.report.FailKind.{FailKind}
use Rattle.fut_scalar.specs.declared.report.FailKind.TheVariants as kind
use Rattle.fut_scalar.specs.declared.scalar.IntType.{IntType}
use Rattle.fut_scalar.specs.declared.scalar.IntType.TheVariants.{I64}
use Rattle.fut_scalar.specs.declared.scalar.Scalar.{Scalar}
use Rattle.fut_scalar.specs.declared.scalar.Scalar.TheVariants as scalar
use Rattle.fut_scalar.specs.declared.scalar.ScalarType.TheVariants as sort
use Rattle.fut_ast.specs.declared.node.End.{End}
use Rattle.fut_ast.specs.declared.node.End.TheVariants as end
use Rattle.fut_flat.specs.declared.act.Part.{Part}
use Rattle.fut_flat.specs.declared.act.Part.TheVariants as part
use Rattle.fut_meaning.specs.Outcomes.{Out, Val, Fail, Wrong, and_then}
use Rattle.fut_value.specs.Data.{Shape, Scalar_shape, Array_shape, Unmet_shape, Datum, Scalar_datum, Array_datum, listed, datums, shape_of, array_words, weight, same_sizes}

abbrev pub failure : {A : Type 0} → FailKind → Place → Out A
failure k at = Fail (record { kind = k; place = at })

abbrev pub checked : {A : Type 0} → Bool → FailKind → Place → Out A → Out A
checked true k at o = o
checked false k at o = failure k at

abbrev pub most_words : ℕ
most_words = 33554432

-- ---- parts of data

-- an array, as what its rows look like and the rows
abbrev pub Rows : Type 0
Rows = Shape × List Datum

abbrev pub rows_of : Datum → Out Rows
rows_of (Array_datum row ds) = Val (row, listed ds)
rows_of d = Wrong

abbrev pub integer_of_scalar : Scalar → Out ℤ
integer_of_scalar (scalar.Int t n) = Val (integer_of t n)
integer_of_scalar (scalar.Bool b) = Wrong

abbrev pub exact_of : Datum → Out ℤ
exact_of (Scalar_datum s) = integer_of_scalar s
exact_of d = Wrong

abbrev pub scalar_of_datum : Datum → Out Scalar
scalar_of_datum (Scalar_datum s) = Val s
scalar_of_datum d = Wrong

abbrev pub truth_of_scalar : Scalar → Out Bool
truth_of_scalar (scalar.Bool b) = Val b
truth_of_scalar (scalar.Int t n) = Wrong

abbrev pub truth_of_datum : Datum → Out Bool
truth_of_datum (Scalar_datum s) = truth_of_scalar s
truth_of_datum d = Wrong

abbrev pub each_out : {A B : Type 0} → (A → Out B) → List A → Out (List B)
each_out g [] = Val []
each_out g (x ∷ xs) = and_then (g x) (λ y. and_then (each_out g xs) (λ ys. Val (y ∷ ys)))

abbrev pub i64 : ℕ → Datum
i64 n = Scalar_datum (scalar.Int I64 n)

-- ---- making arrays

abbrev pub within_weight : Place → Datum → Out Datum
within_weight at d = checked (nat_le (weight (shape_of d)) most_words) kind.TooLarge at (Val d)

abbrev pub all_like : Shape → List Datum → Bool
all_like h [] = true
all_like h (d ∷ ds) = same_sizes h (shape_of d) && all_like h ds

-- what rows look like, where there are some
abbrev pub row_shape : Shape → List Datum → Shape
row_shape otherwise [] = otherwise
row_shape otherwise (d ∷ ds) = shape_of d

-- What does not fit is the report Size; or it is Wrong, where it is asked for that nothing misfits.
abbrev pub fitting : {A : Type 0} → (misfit : Bool) → Bool → Place → Out A → Out A
fitting misfit true at o = o
fitting false false at o = failure kind.Size at
fitting true false at o = Wrong

-- an array of these rows; without rows, of rows of the shape that is told
unfoldable pub array : (misfit : Bool) → Place → (told : Shape) → List Datum → Out Datum
array misfit at told ds = fitting misfit (all_like (row_shape told ds) ds) at (within_weight at (Array_datum (row_shape told ds) (datums ds)))

-- an array of rows that are known to be of one shape
abbrev pub array_of : Place → Shape → List Datum → Out Datum
array_of at row ds = within_weight at (Array_datum row (datums ds))

-- a result and how many words it counts
abbrev pub Counted : Type 0
Counted = ℕ × Datum

-- the arrays in it are new
abbrev pub fresh : Datum → Out Counted
fresh d = Val (array_words (shape_of d), d)

-- nothing in it is new
abbrev pub shared : Datum → Out Counted
shared d = Val (0, d)

-- ---- rows and slices

abbrev pub or_bounds : {A : Type 0} → Place → Option A → Out A
or_bounds at None = failure kind.Bounds at
or_bounds at (Some a) = Val a

-- the row at an index
abbrev pub row_at : Place → ℤ → List Datum → Out Datum
row_at at (pos n) ds = or_bounds at (slice_get ds n)
row_at at (negsuc n) ds = failure kind.Bounds at

-- what a part of an index asks for, once its values are known; an end that is not written is None
pub data Pick : Type 0 where
  Pick_at : ℤ → Pick
  Pick_slice : Option ℤ → Option ℤ → Pick
  Pick_backwards : Pick

abbrev pub and_pick : Pick → Out (List Pick) → Out (List Pick)
and_pick p o = and_then o (λ ps. Val (p ∷ ps))

unfoldable pub picks : List Part → List ℤ → Out (List Pick)
picks [] [] = Val []
picks [] (z ∷ zs) = Wrong
picks (part.At ∷ ps) (z ∷ zs) = and_pick (Pick_at z) (picks ps zs)
picks (part.Slice true true ∷ ps) (z ∷ w ∷ zs) = and_pick (Pick_slice (Some z) (Some w)) (picks ps zs)
picks (part.Slice true false ∷ ps) (z ∷ zs) = and_pick (Pick_slice (Some z) None) (picks ps zs)
picks (part.Slice false true ∷ ps) (z ∷ zs) = and_pick (Pick_slice None (Some z)) (picks ps zs)
picks (part.Slice false false ∷ ps) zs = and_pick (Pick_slice None None) (picks ps zs)
picks (part.Backwards ∷ ps) zs = and_pick Pick_backwards (picks ps zs)
picks ps zs = Wrong

-- what is taken of the rows, once it is known to be there
pub data Cut : Type 0 where
  Cut_at : ℕ → Cut
  Cut_slice : ℕ → ℕ → Cut
  Cut_backwards : Cut

-- how many rows data of a shape has, and what they look like
abbrev pub size : Shape → ℕ
size (Array_shape n h) = n
size h = 0

abbrev pub inner : Shape → Shape
inner (Array_shape n h) = h
inner h = Unmet_shape

-- 0 <= i <= j <= n
abbrev pub slice_cut : Place → ℕ → ℤ → ℤ → Out Cut
slice_cut at n (pos i) (pos j) = checked (nat_le i j && nat_le j n) kind.Bounds at (Val (Cut_slice i j))
slice_cut at n i j = failure kind.Bounds at

abbrev pub or_else : ℤ → Option ℤ → ℤ
or_else z None = z
or_else z (Some w) = w

abbrev pub cut_of : Place → ℕ → Pick → Out Cut
cut_of at n (Pick_at (pos i)) = checked (nat_le (suc i) n) kind.Bounds at (Val (Cut_at i))
cut_of at n (Pick_at (negsuc i)) = failure kind.Bounds at
cut_of at n (Pick_slice i j) = slice_cut at n (or_else (pos 0) i) (or_else (pos n) j)
cut_of at n Pick_backwards = Val Cut_backwards

-- each part is tested against the shape, also where there are no rows
unfoldable pub cuts : Place → List Pick → Shape → Out (List Cut)
cuts at [] h = Val []
cuts at (p ∷ ps) h = and_then (cut_of at (size h) p) (λ c. and_then (cuts at ps (inner h)) (λ cs. Val (c ∷ cs)))

abbrev pub cut_shape : List Cut → Shape → Shape
cut_shape [] h = h
cut_shape (Cut_at i ∷ cs) h = cut_shape cs (inner h)
cut_shape (Cut_slice i j ∷ cs) h = Array_shape (j - i) (cut_shape cs (inner h))
cut_shape (Cut_backwards ∷ cs) h = Array_shape (size h) (cut_shape cs (inner h))

abbrev pub row_or_wrong : Option Datum → (Datum → Out Datum) → Out Datum
row_or_wrong None k = Wrong
row_or_wrong (Some d) k = k d

-- the rows that are taken, each cut by the rest
unfoldable pub cut : List Cut → Datum → Out Datum
cut [] d = Val d
cut (Cut_at i ∷ cs) d = and_then (rows_of d) (λ r. row_or_wrong (slice_get r.1 i) (cut cs))
cut (Cut_slice i j ∷ cs) d = and_then (rows_of d) (λ r. and_then (each_out (cut cs) (take (j - i) (drop i r.1))) (λ ds. Val (Array_datum (cut_shape cs r.0) (datums ds))))
cut (Cut_backwards ∷ cs) d = and_then (rows_of d) (λ r. and_then (each_out (cut cs) (reverse r.1)) (λ ds. Val (Array_datum (cut_shape cs r.0) (datums ds))))

unfoldable pub indexed : Place → List Part → Datum → List Datum → Out Datum
indexed at parts d is =
    and_then (each_out exact_of is) (λ zs. and_then (picks parts zs) (λ ps. and_then (cuts at ps (shape_of d)) (λ cs. and_then (cut cs d) (within_weight at))))

-- ---- updates

-- the data with another one at an index of several parts
unfoldable pub updated : (misfit : Bool) → Place → List ℤ → Datum → Datum → Out Datum
updated misfit at [] v d = fitting misfit (same_sizes (shape_of d) (shape_of v)) at (Val v)
updated misfit at (z ∷ zs) v d = and_then (rows_of d) (λ r. and_then (row_at at z r.1) (λ e. and_then (updated misfit at zs v e) (λ e'. Val (Array_datum r.0 (datums (slice_set r.1 (unsigned_abs z) e'))))))

-- the indices and then the value
abbrev pub last_apart : List Datum → Out (List Datum × Datum)
last_apart [] = Wrong
last_apart (v ∷ []) = Val ([], v)
last_apart (i ∷ v ∷ vs) = and_then (last_apart (v ∷ vs)) (λ r. Val (i ∷ r.0, r.1))

-- ---- ranges

-- how many elements a range has, where it leads to its end
abbrev pub range_count : End → (from step to : ℤ) → Option ℕ
range_count end.Below from step to =
    cond (int_lt (pos 0) step && int_le from to) (Some ((unsigned_abs (to -ℤ from) + unsigned_abs step - 1) / unsigned_abs step)) None
range_count end.Above from step to =
    cond (int_lt step (pos 0) && int_le to from) (Some ((unsigned_abs (from -ℤ to) + unsigned_abs step - 1) / unsigned_abs step)) None
range_count end.Through from step to =
    cond ((int_lt (pos 0) step && int_le from to) || (int_lt step (pos 0) && int_le to from)) (Some (unsigned_abs (to -ℤ from) / unsigned_abs step + 1)) None

abbrev pub stepped_from : IntType → ℤ → ℤ → ℕ → List Datum
stepped_from t z step zero = []
stepped_from t z step (suc n) = Scalar_datum (scalar.Int t (reduced t z)) ∷ stepped_from t (z +ℤ step) step n

-- of so many elements of one word each
abbrev pub if_light : Place → ℕ → Out Datum → Out Datum
if_light at n o = checked (nat_le n most_words) kind.TooLarge at o

abbrev pub range_of : Place → IntType → ℤ → ℤ → Option ℕ → Out Datum
range_of at t from step None = failure kind.Range at
range_of at t from step (Some n) = if_light at n (Val (Array_datum (Scalar_shape (sort.Int t)) (datums (stepped_from t from step n))))

-- without a second number a range steps by 1, or down by 1
abbrev pub unit_step : End → ℤ
unit_step end.Above = negsuc 0
unit_step e = pos 1

abbrev pub range_by : Place → End → IntType → (from step to : ℤ) → Out Datum
range_by at e t from step to = range_of at t from step (range_count e from step to)

unfoldable pub range : Place → Bool → End → List Datum → Out Datum
range at false e (Scalar_datum (scalar.Int t m) ∷ Scalar_datum (scalar.Int u n) ∷ []) = range_by at e t (integer_of t m) (unit_step e) (integer_of t n)
range at true e (Scalar_datum (scalar.Int t m) ∷ Scalar_datum (scalar.Int u k) ∷ Scalar_datum (scalar.Int w n) ∷ []) = range_by at e t (integer_of t m) (integer_of t k -ℤ integer_of t m) (integer_of t n)
range at stepped e ds = Wrong

-- ---- the operations of terms on arrays

-- What is made of parts, where the shape of the rows of an array without rows is told: an array of them, a part or an update of one, or a range
pub data Making : Type 0 where
  Make_array : Making
  Make_index : List Part → Making
  Make_update : Making
  Make_range : Bool → End → Making

abbrev pub all_fresh : Out Datum → Out Counted
all_fresh o = and_then o fresh

abbrev pub all_shared : Out Datum → Out Counted
all_shared o = and_then o shared

unfoldable pub made : (misfit : Bool) → (told : Shape) → Making → Place → List Datum → Out Counted
made misfit told Make_array at ds = all_fresh (array misfit at told ds)
made misfit told (Make_index parts) at (d ∷ is) = all_shared (indexed at parts d is)
made misfit told Make_update at (d ∷ ds) = and_then (last_apart ds) (λ r. and_then (each_out exact_of r.0) (λ zs. all_shared (updated misfit at zs r.1 d)))
made misfit told (Make_range stepped e) at ds = all_fresh (range at stepped e ds)
made misfit told m at ds = Wrong
