-- What steps give for arrays without a function, said by rows, and of how many words new arrays are (Futhark Language
-- Reference, "Array operations", and the documentation of its prelude).
use Rattle.std.specs.Prelude.{ℕ, zero, suc, ◌-◌, ◌*◌, ◌||◌, nat_eq, Bool, true, false, cond, List, [], ◌∷◌, ◌++◌, map, take, drop, reverse, length, replicate, slice_get, slice_set, Option, Some, None, ℤ, pos, negsuc, ◌+ℤ◌, ◌-ℤ◌, unsigned_abs}
use Rattle.fut_scalar.specs.Integers.{integer_of, reduced}
use Rattle.fut_scalar.specs.declared.place.Place.{Place}
use Rattle.fut_scalar.specs.declared.report.FailKind.TheVariants as kind
use Rattle.fut_scalar.specs.declared.scalar.IntType.{IntType}
use Rattle.fut_scalar.specs.declared.scalar.IntType.TheVariants.{I64}
use Rattle.fut_scalar.specs.declared.scalar.Scalar.{Scalar}
use Rattle.fut_scalar.specs.declared.scalar.Scalar.TheVariants as scalar
use Rattle.fut_ast.specs.declared.node.End.{End}
use Rattle.fut_flat.specs.declared.act.Part.{Part}
use Rattle.fut_value.specs.Leaves.{in_rows}
use Rattle.fut_meaning.specs.Accessors.{count_of}
use Rattle.fut_meaning.specs.Outcomes.{Out, Val, Wrong, and_then}
use Rattle.fut_meaning.specs.Arrays.{each_out, failure, checked, fitting, or_bounds, picks, Cut, Cut_at, Cut_slice, Cut_backwards, Pick, cut_of, integer_of_scalar, unit_step, range_count}
use Rattle.fut_meaning.specs.Meaning.{counts}
use Rattle.core_ir.specs.Lists.{parts, paired, around, joined, crossed, writes}
use Rattle.core_ir.specs.Bundles.{Component, One, Many, Row, sizes, all_sizes, all_same_sizes, of_width, rows_of, row_sizes, stacked, within_weight, glued, array_words}
use Rattle.core_ir.specs.Plain.{Deed, Index, Transpose, Own, Literal, Empty, Iota, Range, Replicate, Concat, Rotate, Copy, Zip, Flatten, Unflatten, Update}

-- ---- scalars

abbrev pub scalar_in : Component → Out Scalar
scalar_in (One s) = Val s
scalar_in (Many ds ws) = Wrong

abbrev pub exact_in : Component → Out ℤ
exact_in c = and_then (scalar_in c) integer_of_scalar

-- a size that is asked for
abbrev pub sized : {A : Type 0} → Place → ℤ → (ℕ → Out A) → Out A
sized at (negsuc n) k = failure kind.Range at
sized at (pos n) k = k n

abbrev pub sized_by : {A : Type 0} → Place → Component → (ℕ → Out A) → Out A
sized_by at c k = and_then (exact_in c) (λ z. sized at z k)

abbrev pub i64 : ℕ → Scalar
i64 n = scalar.Int I64 n

-- sizes that are told
abbrev pub told_sizes : Row → Out (List ℕ)
told_sizes cs = and_then (each_out exact_in cs) (λ zs. Val (map count_of zs))

abbrev pub all_told : List Row → Out (List (List ℕ))
all_told = each_out told_sizes

-- ---- new arrays

-- an array of scalars
abbrev pub flat : Place → ℕ → List Scalar → Out Row
flat at n ws = within_weight at (Many (n ∷ []) ws ∷ [])

abbrev pub numbers_below : ℕ → List Scalar
numbers_below n = map i64 (counts n 0)

abbrev pub stepped_from : IntType → ℤ → ℤ → ℕ → List Scalar
stepped_from t z step zero = []
stepped_from t z step (suc n) = scalar.Int t (reduced t z) ∷ stepped_from t (z +ℤ step) step n

abbrev pub range_of : Place → IntType → ℤ → ℤ → Option ℕ → Out Row
range_of at t from step None = failure kind.Range at
range_of at t from step (Some n) = flat at n (stepped_from t from step n)

abbrev pub range : Place → Bool → End → List Scalar → Out Row
range at false e (scalar.Int t m ∷ scalar.Int u n ∷ []) = range_of at t (integer_of t m) (unit_step e) (range_count e (integer_of t m) (unit_step e) (integer_of t n))
range at true e (scalar.Int t m ∷ scalar.Int u k ∷ scalar.Int w n ∷ []) =
    range_of at t (integer_of t m) (integer_of t k -ℤ integer_of t m) (range_count e (integer_of t m) (integer_of t k -ℤ integer_of t m) (integer_of t n))
range at stepped e ss = Wrong

abbrev pub replicated : (misfit : Bool) → Place → Component → Row → Out Row
replicated misfit at c row = sized_by at c (λ n. glued misfit at (all_sizes row) (replicate n row))

-- The arrays of a bundle, each with its rows. A row without components counts here as one array without cells.
abbrev pub array_rows : (misfit : Bool) → Place → Row → Out (List Row)
array_rows misfit at bs = rows_of misfit at 1 bs

abbrev pub array_sizes : Row → List (List ℕ)
array_sizes bs = row_sizes 1 bs

abbrev pub concatenated : (misfit : Bool) → Place → Row → Row → Out Row
concatenated misfit at bs cs = and_then (array_rows misfit at bs) (λ rs. and_then (array_rows misfit at cs) (λ ss. glued misfit at (array_sizes bs) (rs ++ ss)))

abbrev pub rotated : (misfit : Bool) → Place → Component → Row → Out Row
rotated misfit at c bs = and_then (exact_in c) (λ z. and_then (array_rows misfit at bs) (λ rs. glued misfit at (array_sizes bs) (around z rs)))

-- the rows of several bundles, side by side
abbrev pub rows_together : (misfit : Bool) → Place → List ℕ → List Row → Out (List Row)
rows_together misfit at (w ∷ []) (bs ∷ []) = rows_of misfit at w bs
rows_together misfit at (w ∷ ws) (bs ∷ bss) =
    and_then (rows_of misfit at w bs) (λ rs. and_then (rows_together misfit at ws bss) (λ ss. fitting misfit (nat_eq (length rs) (length ss)) at (Val (paired rs ss))))
rows_together misfit at ws bss = Wrong

abbrev pub sizes_together : List ℕ → List Row → List (List ℕ)
sizes_together [] bss = []
sizes_together (w ∷ ws) [] = []
sizes_together (w ∷ ws) (bs ∷ bss) = row_sizes w bs ++ sizes_together ws bss

abbrev pub zipped : (misfit : Bool) → Place → List ℕ → List Row → Out Row
zipped misfit at ws bss = and_then (rows_together misfit at ws bss) (glued misfit at (sizes_together ws bss))

-- the rows of each row
abbrev pub inner_rows : (misfit : Bool) → Place → List Row → Out (List (List Row))
inner_rows misfit at = each_out (array_rows misfit at)

abbrev pub inner_sizes : Row → List (List ℕ)
inner_sizes bs = map (drop 2) (all_sizes bs)

abbrev pub flattened : (misfit : Bool) → Place → Row → Out Row
flattened misfit at bs = and_then (array_rows misfit at bs) (λ rs. and_then (inner_rows misfit at rs) (λ rss. glued misfit at (inner_sizes bs) (joined rss)))

-- each of these lists of rows as an array, and those as one
abbrev pub stacked_twice : (misfit : Bool) → Place → ℕ → List (List ℕ) → List (List Row) → Out Row
stacked_twice misfit at m ds rss = and_then (each_out (stacked misfit at ds) rss) (glued misfit at (in_rows m ds))

abbrev pub unflattened : (misfit : Bool) → Place → Component → Component → Row → Out Row
unflattened misfit at c d bs =
    and_then (exact_in c) (λ z. and_then (exact_in d) (λ w. and_then (array_rows misfit at bs) (λ rs. sized at z (λ n. sized at w (λ m.
    checked (nat_eq (n * m) (length rs)) kind.Size at (stacked_twice misfit at m (array_sizes bs) (parts n m rs)))))))

-- ---- views

abbrev pub first_size : List (List ℕ) → ℕ
first_size ((n ∷ ds) ∷ dss) = n
first_size dss = 0

abbrev pub transposed : (misfit : Bool) → Place → Row → Out Row
transposed misfit at bs =
    and_then (array_rows misfit at bs) (λ rs. and_then (inner_rows misfit at rs) (λ rss. stacked_twice misfit at (length rs) (inner_sizes bs) (crossed (first_size (array_sizes bs)) rss)))

-- each part of an index is tested against the sizes, also where there are no rows
abbrev pub cuts : Place → List Pick → List ℕ → Out (List Cut)
cuts at [] ds = Val []
cuts at (p ∷ ps) [] = Wrong
cuts at (p ∷ ps) (n ∷ ds) = and_then (cut_of at n p) (λ c. and_then (cuts at ps ds) (λ cs. Val (c ∷ cs)))

-- how many components a row has in front of further parts: it is an array, where there is one
abbrev pub width_before : {A : Type 0} → ℕ → List A → ℕ
width_before w [] = w
width_before w (x ∷ xs) = 1

-- the sizes of what is cut
abbrev pub cut_sizes : ℕ → List Cut → List (List ℕ) → List (List ℕ)
cut_sizes w [] ds = ds
cut_sizes w (Cut_at i ∷ cs) ds = cut_sizes w cs (map (drop 1) (of_width (width_before w cs) ds))
cut_sizes w (Cut_slice i j ∷ cs) ds = in_rows (j - i) (cut_sizes w cs (map (drop 1) ds))
cut_sizes w (Cut_backwards ∷ cs) ds = in_rows (first_size ds) (cut_sizes w cs (map (drop 1) ds))

-- the rows that are taken, each cut by the rest
unfoldable pub cut : (misfit : Bool) → Place → ℕ → List Cut → Row → Out Row
cut misfit at w [] bs = Val bs
cut misfit at w (Cut_at i ∷ cs) bs = and_then (rows_of misfit at (width_before w cs) bs) (λ rs. and_then (or_bounds at (slice_get rs i)) (cut misfit at w cs))
cut misfit at w (Cut_slice i j ∷ cs) bs = and_then (array_rows misfit at bs) (λ rs. and_then (each_out (cut misfit at w cs) (take (j - i) (drop i rs))) (stacked misfit at (cut_sizes w cs (array_sizes bs))))
cut misfit at w (Cut_backwards ∷ cs) bs = and_then (array_rows misfit at bs) (λ rs. and_then (each_out (cut misfit at w cs) (reverse rs)) (stacked misfit at (cut_sizes w cs (array_sizes bs))))

abbrev pub first_sizes : Row → List ℕ
first_sizes [] = []
first_sizes (c ∷ cs) = sizes c

abbrev pub indexed : (misfit : Bool) → Place → ℕ → List Part → Row → Row → Out Row
indexed misfit at w ps bs is =
    and_then (each_out exact_in is) (λ zs. and_then (picks ps zs) (λ qs. and_then (cuts at qs (first_sizes bs)) (λ cs. and_then (cut misfit at w cs bs) (within_weight at))))

-- ---- writing

abbrev pub row_at : Place → ℤ → List Row → Out Row
row_at at (pos n) rs = or_bounds at (slice_get rs n)
row_at at (negsuc n) rs = failure kind.Bounds at

-- a row in the place of one of these sizes
abbrev pub in_place_of : (misfit : Bool) → Place → List (List ℕ) → Row → Out Row
in_place_of misfit at ds v = fitting misfit (all_same_sizes (all_sizes v) ds) at (Val v)

-- the arrays with another row at an index of several parts
unfoldable pub updated : (misfit : Bool) → Place → List ℤ → Row → Row → Out Row
updated misfit at [] v row = in_place_of misfit at (all_sizes row) v
updated misfit at (z ∷ zs) v bs =
    and_then (rows_of misfit at (width_before (length v) zs) bs) (λ rs. and_then (row_at at z rs) (λ r. and_then (updated misfit at zs v r) (λ r'.
    stacked misfit at (row_sizes (width_before (length v) zs) bs) (slice_set rs (unsigned_abs z) r'))))

-- the numbers in an array of integers
abbrev pub numbers_in : Component → Out (List ℤ)
numbers_in (One s) = Wrong
numbers_in (Many ds ws) = each_out integer_of_scalar ws

-- whether rows of two arrays fit one another, where both have some
abbrev pub agree : List Row → List Row → List (List ℕ) → List (List ℕ) → Bool
agree rs ss ds es = nat_eq (length rs) 0 || (nat_eq (length ss) 0 || all_same_sizes es ds)

-- the rows of an array, and those that are written at its places
abbrev pub written : (misfit : Bool) → Place → ℕ → Row → Component → Row → Out (List Row × List (ℕ × Row))
written misfit at w bs c vs =
    and_then (rows_of misfit at w bs) (λ rs. and_then (numbers_in c) (λ zs. and_then (rows_of misfit at w vs) (λ ss.
    fitting misfit (nat_eq (length zs) (length ss)) at (fitting misfit (agree rs ss (row_sizes w bs) (row_sizes w vs)) at (Val (rs, writes (length rs) zs ss))))))

-- ---- all of them, on their operands by groups

unfoldable pub done : (misfit : Bool) → Deed → Place → List Row → Out Row
done misfit (Index w ps) at (bs ∷ is ∷ []) = indexed misfit at w ps bs is
done misfit Transpose at (bs ∷ []) = transposed misfit at bs
done misfit Own at (bs ∷ []) = Val bs
done misfit Literal at rows = glued misfit at [] rows
done misfit Empty at told = and_then (all_told told) (λ ds. glued misfit at ds [])
done misfit Iota at ((c ∷ []) ∷ []) = sized_by at c (λ n. flat at n (numbers_below n))
done misfit (Range stepped e) at (cs ∷ []) = and_then (each_out scalar_in cs) (range at stepped e)
done misfit Replicate at ((c ∷ []) ∷ row ∷ []) = replicated misfit at c row
done misfit Concat at (bs ∷ cs ∷ []) = concatenated misfit at bs cs
done misfit Rotate at ((c ∷ []) ∷ bs ∷ []) = rotated misfit at c bs
done misfit Copy at (bs ∷ []) = Val bs
done misfit (Zip ws) at bss = zipped misfit at ws bss
done misfit Flatten at (bs ∷ []) = flattened misfit at bs
done misfit Unflatten at ((c ∷ d ∷ []) ∷ bs ∷ []) = unflattened misfit at c d bs
done misfit Update at (bs ∷ is ∷ v ∷ []) = and_then (each_out exact_in is) (λ zs. updated misfit at zs v bs)
done misfit d at css = Wrong

-- whether its arrays are new
abbrev pub is_new : Deed → Bool
is_new (Index w ps) = false
is_new Transpose = false
is_new Own = false
is_new Update = false
is_new d = true

abbrev pub fresh_words : Deed → Row → ℕ
fresh_words d bs = cond (is_new d) (array_words bs) 0
