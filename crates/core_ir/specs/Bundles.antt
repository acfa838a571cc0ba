-- Components: scalars, and arrays by the sizes of their dimensions and their cells in row-major order. An array of tuples is a
-- bundle: an array for each component of a row, all of as many rows. Rows are taken out of a bundle and put into one here, and
-- nowhere else.
use Rattle.std.specs.Prelude.{ℕ, zero, suc, ◌+◌, ◌&&◌, max, nat_eq, nat_le, Bool, true, false, List, [], ◌∷◌, map, flat_map, drop, length, replicate}
use Rattle.fut_scalar.specs.declared.place.Place.{Place}
use Rattle.fut_scalar.specs.declared.report.FailKind.TheVariants as kind
use Rattle.fut_scalar.specs.declared.scalar.Scalar.{Scalar}
use Rattle.fut_value.specs.Leaves.{extent, extents, peaks}
use Rattle.fut_meaning.specs.Outcomes.{Out, Val, Wrong, and_then}
use Rattle.fut_meaning.specs.Arrays.{checked, fitting, most_words}
use Rattle.core_ir.specs.Lists.{parts, beside}

pub data Component : Type 0 where
  One : Scalar → Component
  Many : List ℕ → List Scalar → Component

-- the components of a row
abbrev pub Row : Type 0
Row = List Component

abbrev pub sizes : Component → List ℕ
sizes (One s) = []
sizes (Many ds ws) = ds

abbrev pub cells : Component → List Scalar
cells (One s) = s ∷ []
cells (Many ds ws) = ws

abbrev pub all_sizes : Row → List (List ℕ)
all_sizes = map sizes

-- ---- rows are taken out

-- cells of these sizes; a scalar, where there is none
abbrev pub formed : List ℕ → List Scalar → Component
formed [] [] = Many [] []
formed [] (s ∷ ws) = One s
formed (d ∷ ds) ws = Many (d ∷ ds) ws

abbrev pub rows_in : Component → Out ℕ
rows_in (Many (n ∷ ds) ws) = Val n
rows_in c = Wrong

-- the rows of one array
abbrev pub column : Component → List Component
column (Many (n ∷ ds) ws) = map (formed ds) (parts n (extent ds) ws)
column c = []

-- the arrays have so many rows; what does not fit is the report Size, or Wrong where it is asked for that nothing misfits
abbrev pub as_long : (misfit : Bool) → Place → ℕ → Row → Out ℕ
as_long misfit at n [] = Val n
as_long misfit at n (c ∷ cs) = and_then (rows_in c) (λ m. fitting misfit (nat_eq m n) at (as_long misfit at n cs))

abbrev pub size_of : (misfit : Bool) → Place → Row → Out ℕ
size_of misfit at [] = Wrong
size_of misfit at (c ∷ cs) = and_then (rows_in c) (λ n. as_long misfit at n cs)

-- n rows, from their columns
abbrev pub across : ℕ → Row → List Row
across n [] = replicate n []
across n (c ∷ cs) = beside (column c) (across n cs)

-- the columns of which a row has a component: none, where it has no component
abbrev pub of_width : {A : Type 0} → ℕ → List A → List A
of_width zero cs = []
of_width (suc w) cs = cs

-- the rows of a bundle, with so many components each
unfoldable pub rows_of : (misfit : Bool) → Place → ℕ → Row → Out (List Row)
rows_of misfit at w bs = and_then (size_of misfit at bs) (λ n. Val (across n (of_width w bs)))

-- the sizes of a row of them
abbrev pub row_sizes : ℕ → Row → List (List ℕ)
row_sizes w bs = map (drop 1) (of_width w (all_sizes bs))

-- ---- and put in

abbrev pub first_cells : Row → List Scalar
first_cells [] = []
first_cells (c ∷ cs) = cells c

abbrev pub others : Row → Row
others [] = []
others (c ∷ cs) = cs

abbrev pub columns : ℕ → List (List ℕ) → List Row → Row
columns n [] rows = []
columns n (d ∷ ds) rows = Many (n ∷ d) (flat_map first_cells rows) ∷ columns n ds (map others rows)

-- n rows whose components have these sizes, as a bundle; one array without cells, where a row has no component
abbrev pub bundle : ℕ → List (List ℕ) → List Row → Row
bundle n [] rows = Many (n ∷ 0 ∷ []) [] ∷ []
bundle n (d ∷ ds) rows = columns n (d ∷ ds) rows

abbrev pub same_sizes : List ℕ → List ℕ → Bool
same_sizes [] [] = true
same_sizes [] (e ∷ es) = false
same_sizes (d ∷ ds) [] = false
same_sizes (d ∷ ds) (e ∷ es) = nat_eq d e && same_sizes ds es

abbrev pub all_same_sizes : List (List ℕ) → List (List ℕ) → Bool
all_same_sizes [] [] = true
all_same_sizes [] (e ∷ es) = false
all_same_sizes (d ∷ ds) [] = false
all_same_sizes (d ∷ ds) (e ∷ es) = same_sizes d e && all_same_sizes ds es

-- whether all rows have components of these sizes
abbrev pub all_have : List (List ℕ) → List Row → Bool
all_have ds [] = true
all_have ds (r ∷ rows) = all_same_sizes (all_sizes r) ds && all_have ds rows

-- rows of these sizes as a bundle
unfoldable pub stacked : (misfit : Bool) → Place → List (List ℕ) → List Row → Out Row
stacked misfit at ds rows = fitting misfit (all_have ds rows) at (Val (bundle (length rows) ds rows))

-- the greatest product of the sizes of a leaf, and all words
abbrev pub weight_of : List (List ℕ) → ℕ
weight_of ds = max (peaks 1 ds) (extents ds)

unfoldable pub within_weight : Place → Row → Out Row
within_weight at bs = checked (nat_le (weight_of (all_sizes bs)) most_words) kind.TooLarge at (Val bs)

-- the sizes of the first row, or those that are told where there is none
abbrev pub sizes_or : List (List ℕ) → List Row → List (List ℕ)
sizes_or told [] = told
sizes_or told (r ∷ rows) = all_sizes r

-- a new array of rows, in the order of its reports: they do not fit one another, or all together are too large
unfoldable pub glued : (misfit : Bool) → Place → List (List ℕ) → List Row → Out Row
glued misfit at told rows = and_then (stacked misfit at (sizes_or told rows) rows) (within_weight at)

-- the words of the arrays among components
abbrev pub array_words : Row → ℕ
array_words [] = 0
array_words (One s ∷ cs) = array_words cs
array_words (Many ds ws ∷ cs) = extent ds + array_words cs
