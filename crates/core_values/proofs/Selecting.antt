-- Rows of an array that are taken in some order: the array of these rows has the bundle of theirs. A row without components is
-- taken as one array without cells, of which the bundle is made again.
use Rattle.std.proofs.Common.{◌≡◌, ℕ, zero, suc, Bool, true, false, List, [], ◌∷◌, ◌++◌, map, flat_map, take, drop, length, replicate, ℤ, pos, negsuc, unsigned_abs, refl, sym, ap, ◌∙◌, subst}
use Rattle.std.specs.Int.{int_rem_euclid}
use Rattle.std.proofs.lemmas.List.{length-map, map-append}
use Rattle.fut_scalar.specs.declared.place.Place.{Place}
use Rattle.fut_scalar.specs.declared.scalar.Scalar.{Scalar}
use Rattle.fut_value.specs.Data.{Shape, Datum, Array_datum, Datums, listed, datums, shape_of}
use Rattle.fut_value.specs.Leaves.{in_rows, leaves}
use Rattle.fut_meaning.specs.Arrays.{fitting, array_of}
use Rattle.fut_meaning.specs.Arrays as source
use Rattle.fut_meaning.specs.Jobs as jobs
use Rattle.fut_meaning.specs.Outcomes.{Val, and_then}
use Rattle.fut_meaning.proofs.Safe.{Every}
use Rattle.core_ir.specs.Lists.{parts, beside, around, sifted}
use Rattle.core_ir.specs.Bundles.{Many, Row, all_sizes, formed, across, of_width, rows_of, all_have, bundle, first_cells, stacked, within_weight, sizes_or, glued}
use Rattle.core_ir.specs.Arrays.{row_at, array_rows, array_sizes}
use Rattle.core_ir.specs.Meaning.{kept}
use Rattle.core_values.specs.Components.{components, each_components, One_type, Regular, an_array}
use Rattle.core_values.specs.Claims.{apart}
use Rattle.core_values.proofs.Good.{components_are_sized, good_components, good_each, Good_row, good_none, good_and, Good_rows, no_rows, rows_and, each_many}
use Rattle.core_values.proofs.Rows.{bundle_size, wider, rows_come_out, each_is}
use Rattle.core_values.proofs.Making.{bundle_sizes, arrays_are_made}
use Rattle.core_values.proofs.Updating.{Is_row, rows_listed, stacked_all}
use Rattle.core_values.proofs.Zipping.{typed_rows, known_array}

-- a row as an array has it
abbrev pub full : Row → Row
full [] = Many (0 ∷ []) [] ∷ []
full (c ∷ cs) = c ∷ cs

abbrev pub full_sizes : List (List ℕ) → List (List ℕ)
full_sizes [] = (0 ∷ []) ∷ []
full_sizes (d ∷ ds) = d ∷ ds

full_same : (d : List ℕ) (ds : List (List ℕ)) (rows : List Row) → Good_rows (d ∷ ds) rows → map full rows ≡ rows
full_same d ds _ no_rows = refl
full_same d ds _ (rows_and {rows = rows} (good_and {c = c} {cs} e g r) k) = ap (λ z. (c ∷ cs) ∷ z) (full_same d ds rows k)

-- ---- rows of an array without cells

no_parts : (n : ℕ) → parts {A = Scalar} n 0 [] ≡ replicate n []
no_parts zero = refl
no_parts (suc n) = ap (λ z. [] ∷ z) (no_parts n)

bare_beside : (n : ℕ) → beside (map (formed (0 ∷ [])) (replicate n [])) (replicate n []) ≡ replicate n (Many (0 ∷ []) [] ∷ [])
bare_beside zero = refl
bare_beside (suc n) = ap (λ z. (Many (0 ∷ []) [] ∷ []) ∷ z) (bare_beside n)

bare_full : (rows : List Row) → Good_rows [] rows → replicate (length rows) (Many (0 ∷ []) [] ∷ []) ≡ map full rows
bare_full _ no_rows = refl
bare_full _ (rows_and {rows = rows} good_none k) = ap (λ z. (Many (0 ∷ []) [] ∷ []) ∷ z) (bare_full rows k)

bare_across : (rows : List Row) → Good_rows [] rows → across (length rows) (bundle (length rows) [] rows) ≡ map full rows
bare_across rows g =
    ap (λ z. beside (map (formed (0 ∷ [])) z) (replicate (length rows) [])) (no_parts (length rows)) ∙ bare_beside (length rows) ∙ bare_full rows g

rows_full : (misfit : Bool) (at : Place) (ds : List (List ℕ)) (rows : List Row) → Good_rows ds rows → rows_of misfit at (length ds) (bundle (length rows) ds rows) ≡ Val rows → array_rows misfit at (bundle (length rows) ds rows) ≡ Val (map full rows)
unfolding rows_of
rows_full misfit at [] rows g e = ap (λ z. and_then z (λ n. Val (across n (bundle (length rows) [] rows)))) (bundle_size misfit at (length rows) [] rows) ∙ ap Val (bare_across rows g)
rows_full misfit at (d ∷ ds) rows g e = wider misfit at 0 (length ds) (bundle (length rows) (d ∷ ds) rows) ∙ e ∙ ap Val (sym (full_same d ds rows g))

-- the rows of an array
pub array_rows_are : (misfit : Bool) (at : Place) (row : Shape) (ds : Datums) → Regular (Array_datum row ds) → array_rows misfit at (components (Array_datum row ds)) ≡ Val (map full (map components (listed ds)))
unfolding components
array_rows_are misfit at row ds (an_array o a) =
    ap (λ n. array_rows misfit at (bundle n (leaves row) (each_components ds))) (sym (each_many ds))
    ∙ rows_full misfit at (leaves row) (each_components ds) (good_each a) (ap (λ n. rows_of misfit at (length (leaves row)) (bundle n (leaves row) (each_components ds))) (each_many ds) ∙ rows_come_out misfit at row ds (an_array o a) ∙ ap Val (sym (each_is ds)))
    ∙ ap (λ z. Val (map full z)) (each_is ds)

sizes_full : (n : ℕ) (ds : List (List ℕ)) → map (drop 1) (of_width 1 (in_rows n ds)) ≡ full_sizes ds
sizes_full n [] = refl
sizes_full n (d ∷ ds) = dropped (d ∷ ds)
  where
    dropped : (ds : List (List ℕ)) → map (drop 1) (map (λ sizes. n ∷ sizes) ds) ≡ ds
    dropped [] = refl
    dropped (d ∷ ds) = ap (λ z. d ∷ z) (dropped ds)

pub array_sizes_are : (row : Shape) (ds : Datums) → array_sizes (components (Array_datum row ds)) ≡ full_sizes (leaves row)
unfolding components
array_sizes_are row ds = ap (λ z. map (drop 1) (of_width 1 z)) (bundle_sizes (length (listed ds)) (leaves row) (each_components ds)) ∙ sizes_full (length (listed ds)) (leaves row)

-- ---- and as a bundle again

good_list : (row : Shape) (ds : List Datum) → Every (Is_row row) ds → Good_rows (leaves row) (map components ds)
good_list row [] e = no_rows
good_list row (d ∷ ds) e = rows_and (subst (λ z. Good_row (leaves z) (components d)) e.0.shaped (good_components e.0.regular)) (good_list row ds e.1)

bare_cells : (rows : List Row) → Good_rows [] rows → flat_map first_cells (map full rows) ≡ []
bare_cells _ no_rows = refl
bare_cells _ (rows_and {rows = rows} good_none k) = bare_cells rows k

bare_have : (rows : List Row) → Good_rows [] rows → all_have ((0 ∷ []) ∷ []) (map full rows) ≡ all_have [] rows
bare_have _ no_rows = refl
bare_have _ (rows_and {rows = rows} good_none k) = bare_have rows k

pub stacked_full : (misfit : Bool) (at : Place) (ds : List (List ℕ)) (rows : List Row) → Good_rows ds rows → stacked misfit at (full_sizes ds) (map full rows) ≡ stacked misfit at ds rows
unfolding stacked
stacked_full misfit at [] rows g =
    ap (λ z. fitting misfit z at (Val (Many (length (map full rows) ∷ 0 ∷ []) (flat_map first_cells (map full rows)) ∷ []))) (bare_have rows g)
    ∙ ap (λ z. fitting misfit (all_have [] rows) at (Val (Many (length (map full rows) ∷ 0 ∷ []) z ∷ []))) (bare_cells rows g)
    ∙ ap (λ z. fitting misfit (all_have [] rows) at (Val (Many (z ∷ 0 ∷ []) [] ∷ []))) (length-map rows full)
stacked_full misfit at (d ∷ ds) rows g = ap (stacked misfit at (d ∷ ds)) (full_same d ds rows g)

-- some rows of an array, as an array
pub selected_stacked : (misfit : Bool) (at : Place) (row : Shape) (ds : Datums) (es : List Datum) → Every (Is_row row) es → stacked misfit at (array_sizes (components (Array_datum row ds))) (map full (map components es)) ≡ Val (components (Array_datum row (datums es)))
selected_stacked misfit at row ds es e =
    ap (λ z. stacked misfit at z (map full (map components es))) (array_sizes_are row ds) ∙ stacked_full misfit at (leaves row) (map components es) (good_list row es e) ∙ stacked_all misfit at row es e

full_of : (ds : List (List ℕ)) (r : Row) → Good_row ds r → all_sizes (full r) ≡ full_sizes (all_sizes r)
full_of _ _ good_none = refl
full_of _ _ (good_and e g r) = refl

sizes_or_full : (row : Shape) (es : List Datum) → Every (Is_row row) es → sizes_or (full_sizes (leaves row)) (map full (map components es)) ≡ full_sizes (sizes_or (leaves row) (map components es))
sizes_or_full row [] e = refl
sizes_or_full row (d ∷ es) e = full_of (leaves (shape_of d)) (components d) (good_components e.0.regular)

sizes_or_row : (row : Shape) (es : List Datum) → Every (Is_row row) es → sizes_or (leaves row) (map components es) ≡ leaves row
sizes_or_row row [] e = refl
sizes_or_row row (d ∷ es) e = components_are_sized d e.0.regular ∙ ap leaves e.0.shaped

-- and tested for its weight
pub selected_glued : (misfit : Bool) (at : Place) (row : Shape) (ds : Datums) (es : List Datum) → One_type row row → Every (Is_row row) es → glued misfit at (array_sizes (components (Array_datum row ds))) (map full (map components es)) ≡ apart (array_of at row es)
unfolding glued
selected_glued misfit at row ds es o e =
    ap (λ z. and_then (stacked misfit at (sizes_or z (map full (map components es))) (map full (map components es))) (within_weight at)) (array_sizes_are row ds)
    ∙ ap (λ z. and_then (stacked misfit at z (map full (map components es))) (within_weight at)) (sizes_or_full row es e ∙ ap full_sizes (sizes_or_row row es e))
    ∙ ap (λ z. and_then z (within_weight at)) (stacked_full misfit at (leaves row) (map components es) (good_list row es e))
    ∙ ap (λ z. and_then (stacked misfit at z (map components es)) (within_weight at)) (sym (sizes_or_row row es e))
    ∙ arrays_are_made misfit at row es o (typed_rows row es o e)
    ∙ ap apart (known_array misfit at row es o e)

-- ---- in which order

pub map_taken : {A B : Type 0} (f : A → B) (n : ℕ) (xs : List A) → take n (map f xs) ≡ map f (take n xs)
map_taken f zero xs = refl
map_taken f (suc n) [] = refl
map_taken f (suc n) (x ∷ xs) = ap (λ z. f x ∷ z) (map_taken f n xs)

pub map_dropped : {A B : Type 0} (f : A → B) (n : ℕ) (xs : List A) → drop n (map f xs) ≡ map f (drop n xs)
map_dropped f zero xs = refl
map_dropped f (suc n) [] = refl
map_dropped f (suc n) (x ∷ xs) = map_dropped f n xs

map_around : {A B : Type 0} (f : A → B) (z : ℤ) (xs : List A) → around z (map f xs) ≡ map f (around z xs)
map_around f z xs =
    ap (λ n. drop (unsigned_abs (int_rem_euclid z (pos n))) (map f xs) ++ take (unsigned_abs (int_rem_euclid z (pos n))) (map f xs)) (length-map xs f)
    ∙ ap (λ y. y ++ take (unsigned_abs (int_rem_euclid z (pos (length xs)))) (map f xs)) (map_dropped f (unsigned_abs (int_rem_euclid z (pos (length xs)))) xs)
    ∙ ap (λ y. map f (drop (unsigned_abs (int_rem_euclid z (pos (length xs)))) xs) ++ y) (map_taken f (unsigned_abs (int_rem_euclid z (pos (length xs)))) xs)
    ∙ sym (map-append f (drop (unsigned_abs (int_rem_euclid z (pos (length xs)))) xs) (take (unsigned_abs (int_rem_euclid z (pos (length xs)))) xs))

map_sifted : {A B : Type 0} (f : A → B) (b : Bool) (xs : List A) (ts : List Bool) → sifted b (map f xs) ts ≡ map f (sifted b xs ts)
map_sifted f b [] ts = refl
map_sifted f b (x ∷ xs) [] = refl
map_sifted f true (x ∷ xs) (true ∷ ts) = ap (λ z. f x ∷ z) (map_sifted f true xs ts)
map_sifted f true (x ∷ xs) (false ∷ ts) = map_sifted f true xs ts
map_sifted f false (x ∷ xs) (true ∷ ts) = map_sifted f false xs ts
map_sifted f false (x ∷ xs) (false ∷ ts) = ap (λ z. f x ∷ z) (map_sifted f false xs ts)

every_sifted : {A : Type 0} (P : A → Type 0) (b : Bool) (xs : List A) (ts : List Bool) → Every P xs → Every P (sifted b xs ts)
every_sifted P b [] ts e = tt
every_sifted P b (x ∷ xs) [] e = tt
every_sifted P true (x ∷ xs) (true ∷ ts) e = (e.0, every_sifted P true xs ts e.1)
every_sifted P true (x ∷ xs) (false ∷ ts) e = every_sifted P true xs ts e.1
every_sifted P false (x ∷ xs) (true ∷ ts) e = every_sifted P false xs ts e.1
every_sifted P false (x ∷ xs) (false ∷ ts) e = (e.0, every_sifted P false xs ts e.1)

sifted_data : (b : Bool) (ds : List Datum) (ts : List Bool) → sifted b ds ts ≡ jobs.sifted b ds ts
sifted_data b [] ts = refl
sifted_data b (d ∷ ds) [] = refl
sifted_data true (d ∷ ds) (true ∷ ts) = ap (λ z. d ∷ z) (sifted_data true ds ts)
sifted_data true (d ∷ ds) (false ∷ ts) = sifted_data true ds ts
sifted_data false (d ∷ ds) (true ∷ ts) = sifted_data false ds ts
sifted_data false (d ∷ ds) (false ∷ ts) = ap (λ z. d ∷ z) (sifted_data false ds ts)

-- the rows of an array that pass a test, or those that do not
pub kept_agree : (misfit : Bool) (at : Place) (b : Bool) (row : Shape) (ds : Datums) (ts : List Bool) → Regular (Array_datum row ds) → kept misfit at b (components (Array_datum row ds)) ts ≡ Val (components (Array_datum row (datums (jobs.sifted b (listed ds) ts))))
kept_agree misfit at b row ds ts (an_array o a) =
    ap (λ z. and_then z (λ rs. stacked misfit at (array_sizes (components (Array_datum row ds))) (sifted b rs ts))) (array_rows_are misfit at row ds (an_array o a))
    ∙ ap (stacked misfit at (array_sizes (components (Array_datum row ds)))) (map_sifted full b (map components (listed ds)) ts ∙ ap (map full) (map_sifted components b (listed ds) ts))
    ∙ selected_stacked misfit at row ds (sifted b (listed ds) ts) (every_sifted (Is_row row) b (listed ds) ts (rows_listed a))
    ∙ ap (λ z. Val (components (Array_datum row (datums z)))) (sifted_data b (listed ds) ts)

-- ---- one row

row_found : (at : Place) (z : ℤ) (ds : List Datum) → row_at at z (map components ds) ≡ apart (source.row_at at z ds)
row_found at (negsuc n) ds = refl
row_found at (pos n) [] = refl
row_found at (pos zero) (d ∷ ds) = refl
row_found at (pos (suc n)) (d ∷ ds) = row_found at (pos n) ds

-- the row at an index
pub row_agrees : (misfit : Bool) (at : Place) (z : ℤ) (row : Shape) (ds : Datums) → Regular (Array_datum row ds) → and_then (rows_of misfit at (length (leaves row)) (components (Array_datum row ds))) (row_at at z) ≡ apart (source.row_at at z (listed ds))
row_agrees misfit at z row ds g = ap (λ x. and_then x (row_at at z)) (rows_come_out misfit at row ds g) ∙ row_found at z (listed ds)

-- ---- around, and one behind the other

around_data : (z : ℤ) (ds : List Datum) → around z ds ≡ jobs.around z ds
around_data z ds = refl

pub every_taken : {A : Type 0} (P : A → Type 0) (n : ℕ) (xs : List A) → Every P xs → Every P (take n xs)
every_taken P zero xs e = tt
every_taken P (suc n) [] e = tt
every_taken P (suc n) (x ∷ xs) e = (e.0, every_taken P n xs e.1)

pub every_dropped : {A : Type 0} (P : A → Type 0) (n : ℕ) (xs : List A) → Every P xs → Every P (drop n xs)
every_dropped P zero xs e = e
every_dropped P (suc n) [] e = tt
every_dropped P (suc n) (x ∷ xs) e = every_dropped P n xs e.1

every_more : {A : Type 0} (P : A → Type 0) (xs ys : List A) → Every P xs → Every P ys → Every P (xs ++ ys)
every_more P [] ys e f = f
every_more P (x ∷ xs) ys e f = (e.0, every_more P xs ys e.1 f)

pub every_around : {A : Type 0} (P : A → Type 0) (z : ℤ) (xs : List A) → Every P xs → Every P (around z xs)
every_around P z xs e = every_more P (drop (unsigned_abs (int_rem_euclid z (pos (length xs)))) xs) (take (unsigned_abs (int_rem_euclid z (pos (length xs)))) xs) (every_dropped P _ xs e) (every_taken P _ xs e)

pub rotated_agree : (misfit : Bool) (at : Place) (z : ℤ) (row : Shape) (ds : Datums) → Regular (Array_datum row ds) → and_then (array_rows misfit at (components (Array_datum row ds))) (λ rs. glued misfit at (array_sizes (components (Array_datum row ds))) (around z rs)) ≡ apart (array_of at row (jobs.around z (listed ds)))
rotated_agree misfit at z row ds (an_array o a) =
    ap (λ x. and_then x (λ rs. glued misfit at (array_sizes (components (Array_datum row ds))) (around z rs))) (array_rows_are misfit at row ds (an_array o a))
    ∙ ap (glued misfit at (array_sizes (components (Array_datum row ds)))) (map_around full z (map components (listed ds)) ∙ ap (map full) (map_around components z (listed ds)))
    ∙ selected_glued misfit at row ds (around z (listed ds)) o (every_around (Is_row row) z (listed ds) (rows_listed a))
