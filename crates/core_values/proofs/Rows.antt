-- The rows of a bundle are those that were put into it.
use Rattle.std.proofs.Common.{◌≡◌, ℕ, suc, Bool, true, false, List, [], ◌∷◌, ◌++◌, map, flat_map, drop, length, replicate, refl, sym, ap, ◌∙◌, eq-eqb, take_at, drop_at}
use Rattle.std.proofs.lemmas.List.{length-map}
use Rattle.fut_scalar.specs.declared.place.Place.{Place}
use Rattle.fut_value.specs.Data.{Datums, no_datum, datum_and, listed}
use Rattle.fut_value.specs.Leaves.{leaves, extent}
use Rattle.fut_meaning.specs.Arrays.{fitting}
use Rattle.fut_meaning.specs.Outcomes.{Out, Val, and_then}
use Rattle.core_ir.specs.Lists.{parts, beside}
use Rattle.core_ir.specs.Bundles.{Row, cells, formed, as_long, size_of, across, of_width, rows_of, first_cells, others, columns, bundle}
use Rattle.core_values.specs.Components.{components, each_components, an_array}
use Rattle.core_values.specs.Claims.{RowsComeOut}
use Rattle.core_values.proofs.Good.{good_none, good_and, Good_rows, rows_and, good_others, each_many, good_each}

-- the first cells of all rows come apart as they were
first_parts : {d : List ℕ} {ds : List (List ℕ)} (rows : List Row) → Good_rows (d ∷ ds) rows → parts (length rows) (extent d) (flat_map first_cells rows) ≡ map first_cells rows
first_parts [] g = refl
first_parts {d} _ (rows_and {rows = rows} (good_and {c = c} e g r) k) =
    let l : length (cells c) ≡ extent d = g.long ∙ ap extent e in
    ap (λ z. z ∷ parts (length rows) (extent d) (drop (extent d) (cells c ++ flat_map first_cells rows))) (take_at (cells c) (flat_map first_cells rows) (extent d) l)
    ∙ ap (λ z. cells c ∷ parts (length rows) (extent d) z) (drop_at (cells c) (flat_map first_cells rows) (extent d) l)
    ∙ ap (λ z. cells c ∷ z) (first_parts rows k)

-- each row's first component in front of the others
fronts : {d : List ℕ} {ds : List (List ℕ)} (rows : List Row) → Good_rows (d ∷ ds) rows → beside (map (formed d) (map first_cells rows)) (map others rows) ≡ rows
fronts [] g = refl
fronts {d} _ (rows_and {rows = rows} (good_and {c = c} {cs} e g r) k) =
    ap (λ z. (z ∷ cs) ∷ beside (map (formed d) (map first_cells rows)) (map others rows)) (ap (λ z. formed z (cells c)) (sym e) ∙ g.forms)
    ∙ ap (λ z. (c ∷ cs) ∷ z) (fronts rows k)

bare_rows : (rows : List Row) → Good_rows [] rows → replicate (length rows) [] ≡ rows
bare_rows [] g = refl
bare_rows _ (rows_and {rows = rows} good_none k) = ap (λ z. [] ∷ z) (bare_rows rows k)

across_columns : (ds : List (List ℕ)) (rows : List Row) → Good_rows ds rows → across (length rows) (columns (length rows) ds rows) ≡ rows
across_columns [] rows g = bare_rows rows g
across_columns (d ∷ ds) rows g =
    ap (λ z. beside (map (formed d) z) (across (length rows) (columns (length rows) ds (map others rows)))) (first_parts rows g)
    ∙ ap (λ z. beside (map (formed d) (map first_cells rows)) z) (ap (λ n. across n (columns n ds (map others rows))) (sym (length-map rows others)) ∙ across_columns ds (map others rows) (good_others g))
    ∙ fronts rows g

-- ---- how many there are

columns_long : (misfit : Bool) (at : Place) (n : ℕ) (ds : List (List ℕ)) (rows : List Row) → as_long misfit at n (columns n ds rows) ≡ Val n
columns_long misfit at n [] rows = refl
columns_long misfit at n (d ∷ ds) rows = ap (λ z. fitting misfit z at (as_long misfit at n (columns n ds (map others rows)))) (eq-eqb n n refl) ∙ fits misfit (columns_long misfit at n ds (map others rows))
  where
    fits : (misfit : Bool) {o : Out ℕ} → o ≡ Val n → fitting misfit true at o ≡ Val n
    fits true e = e
    fits false e = e

pub bundle_size : (misfit : Bool) (at : Place) (n : ℕ) (ds : List (List ℕ)) (rows : List Row) → size_of misfit at (bundle n ds rows) ≡ Val n
bundle_size misfit at n [] rows = refl
bundle_size misfit at n (d ∷ ds) rows = columns_long misfit at n ds (map others rows)

wide_rows : (ds : List (List ℕ)) (rows : List Row) → Good_rows ds rows → across (length rows) (of_width (length ds) (bundle (length rows) ds rows)) ≡ rows
wide_rows [] rows g = bare_rows rows g
wide_rows (d ∷ ds) rows g = across_columns (d ∷ ds) rows g

pub bundle_rows : (misfit : Bool) (at : Place) (ds : List (List ℕ)) (rows : List Row) → Good_rows ds rows → rows_of misfit at (length ds) (bundle (length rows) ds rows) ≡ Val rows
unfolding rows_of
bundle_rows misfit at ds rows g = ap (λ z. and_then z (λ n. Val (across n (of_width (length ds) (bundle (length rows) ds rows))))) (bundle_size misfit at (length rows) ds rows) ∙ ap Val (wide_rows ds rows g)

-- with any width but 0, where a row has a component
pub wider : (misfit : Bool) (at : Place) (w v : ℕ) (bs : Row) → rows_of misfit at (suc w) bs ≡ rows_of misfit at (suc v) bs
unfolding rows_of
wider misfit at w v bs = refl

pub each_is : (ds : Datums) → each_components ds ≡ map components (listed ds)
unfolding each_components
each_is no_datum = refl
each_is (datum_and d ds) = ap (λ z. components d ∷ z) (each_is ds)

pub rows_come_out : RowsComeOut
unfolding components
rows_come_out misfit at row ds (an_array o a) =
    ap (λ n. rows_of misfit at (length (leaves row)) (bundle n (leaves row) (each_components ds))) (sym (each_many ds))
    ∙ bundle_rows misfit at (leaves row) (each_components ds) (good_each a)
    ∙ ap Val (each_is ds)
