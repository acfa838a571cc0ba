-- Components of regular data are good: as many cells as their sizes say, which are those of the leaves.
use Rattle.std.proofs.Common.{◌≡◌, ℕ, suc, ◌*◌, List, [], ◌∷◌, ◌++◌, map, flat_map, length, refl, sym, ap, ◌∙◌, subst, arith, suc-mul, zero-mul, mul-zero}
use Rattle.std.proofs.lemmas.List.{length-append, length-map}
use Rattle.fut_scalar.specs.declared.scalar.Scalar.{Scalar}
use Rattle.fut_value.specs.Data.{Shape, Datum, Datums, no_datum, datum_and, Named_datums, listed, shape_of, shapes_of, named_shapes_of}
use Rattle.fut_value.specs.Leaves.{in_rows, leaves, all_leaves, named_leaves, extent}
use Rattle.core_ir.specs.Bundles.{Component, One, Many, Row, sizes, cells, all_sizes, formed, first_cells, others, columns, bundle}
use Rattle.core_values.specs.Components.{components, all_components, named_components, each_components, Regular, a_scalar, a_tuple, a_record, an_array, All_regular, no_more, and_more, Named_regular, no_named_more, and_named, Rows_regular, no_row, and_row}
use Rattle.core_values.specs.Claims.{ComponentsAreSized}

pub record Good (c : Component) : Type 0 where
  pub long : length (cells c) ≡ extent (sizes c)
  pub forms : formed (sizes c) (cells c) ≡ c

pub data Good_row : List (List ℕ) → Row → Type 0 where
  good_none : Good_row [] []
  good_and : {d : List ℕ} {ds : List (List ℕ)} {c : Component} {cs : Row} → sizes c ≡ d → Good c → Good_row ds cs → Good_row (d ∷ ds) (c ∷ cs)

pub data Good_rows (ds : List (List ℕ)) : List Row → Type 0 where
  no_rows : Good_rows ds []
  rows_and : {r : Row} {rows : List Row} → Good_row ds r → Good_rows ds rows → Good_rows ds (r ∷ rows)

pub good_sizes : {ds : List (List ℕ)} {cs : Row} → Good_row ds cs → all_sizes cs ≡ ds
good_sizes good_none = refl
good_sizes (good_and {d} {ds} {c} {cs} e g r) = ap (λ z. z ∷ all_sizes cs) e ∙ ap (λ z. d ∷ z) (good_sizes r)

good_append : {ds es : List (List ℕ)} {cs bs : Row} → Good_row ds cs → Good_row es bs → Good_row (ds ++ es) (cs ++ bs)
good_append good_none k = k
good_append (good_and e g r) k = good_and e g (good_append r k)

head_long : {d : List ℕ} {c : Component} → sizes c ≡ d → Good c → length (cells c) ≡ extent d
head_long e g = g.long ∙ ap extent e

first_is : {d : List ℕ} {ds : List (List ℕ)} {r : Row} → Good_row (d ∷ ds) r → length (first_cells r) ≡ extent d
first_is (good_and e g r) = head_long e g

-- the cells of the first column
first_long : {d : List ℕ} {ds : List (List ℕ)} {rows : List Row} → Good_rows (d ∷ ds) rows → length (flat_map first_cells rows) ≡ length rows * extent d
first_long {d} no_rows = sym (zero-mul (extent d))
first_long {d} (rows_and {r = r} {rows} g k) =
    let l = length-append (first_cells r) (flat_map first_cells rows) in
    let o = first_is g in
    let m = suc-mul (length rows) (extent d) in
    let e = first_long k in
    omega (arith, l, o, m, e)

pub good_others : {d : List ℕ} {ds : List (List ℕ)} {rows : List Row} → Good_rows (d ∷ ds) rows → Good_rows ds (map others rows)
good_others no_rows = no_rows
good_others (rows_and (good_and e g r) k) = rows_and r (good_others k)

good_many : {n : ℕ} {d : List ℕ} {ws : List Scalar} → length ws ≡ n * extent d → Good (Many (n ∷ d) ws)
good_many e = record { long = e; forms = refl }

columns_good : {n : ℕ} (ds : List (List ℕ)) {rows : List Row} → Good_rows ds rows → length rows ≡ n → Good_row (map (λ sizes. n ∷ sizes) ds) (columns n ds rows)
columns_good [] k e = good_none
columns_good {n} (d ∷ ds) {rows} k e = good_and refl (good_many (first_long k ∙ ap (λ z. z * extent d) e)) (columns_good ds (good_others k) (length-map rows others ∙ e))

-- a bundle is good
pub bundle_good : {n : ℕ} (ds : List (List ℕ)) {rows : List Row} → Good_rows ds rows → length rows ≡ n → Good_row (in_rows n ds) (bundle n ds rows)
bundle_good {n} [] k e = good_and refl (good_many (sym (mul-zero n))) good_none
bundle_good (d ∷ ds) k e = columns_good (d ∷ ds) k e

pub each_many : (ds : Datums) → length (each_components ds) ≡ length (listed ds)
unfolding each_components
each_many no_datum = refl
each_many (datum_and d ds) = ap suc (each_many ds)

one_good : (s : Scalar) → Good (One s)
one_good s = record { long = refl; forms = refl }

mutual
  unfolding components all_components named_components each_components shape_of shapes_of named_shapes_of leaves all_leaves named_leaves

  pub good_components : {d : Datum} → Regular d → Good_row (leaves (shape_of d)) (components d)
  good_components (a_scalar {s}) = good_and refl (one_good s) good_none
  good_components (a_tuple a) = good_all a
  good_components (a_record a) = good_named a
  good_components (an_array {row} {ds} o a) = bundle_good (leaves row) (good_each a) (each_many ds)

  good_all : {ds : Datums} → All_regular ds → Good_row (all_leaves (shapes_of ds)) (all_components ds)
  good_all no_more = good_none
  good_all (and_more g a) = good_append (good_components g) (good_all a)

  good_named : {fs : Named_datums} → Named_regular fs → Good_row (named_leaves (named_shapes_of fs)) (named_components fs)
  good_named no_named_more = good_none
  good_named (and_named g a) = good_append (good_components g) (good_named a)

  pub good_each : {row : Shape} {ds : Datums} → Rows_regular row ds → Good_rows (leaves row) (each_components ds)
  good_each no_row = no_rows
  good_each (and_row {d = d} {ds} g e a) = rows_and (subst (λ z. Good_row (leaves z) (components d)) e (good_components g)) (good_each a)

pub components_are_sized : ComponentsAreSized
components_are_sized d g = good_sizes (good_components g)
