-- An updated bundle has the components of the updated array.
use Rattle.std.proofs.Common.{◌≡◌, ℕ, zero, suc, ◌&&◌, Bool, true, false, List, [], ◌∷◌, map, drop, length, slice_set, ℤ, pos, negsuc, unsigned_abs, refl, sym, ap, ◌∙◌, subst, eq-eqb}
use Rattle.std.proofs.lemmas.List.{length-map}
use Rattle.fut_scalar.specs.declared.place.Place.{Place}
use Rattle.fut_scalar.specs.declared.report.Report.{Report}
use Rattle.fut_scalar.specs.declared.scalar.ScalarType.{ScalarType}
use Rattle.fut_value.specs.Data.{Shape, Array_shape, Datum, Scalar_datum, Tuple_datum, Record_datum, Array_datum, Datums, no_datum, datum_and, listed, datums, shape_of}
use Rattle.fut_value.specs.Data as shape
use Rattle.fut_value.specs.Leaves.{in_rows, leaves}
use Rattle.fut_meaning.specs.Arrays.{fitting, or_bounds, failure}
use Rattle.fut_meaning.specs.Arrays as source
use Rattle.fut_meaning.specs.Outcomes.{Out, Val, Fail, Wrong, and_then}
use Rattle.fut_meaning.proofs.Safe.{Every}
use Rattle.core_ir.specs.Bundles.{Row, all_sizes, same_sizes, all_same_sizes, of_width, rows_of, row_sizes, all_have, bundle, stacked}
use Rattle.core_ir.specs.Arrays.{width_before, row_at, updated}
use Rattle.core_values.specs.Components.{components, each_components, One_type, Regular, an_array, Rows_regular, no_row, and_row}
use Rattle.core_values.specs.Claims.{apart, Fits_at, fits_here, fits_inside, UpdatesAgree, UpdatedAreRegular}
use Rattle.core_values.proofs.Good.{components_are_sized}
use Rattle.core_values.proofs.Rows.{wider, rows_come_out}
use Rattle.core_values.proofs.Same.{leaves_many, sized_same, shape_is}
use Rattle.core_values.proofs.Making.{bundle_sizes, listed_datums, bundle_of, val_is, failed}

-- ---- rows as lists

pub record Is_row (row : Shape) (d : Datum) : Type 0 where
  pub regular : Regular d
  pub shaped : shape_of d ≡ row

pub rows_listed : {row : Shape} {ds : Datums} → Rows_regular row ds → Every (Is_row row) (listed ds)
rows_listed no_row = tt
rows_listed (and_row g e a) = (record { regular = g; shaped = e }, rows_listed a)

pub listed_rows : (row : Shape) (ds : List Datum) → Every (Is_row row) ds → Rows_regular row (datums ds)
listed_rows row [] e = no_row
listed_rows row (d ∷ ds) e = and_row e.0.regular e.0.shaped (listed_rows row ds e.1)

every_set : {A : Type 0} (P : A → Type 0) (n : ℕ) (xs : List A) (y : A) → Every P xs → P y → Every P (slice_set xs n y)
every_set P n [] y e p = tt
every_set P zero (x ∷ xs) y e p = (p, e.1)
every_set P (suc n) (x ∷ xs) y e p = (e.0, every_set P n xs y e.1 p)

set_many : (xs : List Datum) (n : ℕ) (y : Datum) → length (slice_set xs n y) ≡ length xs
set_many [] n y = refl
set_many (x ∷ xs) zero y = refl
set_many (x ∷ xs) (suc n) y = ap suc (set_many xs n y)

map_set : (xs : List Datum) (n : ℕ) (y : Datum) → slice_set (map components xs) n (components y) ≡ map components (slice_set xs n y)
map_set [] n y = refl
map_set (x ∷ xs) zero y = refl
map_set (x ∷ xs) (suc n) y = ap (λ z. components x ∷ z) (map_set xs n y)

-- ---- sizes that are the same

and_true : (b : Bool) → b ≡ true → (b && true) ≡ true
and_true b e = ap (λ z. z && true) e

same_refl : (ds : List ℕ) → same_sizes ds ds ≡ true
same_refl [] = refl
same_refl (d ∷ ds) = ap (λ z. z && same_sizes ds ds) (eq-eqb d d refl) ∙ same_refl ds

pub all_same_refl : (ds : List (List ℕ)) → all_same_sizes ds ds ≡ true
all_same_refl [] = refl
all_same_refl (d ∷ ds) = ap (λ z. z && all_same_sizes ds ds) (same_refl d) ∙ all_same_refl ds

have_all : (row : Shape) (ds : List Datum) → Every (Is_row row) ds → all_have (leaves row) (map components ds) ≡ true
have_all row [] e = refl
have_all row (d ∷ ds) e =
    ap (λ z. all_same_sizes z (leaves row) && all_have (leaves row) (map components ds)) (components_are_sized d e.0.regular ∙ ap leaves e.0.shaped)
    ∙ ap (λ z. z && all_have (leaves row) (map components ds)) (all_same_refl (leaves row)) ∙ have_all row ds e.1

pub stacked_all : (misfit : Bool) (at : Place) (row : Shape) (ds : List Datum) → Every (Is_row row) ds → stacked misfit at (leaves row) (map components ds) ≡ Val (components (Array_datum row (datums ds)))
unfolding stacked
stacked_all true at row ds e = ap (λ z. fitting true z at (Val (bundle (length (map components ds)) (leaves row) (map components ds)))) (have_all row ds e) ∙ ap Val (bundle_of row ds)
stacked_all false at row ds e = ap (λ z. fitting false z at (Val (bundle (length (map components ds)) (leaves row) (map components ds)))) (have_all row ds e) ∙ ap Val (bundle_of row ds)

-- ---- the width of a row

-- the leaves of an array, at least one
pub record Leaf (ds : List (List ℕ)) : Type 0 where
  pub more : ℕ
  pub many : length ds ≡ suc more

pub some_leaf : (n : ℕ) (ds : List (List ℕ)) → Leaf (in_rows n ds)
some_leaf n [] = record { more = 0; many = refl }
some_leaf n (d ∷ ds) = record { more = length ds; many = length-map (d ∷ ds) (λ sizes. n ∷ sizes) }

dropped : (n : ℕ) (ds : List (List ℕ)) → map (drop 1) (map (λ sizes. n ∷ sizes) ds) ≡ ds
dropped n [] = refl
dropped n (d ∷ ds) = ap (λ z. d ∷ z) (dropped n ds)

pub behind_rows : (n : ℕ) (ds : List (List ℕ)) → map (drop 1) (of_width (length ds) (in_rows n ds)) ≡ ds
behind_rows n [] = refl
behind_rows n (d ∷ ds) = dropped n (d ∷ ds)

wider_sizes : (w v : ℕ) (bs : Row) → row_sizes (suc w) bs ≡ row_sizes (suc v) bs
wider_sizes w v bs = refl

pub sizes_behind : (row : Shape) (ds : Datums) → row_sizes (length (leaves row)) (components (Array_datum row ds)) ≡ leaves row
unfolding components
sizes_behind row ds =
    ap (λ z. map (drop 1) (of_width (length (leaves row)) z)) (bundle_sizes (length (listed ds)) (leaves row) (each_components ds)) ∙ behind_rows (length (listed ds)) (leaves row)

all_long : (v : Datum) → Regular v → length (components v) ≡ length (leaves (shape_of v))
all_long v g = sym (length-map (components v) Rattle.core_ir.specs.Bundles.sizes) ∙ ap length (components_are_sized v g)

-- with the width that an update takes for it
module _ (misfit : Bool) (at : Place) (v : Datum) (gv : Regular v) (bs : Row) where
  rows_by_leaf : (ds : List (List ℕ)) → Leaf ds → rows_of misfit at 1 bs ≡ rows_of misfit at (length ds) bs
  rows_by_leaf ds l = wider misfit at 0 l.more bs ∙ ap (λ z. rows_of misfit at z bs) (sym l.many)

  rows_width : (zs : List ℤ) (row : Shape) → Fits_at v zs row → rows_of misfit at (width_before (length (components v)) zs) bs ≡ rows_of misfit at (length (leaves row)) bs
  unfolding leaves
  rows_width _ row (fits_here o) = ap (λ z. rows_of misfit at z bs) (all_long v gv ∙ sym (leaves_many o))
  rows_width _ _ (fits_inside {n = n} {h} f) = rows_by_leaf (in_rows n (leaves h)) (some_leaf n (leaves h))

  sizes_by_leaf : (ds : List (List ℕ)) → Leaf ds → row_sizes 1 bs ≡ row_sizes (length ds) bs
  sizes_by_leaf ds l = wider_sizes 0 l.more bs ∙ ap (λ z. row_sizes z bs) (sym l.many)

  sizes_width : (zs : List ℤ) (row : Shape) → Fits_at v zs row → row_sizes (width_before (length (components v)) zs) bs ≡ row_sizes (length (leaves row)) bs
  unfolding leaves
  sizes_width _ row (fits_here o) = ap (λ z. row_sizes z bs) (all_long v gv ∙ sym (leaves_many o))
  sizes_width _ _ (fits_inside {n = n} {h} f) = sizes_by_leaf (in_rows n (leaves h)) (some_leaf n (leaves h))

-- ---- one row

apart_placed : (misfit b : Bool) (at : Place) (v : Datum) → fitting misfit b at (Val (components v)) ≡ apart (fitting misfit b at (Val v))
apart_placed true true at v = refl
apart_placed true false at v = refl
apart_placed false true at v = refl
apart_placed false false at v = refl

-- the row at an index: none in either, or one whose components stand there
row_case : {A B : Type 0} (at : Place) (z : ℤ) (row : Shape) (ds : List Datum) (k : Row → Out A) (l : Datum → Out B) (f : Out B → Out A) → ((r : Report) → f (Fail r) ≡ Fail r) → Every (Is_row row) ds → ((e : Datum) → Is_row row e → k (components e) ≡ f (l e)) → and_then (row_at at z (map components ds)) k ≡ f (and_then (source.row_at at z ds) l)
row_case at (negsuc n) row ds k l f s e h = sym (s _)
row_case at (pos n) row [] k l f s e h = sym (s _)
row_case at (pos zero) row (d ∷ ds) k l f s e h = h d e.0
row_case at (pos (suc n)) row (d ∷ ds) k l f s e h = row_case at (pos n) row ds k l f s e.1 h

-- ---- what an update gives

abbrev pub On_value : {A : Type 0} → (A → Type 0) → Out A → Type 0
On_value {A} P o = (e : A) → o ≡ Val e → P e

pub on_then : {A B : Type 0} (P : A → Type 0) (Q : B → Type 0) (o : Out A) (k : A → Out B) → On_value P o → ((a : A) → P a → On_value Q (k a)) → On_value Q (and_then o k)
on_then P Q (Val a) k h l e q = l a (h a refl) e q
on_then P Q (Fail r) k h l e q = failed q
on_then P Q Wrong k h l e q = absurd (let z : Wrong ≡ Val e = q in cc)

pub on_given : {A : Type 0} (P : A → Type 0) (a : A) → P a → On_value P (Val a)
on_given P a p e q = subst P (val_is q) p

on_row : (row : Shape) (at : Place) (z : ℤ) (ds : List Datum) → Every (Is_row row) ds → On_value (Is_row row) (source.row_at at z ds)
on_row row at (negsuc n) ds e d q = failed q
on_row row at (pos n) [] e d q = failed q
on_row row at (pos zero) (x ∷ ds) e d q = subst (Is_row row) (val_is q) e.0
on_row row at (pos (suc n)) (x ∷ ds) e d q = on_row row at (pos n) ds e.1 d q

on_placed : {A : Type 0} (P : A → Type 0) (misfit b : Bool) (at : Place) (a : A) → (b ≡ true → P a) → On_value P (fitting misfit b at (Val a))
on_placed P true true at a h e q = subst P (val_is q) (h refl)
on_placed P false true at a h e q = subst P (val_is q) (h refl)
on_placed P false false at a h e q = failed q
on_placed P true false at a h e q = absurd (let z : Wrong ≡ Val e = q in cc)

record Still (d e : Datum) : Type 0 where
  regular : Regular e
  shaped : shape_of e ≡ shape_of d

here : {v : Datum} {h : Shape} → Fits_at v [] h → One_type h (shape_of v)
here (fits_here o) = o

inside : {v : Datum} {z : ℤ} {zs : List ℤ} {n : ℕ} {h : Shape} → Fits_at v (z ∷ zs) (Array_shape n h) → Fits_at v zs h
inside (fits_inside f) = f

no_scalar : {X : Type 0} {v : Datum} {z : ℤ} {zs : List ℤ} {t : ScalarType} → Fits_at v (z ∷ zs) (shape.Scalar_shape t) → X
no_scalar f = elim f [ ]

no_tuple : {X : Type 0} {v : Datum} {z : ℤ} {zs : List ℤ} {hs : shape.Shapes} → Fits_at v (z ∷ zs) (shape.Tuple_shape hs) → X
no_tuple f = elim f [ ]

no_record : {X : Type 0} {v : Datum} {z : ℤ} {zs : List ℤ} {hs : shape.Named_shapes} → Fits_at v (z ∷ zs) (shape.Record_shape hs) → X
no_record f = elim f [ ]

set_still : (row : Shape) (ds : Datums) (n : ℕ) (e : Datum) → One_type row row → Rows_regular row ds → Is_row row e → Still (Array_datum row ds) (Array_datum row (datums (slice_set (listed ds) n e)))
unfolding shape_of
set_still row ds n e o a p = record {
  regular = an_array o (listed_rows row (slice_set (listed ds) n e) (every_set (Is_row row) n (listed ds) e (rows_listed a) p));
  shaped = ap (λ z. Array_shape (length z) row) (listed_datums (slice_set (listed ds) n e)) ∙ ap (λ z. Array_shape z row) (set_many (listed ds) n e);
}

module _ (misfit : Bool) (at : Place) (v : Datum) (gv : Regular v) where
  updated_still : (zs : List ℤ) (d : Datum) → Regular d → Fits_at v zs (shape_of d) → On_value (Still d) (source.updated misfit at zs v d)
  unfolding source.updated shape_of
  updated_still [] d g f = on_placed (Still d) misfit (shape.same_sizes (shape_of d) (shape_of v)) at v (λ q. record { regular = gv; shaped = sym (shape_is (here f) q) })
  updated_still (z ∷ zs) (Scalar_datum s) g f = no_scalar f
  updated_still (z ∷ zs) (Tuple_datum ds) g f = no_tuple f
  updated_still (z ∷ zs) (Record_datum fs) g f = no_record f
  updated_still (z ∷ zs) (Array_datum row ds) (an_array o a) f =
      on_then (Is_row row) (Still (Array_datum row ds)) (source.row_at at z (listed ds)) _ (on_row row at z (listed ds) (rows_listed a)) (λ e p.
      on_then (Still e) (Still (Array_datum row ds)) (source.updated misfit at zs v e) _ (updated_still zs e p.regular (subst (Fits_at v zs) (sym p.shaped) (inside f))) (λ e' q.
      on_given (Still (Array_datum row ds)) _ (set_still row ds (unsigned_abs z) e' o a (record { regular = q.regular; shaped = q.shaped ∙ p.shaped }))))

  -- ---- and what it gives of components

  behind_update : (row : Shape) (ds : List Datum) (n : ℕ) → Every (Is_row row) ds → (o : Out Datum) → On_value (Is_row row) o → and_then (apart o) (λ r. stacked misfit at (leaves row) (slice_set (map components ds) n r)) ≡ apart (and_then o (λ e. Val (Array_datum row (datums (slice_set ds n e)))))
  behind_update row ds n a (Val e) h = ap (stacked misfit at (leaves row)) (map_set ds n e) ∙ stacked_all misfit at row (slice_set ds n e) (every_set (Is_row row) n ds e a (h e refl))
  behind_update row ds n a (Fail r) h = refl
  behind_update row ds n a Wrong h = refl

  apart_fails : (r : Report) → apart (Fail r) ≡ Fail r
  apart_fails r = refl

  updates : (zs : List ℤ) (d : Datum) → Regular d → Fits_at v zs (shape_of d) → updated misfit at zs (components v) (components d) ≡ apart (source.updated misfit at zs v d)
  unfolding updated source.updated shape_of
  updates [] d g f =
      ap (λ z. fitting misfit (all_same_sizes z (all_sizes (components d))) at (Val (components v))) (components_are_sized v gv)
      ∙ ap (λ z. fitting misfit (all_same_sizes (leaves (shape_of v)) z) at (Val (components v))) (components_are_sized d g)
      ∙ ap (λ z. fitting misfit z at (Val (components v))) (sym (sized_same (here f)))
      ∙ apart_placed misfit (shape.same_sizes (shape_of d) (shape_of v)) at v
  updates (z ∷ zs) (Scalar_datum s) g f = no_scalar f
  updates (z ∷ zs) (Tuple_datum ds) g f = no_tuple f
  updates (z ∷ zs) (Record_datum fs) g f = no_record f
  updates (z ∷ zs) (Array_datum row ds) (an_array o a) f =
      let bs = components (Array_datum row ds) in
      let w = width_before (length (components v)) zs in
      let n = unsigned_abs z in
      ap (λ x. and_then x (λ rs. and_then (row_at at z rs) (λ r. and_then (updated misfit at zs (components v) r) (λ r'. stacked misfit at (row_sizes w bs) (slice_set rs n r')))))
      (rows_width misfit at v gv bs zs row (inside f) ∙ rows_come_out misfit at row ds (an_array o a))
      ∙ ap (λ x. and_then (row_at at z (map components (listed ds))) (λ r. and_then (updated misfit at zs (components v) r) (λ r'. stacked misfit at x (slice_set (map components (listed ds)) n r'))))
      (sizes_width misfit at v gv bs zs row (inside f) ∙ sizes_behind row ds)
      ∙ row_case at z row (listed ds) (λ r. and_then (updated misfit at zs (components v) r) (λ r'. stacked misfit at (leaves row) (slice_set (map components (listed ds)) n r')))
      (λ e. and_then (source.updated misfit at zs v e) (λ e'. Val (Array_datum row (datums (slice_set (listed ds) n e'))))) apart apart_fails (rows_listed a)
      (λ e p. ap (λ x. and_then x (λ r'. stacked misfit at (leaves row) (slice_set (map components (listed ds)) n r'))) (updates zs e p.regular (subst (Fits_at v zs) (sym p.shaped) (inside f)))
      ∙ behind_update row (listed ds) n (rows_listed a) (source.updated misfit at zs v e) (λ e' q. let s = updated_still zs e p.regular (subst (Fits_at v zs) (sym p.shaped) (inside f)) e' q in record { regular = s.regular; shaped = s.shaped ∙ p.shaped }))

pub updates_agree : UpdatesAgree
updates_agree misfit at zs v d gv g f = updates misfit at v gv zs d g f

pub updated_are_regular : UpdatedAreRegular
updated_are_regular misfit at zs v d gv g f e q = let s = updated_still misfit at v gv zs d g f e q in (s.regular, s.shaped)
