-- Rows that are written at places: a scatter of bundles is covered by that of the arrays.
use Rattle.std.proofs.Common.{◌≡◌, ℕ, suc, ◌||◌, nat_eq, nat_lt, cond, Bool, true, false, List, [], ◌∷◌, map, flat_map, length, ℤ, pos, negsuc, refl, sym, ap, ◌∙◌, subst}
use Rattle.std.proofs.lemmas.List.{length-map}
use Rattle.fut_scalar.specs.declared.place.Place.{Place}
use Rattle.fut_scalar.specs.declared.scalar.ScalarType.{ScalarType}
use Rattle.fut_value.specs.Data.{Shape, Scalar_shape, Datum, Scalar_datum, Tuple_datum, Record_datum, Array_datum, Datums, no_datum, datum_and, listed, datums, shape_of}
use Rattle.fut_value.specs.Data as shape
use Rattle.fut_value.specs.Leaves.{leaves}
use Rattle.fut_meaning.specs.Arrays.{each_out, integer_of_scalar, exact_of, fitting}
use Rattle.fut_meaning.specs.Jobs.{shown_to_agree, all_of, Some_of, places, or_old, written_at, Shown, shown, finished}
use Rattle.fut_meaning.specs.Jobs as jobs
use Rattle.fut_meaning.specs.Outcomes.{Val, and_then}
use Rattle.fut_meaning.specs.Sames.{All_same, all_none, all_more}
use Rattle.fut_meaning.proofs.Safe.{Every}
use Rattle.steps_simulate.specs.Covers.{Covers}
use Rattle.steps_simulate.proofs.Covers.{covers_all, covers_some}
use Rattle.core_ir.specs.Bundles.{Component, Row, rows_of, row_sizes, first_cells, all_same_sizes, stacked}
use Rattle.core_ir.specs.Lists as rows
use Rattle.core_ir.specs.Arrays.{numbers_in, agree, written}
use Rattle.core_values.specs.Components.{components, each_components, One_type, Regular, Rows_regular, and_row}
use Rattle.core_values.proofs.Rows.{rows_come_out}
use Rattle.core_values.proofs.Same.{leaves_many, sized_same}
use Rattle.core_values.proofs.Updating.{On_value, on_then, on_given, Is_row, stacked_all, sizes_behind}

-- ---- indices

numbers_same : (u : ScalarType) (ds : Datums) → Rows_regular (Scalar_shape u) ds → each_out integer_of_scalar (flat_map first_cells (each_components ds)) ≡ each_out exact_of (listed ds)
unfolding components each_components shape_of
numbers_same u no_datum a = refl
numbers_same u (datum_and (Scalar_datum s) ds) (and_row g e a) = ap (λ z. and_then (integer_of_scalar s) (λ y. and_then z (λ ys. Val (y ∷ ys)))) (numbers_same u ds a)
numbers_same u (datum_and (Tuple_datum es) ds) (and_row g e a) = absurd (let z : shape.Tuple_shape (shape.shapes_of es) ≡ Scalar_shape u = e in cc)
numbers_same u (datum_and (Record_datum fs) ds) (and_row g e a) = absurd (let z : shape.Record_shape (shape.named_shapes_of fs) ≡ Scalar_shape u = e in cc)
numbers_same u (datum_and (Array_datum row es) ds) (and_row g e a) = absurd (let z : shape.Array_shape (length (listed es)) row ≡ Scalar_shape u = e in cc)

-- the one component of an array of integers
numbers_are : (u : ScalarType) (ds : Datums) (c : Component) → Rows_regular (Scalar_shape u) ds → components (Array_datum (Scalar_shape u) ds) ≡ c ∷ [] → numbers_in c ≡ each_out exact_of (listed ds)
unfolding components leaves
numbers_are u ds c a e = ap numbers_in (sym (head_is e)) ∙ numbers_same u ds a
  where
    head_is : {A : Type 0} {x y : A} {xs ys : List A} → x ∷ xs ≡ y ∷ ys → x ≡ y
    head_is e = cc

abbrev So_many : ℕ → List ℤ → Type 0
So_many n zs = length zs ≡ n

abbrev Some_number : ℤ → Type 0
Some_number z = Unit {0}

each_long : (ds : List Datum) → On_value (So_many (length ds)) (each_out exact_of ds)
each_long [] = on_given (So_many 0) [] refl
each_long (d ∷ ds) =
    on_then Some_number (So_many (suc (length ds))) (exact_of d) _ (λ z q. tt) (λ z u. on_then (So_many (length ds)) (So_many (suc (length ds))) (each_out exact_of ds) _ (each_long ds) (λ ys e. on_given (So_many (suc (length ds))) (z ∷ ys) (ap suc e)))

-- ---- what is written

abbrev pub moved : ℕ × Datum → ℕ × Row
moved w = (w.0, components w.1)

and_write_same : (n : ℕ) (z : ℤ) (d : Datum) (ws : List (ℕ × Datum)) → rows.and_write n z (components d) (map moved ws) ≡ map moved (jobs.and_write n z d ws)
and_write_same n (pos k) d ws = by (nat_lt k n)
  where
    by : (b : Bool) → cond b ((k, components d) ∷ map moved ws) (map moved ws) ≡ map moved (cond b ((k, d) ∷ ws) ws)
    by true = refl
    by false = refl
and_write_same n (negsuc k) d ws = refl

writes_same : (n : ℕ) (zs : List ℤ) (ds : List Datum) → rows.writes n zs (map components ds) ≡ map moved (jobs.writes n zs ds)
writes_same n [] ds = refl
writes_same n (z ∷ zs) [] = refl
writes_same n (z ∷ zs) (d ∷ ds) = ap (rows.and_write n z (components d)) (writes_same n zs ds) ∙ and_write_same n z d (jobs.writes n zs ds)

-- the old rows, and the writes among them, or the same report
pub written_agrees : (at : Place) (row row' : Shape) (ds es is : Datums) (u : ScalarType) (c : Component) (zs : List ℤ) → One_type row row' → Regular (Array_datum row ds) → Regular (Array_datum row' es) → Rows_regular (Scalar_shape u) is → components (Array_datum (Scalar_shape u) is) ≡ c ∷ [] → each_out exact_of (listed is) ≡ Val zs
    → written false at (length (leaves row)) (components (Array_datum row ds)) c (components (Array_datum row' es))
    ≡ fitting false (nat_eq (length (listed is)) (length (listed es))) at (fitting false (shown_to_agree (row, listed ds) (row', listed es)) at (Val (map components (listed ds), map moved (jobs.writes (length (listed ds)) zs (listed es)))))
written_agrees at row row' ds es is u c zs o g g' a q e =
    let w = length (leaves row) in
    let bs = components (Array_datum row ds) in
    let vs = components (Array_datum row' es) in
    let xs = listed ds in
    let ys = listed es in
    ap (λ z. and_then z (λ rs. and_then (numbers_in c) (λ zs. and_then (rows_of false at w vs) (λ ss. fitting false (nat_eq (length zs) (length ss)) at (fitting false (agree rs ss (row_sizes w bs) (row_sizes w vs)) at (Val (rs, rows.writes (length rs) zs ss))))))) (rows_come_out false at row ds g)
    ∙ ap (λ z. and_then z (λ zs. and_then (rows_of false at w vs) (λ ss. fitting false (nat_eq (length zs) (length ss)) at (fitting false (agree (map components xs) ss (row_sizes w bs) (row_sizes w vs)) at (Val (map components xs, rows.writes (length (map components xs)) zs ss)))))) (numbers_are u is c a q ∙ e)
    ∙ ap (λ z. and_then z (λ ss. fitting false (nat_eq (length zs) (length ss)) at (fitting false (agree (map components xs) ss (row_sizes w bs) (row_sizes w vs)) at (Val (map components xs, rows.writes (length (map components xs)) zs ss))))) (ap (λ z. rows_of false at z vs) (leaves_many o) ∙ rows_come_out false at row' es g')
    ∙ ap (λ z. fitting false z at (fitting false (agree (map components xs) (map components ys) (row_sizes w bs) (row_sizes w vs)) at (Val (map components xs, rows.writes (length (map components xs)) zs (map components ys))))) (ap (λ n. nat_eq n (length (map components ys))) (each_long (listed is) zs e) ∙ ap (nat_eq (length (listed is))) (length-map ys components))
    ∙ ap (λ z. fitting false (nat_eq (length (listed is)) (length ys)) at (fitting false z at (Val (map components xs, rows.writes (length (map components xs)) zs (map components ys))))) (same_test w)
    ∙ ap (λ z. fitting false (nat_eq (length (listed is)) (length ys)) at (fitting false (shown_to_agree (row, xs) (row', ys)) at (Val (map components xs, z)))) (ap (λ n. rows.writes n zs (map components ys)) (length-map xs components) ∙ writes_same (length xs) zs ys)
  where
    same_test : (w : ℕ) → agree (map components (listed ds)) (map components (listed es)) (row_sizes (length (leaves row)) (components (Array_datum row ds))) (row_sizes (length (leaves row)) (components (Array_datum row' es))) ≡ shown_to_agree (row, listed ds) (row', listed es)
    same_test w =
        ap (λ z. nat_eq z 0 || (nat_eq (length (map components (listed es))) 0 || all_same_sizes (row_sizes (length (leaves row)) (components (Array_datum row' es))) (row_sizes (length (leaves row)) (components (Array_datum row ds))))) (length-map (listed ds) components)
        ∙ ap (λ z. nat_eq (length (listed ds)) 0 || (nat_eq z 0 || all_same_sizes (row_sizes (length (leaves row)) (components (Array_datum row' es))) (row_sizes (length (leaves row)) (components (Array_datum row ds))))) (length-map (listed es) components)
        ∙ ap (λ z. nat_eq (length (listed ds)) 0 || (nat_eq (length (listed es)) 0 || all_same_sizes (row_sizes (length (leaves row)) (components (Array_datum row' es))) z)) (sizes_behind row ds)
        ∙ ap (λ z. nat_eq (length (listed ds)) 0 || (nat_eq (length (listed es)) 0 || all_same_sizes z (leaves row))) (ap (λ n. row_sizes n (components (Array_datum row' es))) (leaves_many o) ∙ sizes_behind row' es)
        ∙ ap (λ z. nat_eq (length (listed ds)) 0 || (nat_eq (length (listed es)) 0 || z)) (sym (sized_same o))

-- ---- a scatter

pub record Row_of (row : Shape) (cs : Row) (d : Datum) : Type 0 where
  pub are : cs ≡ components d
  pub is : Is_row row d

record Same_write (row : Shape) (w : ℕ × Row) (v : ℕ × Datum) : Type 0 where
  place : w.0 ≡ v.0
  written : Row_of row w.1 v.1

rows_same : (row : Shape) (ds : List Datum) → Every (Is_row row) ds → All_same (Row_of row) (map components ds) ds
rows_same row [] e = all_none
rows_same row (d ∷ ds) e = all_more (record { are = refl; is = e.0 }) (rows_same row ds e.1)

writes_moved : (row : Shape) (ws : List (ℕ × Datum)) → Every (λ w. Is_row row w.1) ws → All_same (Same_write row) (map moved ws) ws
writes_moved row [] e = all_none
writes_moved row (w ∷ ws) e = all_more (record { place = refl; written = record { are = refl; is = e.0 } }) (writes_moved row ws e.1)

written_or_not : (row : Shape) (b : Bool) {r : Row} {d : Datum} {rs : List Row} {ds : List Datum} → Row_of row r d → All_same (Row_of row) rs ds → All_same (Row_of row) (cond b (r ∷ rs) rs) (cond b (d ∷ ds) ds)
written_or_not row true p a = all_more p a
written_or_not row false p a = a

written_at_same : (row : Shape) (k : ℕ) {ws : List (ℕ × Row)} {vs : List (ℕ × Datum)} → All_same (Same_write row) ws vs → All_same (Row_of row) (written_at k ws) (written_at k vs)
written_at_same row k all_none = all_none
written_at_same row k (all_more {x = w} {x' = v} {xs = ws} {xs' = vs} p a) =
    subst (λ n. All_same (Row_of row) (cond (nat_eq n k) (w.1 ∷ written_at k ws) (written_at k ws)) (cond (nat_eq v.0 k) (v.1 ∷ written_at k vs) (written_at k vs))) (sym p.place) (written_or_not row (nat_eq v.0 k) p.written (written_at_same row k a))

places_same : (row : Shape) (with : Row → List Row → List Row) (with' : Datum → List Datum → List Datum) → ((r : Row) (d : Datum) (rs : List Row) (ds : List Datum) → Row_of row r d → All_same (Row_of row) rs ds → All_same (Row_of row) (with r rs) (with' d ds)) → (k : ℕ) {rs : List Row} {ds : List Datum} {ws : List (ℕ × Row)} {vs : List (ℕ × Datum)} → All_same (Row_of row) rs ds → All_same (Same_write row) ws vs → All_same (All_same (Row_of row)) (places with k rs ws) (places with' k ds vs)
places_same row with with' l k all_none b = all_none
places_same row with with' l k (all_more {x = r} {x' = d} p a) b = all_more (l r d _ _ p (written_at_same row k b)) (places_same row with with' l (suc k) a b)

old_or_new : (row : Shape) (r : Row) (d : Datum) (rs : List Row) (ds : List Datum) → Row_of row r d → All_same (Row_of row) rs ds → All_same (Row_of row) (or_old r rs) (or_old d ds)
old_or_new row r d _ _ p all_none = all_more p all_none
old_or_new row r d _ _ p (all_more q a) = all_more q a

list_is : {row : Shape} {rs : List Row} {ds : List Datum} → All_same (Row_of row) rs ds → rs ≡ map components ds
list_is all_none = refl
list_is (all_more {x' = d} {xs = rs} p a) = ap (λ z. z ∷ rs) p.are ∙ ap (λ z. components d ∷ z) (list_is a)

all_are : {row : Shape} {rs : List Row} {ds : List Datum} → All_same (Row_of row) rs ds → Every (Is_row row) ds
all_are all_none = tt
all_are (all_more p a) = (p.is, all_are a)

-- in the place of the old rows
pub put_back : (at : Place) (row : Shape) (ds : Datums) {rs : List Row} {es : List Datum} → All_same (Row_of row) rs es → stacked false at (row_sizes (length (leaves row)) (components (Array_datum row ds))) rs ≡ Val (components (Array_datum row (datums es)))
put_back at row ds {rs} {es} a = ap (λ z. stacked false at z rs) (sizes_behind row ds) ∙ ap (stacked false at (leaves row)) (list_is a) ∙ stacked_all false at row es (all_are a)

-- one of those that are written at each place
pub choices_cover : (row : Shape) (old : List Datum) (ws : List (ℕ × Datum)) → Every (Is_row row) old → Every (λ w. Is_row row w.1) ws → Covers (All_same (Row_of row)) (all_of Some_of (places or_old 0 (map components old) (map moved ws))) (all_of Some_of (places or_old 0 old ws))
choices_cover row old ws e f = covers_all (λ rs ds a. covers_some a) (places_same row or_old or_old (old_or_new row) 0 (rows_same row old e) (writes_moved row ws f))
