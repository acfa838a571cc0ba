-- Indices of several parts: what is cut out of a bundle is the bundle of what is cut out of the array.
use Rattle.std.proofs.Common.{◌≡◌, ℕ, zero, suc, ◌-◌, ◌<◌, ◌≤◌, Bool, List, [], ◌∷◌, map, take, drop, reverse, length, slice_get, refl, sym, ap, ◌∙◌, subst, arith}
use mathlib.Core.List.{reverse_aux}
use Rattle.std.proofs.lemmas.List.{length-reverse, length-take-le, length-drop}
use Rattle.fut_scalar.specs.declared.place.Place.{Place}
use Rattle.fut_scalar.specs.declared.scalar.ScalarType.{ScalarType}
use Rattle.fut_value.specs.Data.{Shape, Array_shape, Datum, Scalar_datum, Tuple_datum, Record_datum, Array_datum, Datums, listed, datums, shape_of}
use Rattle.fut_value.specs.Data as shape
use Rattle.fut_value.specs.Leaves.{in_rows, leaves}
use Rattle.fut_meaning.specs.Arrays.{each_out, or_bounds, row_or_wrong, Cut, Cut_at, Cut_slice, Cut_backwards, cut_shape, size}
use Rattle.fut_meaning.specs.Arrays as source
use Rattle.fut_meaning.specs.Outcomes.{Out, Val, Fail, Wrong, and_then}
use Rattle.fut_meaning.proofs.Safe.{Every}
use Rattle.core_ir.specs.Bundles.{Row, of_width, rows_of, stacked}
use Rattle.core_ir.specs.Arrays.{first_size, cut_sizes, cut, array_rows, array_sizes}
use Rattle.core_values.specs.Components.{components, One_type, arrays, Regular, an_array}
use Rattle.core_values.specs.Claims.{apart, Cuts_fit, fit_end, fit_row, fit_rows, fit_slice, fit_reverse, CutsAgree}
use Rattle.core_values.proofs.Rows.{wider, rows_come_out}
use Rattle.core_values.proofs.Making.{listed_datums}
use Rattle.core_values.proofs.Updating.{Is_row, rows_listed, listed_rows, stacked_all, On_value, on_then, on_given, Leaf, some_leaf, behind_rows}
use Rattle.core_values.proofs.Selecting.{full, full_sizes, array_rows_are, array_sizes_are, selected_stacked, map_taken, map_dropped, every_taken, every_dropped}

map_turned : {A B : Type 0} (f : A → B) (xs ys : List A) → reverse_aux (map f xs) (map f ys) ≡ map f (reverse_aux xs ys)
map_turned f [] ys = refl
map_turned f (x ∷ xs) ys = map_turned f xs (x ∷ ys)

map_reversed : {A B : Type 0} (f : A → B) (xs : List A) → reverse (map f xs) ≡ map f (reverse xs)
map_reversed f xs = map_turned f xs []

pub every_turned : {A : Type 0} (P : A → Type 0) (xs ys : List A) → Every P xs → Every P ys → Every P (reverse_aux xs ys)
every_turned P [] ys e f = f
every_turned P (x ∷ xs) ys e f = every_turned P xs (x ∷ ys) e.1 (e.0, f)

-- ---- what is cut out

each_kept : {A : Type 0} (xs : List A) → each_out (λ x. Val x) xs ≡ Val xs
each_kept [] = refl
each_kept (x ∷ xs) = ap (λ z. and_then z (λ ys. Val (x ∷ ys))) (each_kept xs)

-- ---- parts of what fits

at_last : {w i n : ℕ} {h : Shape} → Cuts_fit w (Cut_at i ∷ []) (Array_shape n h) → (i < n) × (w ≡ length (leaves h))
at_last (fit_row lt e) = (lt, e)

at_more : {w i n : ℕ} {c : Cut} {cs : List Cut} {h : Shape} → Cuts_fit w (Cut_at i ∷ c ∷ cs) (Array_shape n h) → (i < n) × Cuts_fit w (c ∷ cs) h
at_more (fit_rows lt f) = (lt, f)

record In_slice (w i j n : ℕ) (cs : List Cut) (h : Shape) : Type 0 where
  from : i ≤ j
  to : j ≤ n
  rest : Cuts_fit w cs h

in_slice : {w i j n : ℕ} {cs : List Cut} {h : Shape} → Cuts_fit w (Cut_slice i j ∷ cs) (Array_shape n h) → In_slice w i j n cs h
in_slice (fit_slice a b f) = record { from = a; to = b; rest = f }

in_reverse : {w n : ℕ} {cs : List Cut} {h : Shape} → Cuts_fit w (Cut_backwards ∷ cs) (Array_shape n h) → Cuts_fit w cs h
in_reverse (fit_reverse f) = f

no_scalar : {X : Type 0} {w : ℕ} {c : Cut} {cs : List Cut} {t : ScalarType} → Cuts_fit w (c ∷ cs) (shape.Scalar_shape t) → X
no_scalar f = elim f [ ]

no_tuple : {X : Type 0} {w : ℕ} {c : Cut} {cs : List Cut} {hs : shape.Shapes} → Cuts_fit w (c ∷ cs) (shape.Tuple_shape hs) → X
no_tuple f = elim f [ ]

no_record : {X : Type 0} {w : ℕ} {c : Cut} {cs : List Cut} {hs : shape.Named_shapes} → Cuts_fit w (c ∷ cs) (shape.Record_shape hs) → X
no_record f = elim f [ ]

-- where there are parts, there is an array
has_leaf : {w : ℕ} {c : Cut} {cs : List Cut} {h : Shape} → Cuts_fit w (c ∷ cs) h → Leaf (leaves h)
unfolding leaves
has_leaf (fit_row {n = n} {h = h} lt e) = some_leaf n (leaves h)
has_leaf (fit_rows {n = n} {h = h} lt f) = some_leaf n (leaves h)
has_leaf (fit_slice {n = n} {h = h} a b f) = some_leaf n (leaves h)
has_leaf (fit_reverse {n = n} {h = h} f) = some_leaf n (leaves h)

-- ---- sizes

full_if_some : (ds : List (List ℕ)) → Leaf ds → full_sizes ds ≡ ds
full_if_some [] l = absurd (let e = l.many in omega (arith, e))
full_if_some (d ∷ ds) l = refl

dropped : (n : ℕ) (ds : List (List ℕ)) → map (drop 1) (map (λ sizes. n ∷ sizes) ds) ≡ ds
dropped n [] = refl
dropped n (d ∷ ds) = ap (λ z. d ∷ z) (dropped n ds)

behind : (n : ℕ) (ds : List (List ℕ)) → map (drop 1) (in_rows n ds) ≡ full_sizes ds
behind n [] = refl
behind n (d ∷ ds) = dropped n (d ∷ ds)

behind_one : (n : ℕ) (ds : List (List ℕ)) → map (drop 1) (of_width 1 (in_rows n ds)) ≡ full_sizes ds
behind_one n [] = refl
behind_one n (d ∷ ds) = dropped n (d ∷ ds)

in_rows_full : (n : ℕ) (ds : List (List ℕ)) → in_rows n (full_sizes ds) ≡ in_rows n ds
in_rows_full n [] = refl
in_rows_full n (d ∷ ds) = refl

first_is : (n : ℕ) (ds : List (List ℕ)) → first_size (in_rows n ds) ≡ n
first_is n [] = refl
first_is n (d ∷ ds) = refl

module _ (w : ℕ) where
  rest_cut : (n : ℕ) (cs : List Cut) (h : Shape) → Cuts_fit w cs h → cut_sizes w cs (leaves h) ≡ leaves (cut_shape cs h) → in_rows n (cut_sizes w cs (full_sizes (leaves h))) ≡ in_rows n (leaves (cut_shape cs h))
  rest_cut n [] h f e = in_rows_full n (leaves h)
  rest_cut n (c ∷ cs) h f e = ap (λ z. in_rows n (cut_sizes w (c ∷ cs) z)) (full_if_some (leaves h) (has_leaf f)) ∙ ap (in_rows n) e

  sizes_cut : (cs : List Cut) (h : Shape) → Cuts_fit w cs h → cut_sizes w cs (leaves h) ≡ leaves (cut_shape cs h)
  unfolding leaves
  sizes_cut _ h fit_end = refl
  sizes_cut _ _ (fit_row {n = n} {h = h} lt e) = ap (λ z. map (drop 1) (of_width z (in_rows n (leaves h)))) e ∙ behind_rows n (leaves h)
  sizes_cut _ _ (fit_rows {n = n} {c = c} {cs} {h} lt f) =
      ap (cut_sizes w (c ∷ cs)) (behind_one n (leaves h) ∙ full_if_some (leaves h) (has_leaf f)) ∙ sizes_cut (c ∷ cs) h f
  sizes_cut _ _ (fit_slice {n = n} {i} {j} {cs} {h} a b f) = ap (λ z. in_rows (j - i) (cut_sizes w cs z)) (behind n (leaves h)) ∙ rest_cut (j - i) cs h f (sizes_cut cs h f)
  sizes_cut _ _ (fit_reverse {n = n} {cs} {h} f) =
      ap (λ z. in_rows z (cut_sizes w cs (map (drop 1) (in_rows n (leaves h))))) (first_is n (leaves h)) ∙ ap (λ z. in_rows n (cut_sizes w cs z)) (behind n (leaves h)) ∙ rest_cut n cs h f (sizes_cut cs h f)

-- ---- lists of rows

row_there : {A : Type 0} (at : Place) (row : Shape) (i : ℕ) (ds : List Datum) (k : Row → Out A) (l : Datum → Out Datum) (f : Out Datum → Out A) → i < length ds → Every (Is_row row) ds → ((e : Datum) → Is_row row e → k (components e) ≡ f (l e)) → and_then (or_bounds at (slice_get (map components ds) i)) k ≡ f (row_or_wrong (slice_get ds i) l)
row_there at row i [] k l f lt e h = absurd (omega (arith, lt))
row_there at row zero (d ∷ ds) k l f lt e h = h d e.0
row_there at row (suc i) (d ∷ ds) k l f lt e h = row_there at row i ds k l f (omega (arith, lt)) e.1 h

on_there : (P : Datum → Type 0) (row : Shape) (i : ℕ) (ds : List Datum) (l : Datum → Out Datum) → i < length ds → Every (Is_row row) ds → ((e : Datum) → Is_row row e → On_value P (l e)) → On_value P (row_or_wrong (slice_get ds i) l)
on_there P row i [] l lt e h = absurd (omega (arith, lt))
on_there P row zero (d ∷ ds) l lt e h = h d e.0
on_there P row (suc i) (d ∷ ds) l lt e h = on_there P row i ds l (omega (arith, lt)) e.1 h

record Many_of (P : Datum → Type 0) (n : ℕ) (es : List Datum) : Type 0 where
  are : Every P es
  many : length es ≡ n

on_each : (P Q : Datum → Type 0) (l : Datum → Out Datum) → ((e : Datum) → P e → On_value Q (l e)) → (ds : List Datum) → Every P ds → On_value (Many_of Q (length ds)) (each_out l ds)
on_each P Q l h [] e = on_given (Many_of Q 0) [] (record { are = tt; many = refl })
on_each P Q l h (d ∷ ds) e =
    on_then Q (Many_of Q (suc (length ds))) (l d) _ (h d e.0) (λ x p. on_then (Many_of Q (length ds)) (Many_of Q (suc (length ds))) (each_out l ds) _ (on_each P Q l h ds e.1) (λ xs q.
    on_given (Many_of Q (suc (length ds))) (x ∷ xs) (record { are = (p, q.are); many = ap suc q.many })))

each_apart : (row : Shape) (k : Row → Out Row) (l : Datum → Out Datum) → ((e : Datum) → Is_row row e → k (components e) ≡ apart (l e)) → (ds : List Datum) → Every (Is_row row) ds → each_out k (map components ds) ≡ and_then (each_out l ds) (λ es. Val (map components es))
each_apart row k l h [] e = refl
each_apart row k l h (d ∷ ds) e =
    ap (λ z. and_then z (λ y. and_then (each_out k (map components ds)) (λ ys. Val (y ∷ ys)))) (h d e.0)
    ∙ ap (λ z. and_then (apart (l d)) (λ y. and_then z (λ ys. Val (y ∷ ys)))) (each_apart row k l h ds e.1)
    ∙ over (l d) (each_out l ds)
  where
    over : (o : Out Datum) (p : Out (List Datum)) → and_then (apart o) (λ y. and_then (and_then p (λ es. Val (map components es))) (λ ys. Val (y ∷ ys))) ≡ and_then (and_then o (λ x. and_then p (λ xs. Val (x ∷ xs)))) (λ es. Val (map components es))
    over (Val x) (Val xs) = refl
    over (Val x) (Fail r) = refl
    over (Val x) Wrong = refl
    over (Fail r) p = refl
    over Wrong p = refl

slice_many : {A : Type 0} (i j : ℕ) (xs : List A) → i ≤ j → j ≤ length xs → length (take (j - i) (drop i xs)) ≡ j - i
slice_many i j xs a b = let d = length-drop i xs in length-take-le (j - i) (drop i xs) (omega (arith, a, b, d))

module _ (misfit : Bool) (at : Place) (w : ℕ) where
  each_uncut : (xs : List Row) → each_out (cut misfit at w []) xs ≡ Val xs
  unfolding cut
  each_uncut [] = refl
  each_uncut (x ∷ xs) = ap (λ z. and_then z (λ ys. Val (x ∷ ys))) (each_uncut xs)

  pub each_whole : (ds : List Datum) → each_out (source.cut []) ds ≡ Val ds
  unfolding source.cut
  each_whole [] = refl
  each_whole (d ∷ ds) = ap (λ z. and_then z (λ es. Val (d ∷ es))) (each_whole ds)

  -- an array of what is cut out of some rows
  cut_rows : (row : Shape) (n : ℕ) (cs : List Cut) (es : List Datum) → length es ≡ n → One_type (cut_shape cs row) (cut_shape cs row) → Every (Is_row row) es → ((e : Datum) → Is_row row e → On_value (Is_row (cut_shape cs row)) (source.cut cs e)) → On_value (Is_row (Array_shape n (cut_shape cs row))) (and_then (each_out (source.cut cs) es) (λ ds. Val (Array_datum (cut_shape cs row) (datums ds))))
  unfolding shape_of
  cut_rows row n cs es l o e h =
      on_then (Many_of (Is_row (cut_shape cs row)) (length es)) (Is_row (Array_shape n (cut_shape cs row))) (each_out (source.cut cs) es) _ (on_each (Is_row row) (Is_row (cut_shape cs row)) (source.cut cs) h es e) (λ ds p.
      on_given (Is_row (Array_shape n (cut_shape cs row))) (Array_datum (cut_shape cs row) (datums ds)) (record { regular = an_array o (listed_rows (cut_shape cs row) ds p.are); shaped = ap (λ z. Array_shape z (cut_shape cs row)) (ap length (listed_datums ds) ∙ p.many ∙ l) }))

  -- the shape of what is cut out is met
  pub cut_met : (cs : List Cut) (h : Shape) → Cuts_fit w cs h → One_type h h → One_type (cut_shape cs h) (cut_shape cs h)
  cut_met _ h fit_end o = o
  cut_met _ _ (fit_row lt e) (arrays o) = o
  cut_met _ _ (fit_rows {c = c} {cs} {h} lt f) (arrays o) = cut_met (c ∷ cs) h f o
  cut_met _ _ (fit_slice {cs = cs} {h} a b f) (arrays o) = arrays (cut_met cs h f o)
  cut_met _ _ (fit_reverse {cs = cs} {h} f) (arrays o) = arrays (cut_met cs h f o)

  -- regular, and of the shape that the parts leave
  pub cut_still : (cs : List Cut) (d : Datum) → Regular d → Cuts_fit w cs (shape_of d) → On_value (Is_row (cut_shape cs (shape_of d))) (source.cut cs d)
  unfolding source.cut shape_of
  cut_still [] d g f = on_given (Is_row (shape_of d)) d (record { regular = g; shaped = refl })
  cut_still (c ∷ cs) (Scalar_datum s) g f = no_scalar f
  cut_still (c ∷ cs) (Tuple_datum ds) g f = no_tuple f
  cut_still (c ∷ cs) (Record_datum fs) g f = no_record f
  cut_still (Cut_at i ∷ []) (Array_datum row ds) (an_array o a) f = on_there (Is_row row) row i (listed ds) (source.cut []) (at_last f).0 (rows_listed a) (λ e p. on_given (Is_row row) e p)
  cut_still (Cut_at i ∷ c ∷ cs) (Array_datum row ds) (an_array o a) f =
      on_there (Is_row (cut_shape (c ∷ cs) row)) row i (listed ds) (source.cut (c ∷ cs)) (at_more f).0 (rows_listed a) (λ e p.
      subst (λ z. On_value (Is_row (cut_shape (c ∷ cs) z)) (source.cut (c ∷ cs) e)) p.shaped (cut_still (c ∷ cs) e p.regular (subst (Cuts_fit w (c ∷ cs)) (sym p.shaped) (at_more f).1)))
  cut_still (Cut_slice i j ∷ cs) (Array_datum row ds) (an_array o a) f =
      let s = in_slice f in
      cut_rows row (j - i) cs (take (j - i) (drop i (listed ds))) (slice_many i j (listed ds) s.from s.to) (cut_met cs row s.rest o) (every_taken (Is_row row) (j - i) (drop i (listed ds)) (every_dropped (Is_row row) i (listed ds) (rows_listed a))) (λ e p.
      subst (λ z. On_value (Is_row (cut_shape cs z)) (source.cut cs e)) p.shaped (cut_still cs e p.regular (subst (Cuts_fit w cs) (sym p.shaped) s.rest)))
  cut_still (Cut_backwards ∷ cs) (Array_datum row ds) (an_array o a) f =
      cut_rows row (length (listed ds)) cs (reverse (listed ds)) (length-reverse (listed ds)) (cut_met cs row (in_reverse f) o) (every_turned (Is_row row) (listed ds) [] (rows_listed a) tt) (λ e p.
      subst (λ z. On_value (Is_row (cut_shape cs z)) (source.cut cs e)) p.shaped (cut_still cs e p.regular (subst (Cuts_fit w cs) (sym p.shaped) (in_reverse f))))

  -- ---- of components

  -- of some rows of an array, which stand in `list`
  picked_rows : (row : Shape) (ds : Datums) (cs : List Cut) (pick : (A : Type 0) → List A → List A) → ((A B : Type 0) (f : A → B) (xs : List A) → pick B (map f xs) ≡ map f (pick A xs)) → Regular (Array_datum row ds) → Every (Is_row row) (pick Datum (listed ds)) → Cuts_fit w cs row → One_type (cut_shape cs row) (cut_shape cs row) → ((e : Datum) → Is_row row e → (cut misfit at w cs (components e) ≡ apart (source.cut cs e)) × On_value (Is_row (cut_shape cs row)) (source.cut cs e))
      → and_then (array_rows misfit at (components (Array_datum row ds))) (λ rs. and_then (each_out (cut misfit at w cs) (pick Row rs)) (stacked misfit at (cut_sizes w cs (array_sizes (components (Array_datum row ds)))))) ≡ apart (and_then (each_out (source.cut cs) (pick Datum (listed ds))) (λ es. Val (Array_datum (cut_shape cs row) (datums es))))
  picked_rows row ds [] pick natural g e f o h =
      ap (λ z. and_then z (λ rs. and_then (each_out (cut misfit at w []) (pick Row rs)) (stacked misfit at (array_sizes (components (Array_datum row ds)))))) (array_rows_are misfit at row ds g)
      ∙ ap (λ z. and_then z (stacked misfit at (array_sizes (components (Array_datum row ds))))) (each_uncut (pick Row (map full (map components (listed ds)))))
      ∙ ap (stacked misfit at (array_sizes (components (Array_datum row ds)))) (natural Row Row full (map components (listed ds)) ∙ ap (map full) (natural Datum Row components (listed ds)))
      ∙ selected_stacked misfit at row ds (pick Datum (listed ds)) e
      ∙ sym (ap (λ z. apart (and_then z (λ es. Val (Array_datum row (datums es))))) (each_whole (pick Datum (listed ds))))
  picked_rows row ds (c ∷ cs) pick natural g e f o h =
      let bs = components (Array_datum row ds) in
      let l = has_leaf f in
      ap (λ z. and_then z (λ rs. and_then (each_out (cut misfit at w (c ∷ cs)) (pick Row rs)) (stacked misfit at (cut_sizes w (c ∷ cs) (array_sizes bs))))) (wider misfit at 0 l.more bs ∙ ap (λ z. rows_of misfit at z bs) (sym l.many) ∙ rows_come_out misfit at row ds g)
      ∙ ap (λ z. and_then (each_out (cut misfit at w (c ∷ cs)) z) (stacked misfit at (cut_sizes w (c ∷ cs) (array_sizes bs)))) (natural Datum Row components (listed ds))
      ∙ ap (λ z. and_then z (stacked misfit at (cut_sizes w (c ∷ cs) (array_sizes bs)))) (each_apart row (cut misfit at w (c ∷ cs)) (source.cut (c ∷ cs)) (λ x p. (h x p).0) (pick Datum (listed ds)) e)
      ∙ ap (λ z. and_then (and_then (each_out (source.cut (c ∷ cs)) (pick Datum (listed ds))) (λ es. Val (map components es))) (stacked misfit at z)) (ap (cut_sizes w (c ∷ cs)) (array_sizes_are row ds ∙ full_if_some (leaves row) l) ∙ sizes_cut w (c ∷ cs) row f)
      ∙ stack (each_out (source.cut (c ∷ cs)) (pick Datum (listed ds))) (on_each (Is_row row) (Is_row (cut_shape (c ∷ cs) row)) (source.cut (c ∷ cs)) (λ x p. (h x p).1) (pick Datum (listed ds)) e)
    where
      stack : (p : Out (List Datum)) → On_value (Many_of (Is_row (cut_shape (c ∷ cs) row)) (length (pick Datum (listed ds)))) p → and_then (and_then p (λ es. Val (map components es))) (stacked misfit at (leaves (cut_shape (c ∷ cs) row))) ≡ apart (and_then p (λ es. Val (Array_datum (cut_shape (c ∷ cs) row) (datums es))))
      stack (Val es) k = stacked_all misfit at (cut_shape (c ∷ cs) row) es (k es refl).are
      stack (Fail r) k = refl
      stack Wrong k = refl

  -- what is cut out of a bundle
  pub cut_agrees : (cs : List Cut) (d : Datum) → Regular d → Cuts_fit w cs (shape_of d) → cut misfit at w cs (components d) ≡ apart (source.cut cs d)
  unfolding cut source.cut shape_of
  cut_agrees [] d g f = refl
  cut_agrees (c ∷ cs) (Scalar_datum s) g f = no_scalar f
  cut_agrees (c ∷ cs) (Tuple_datum ds) g f = no_tuple f
  cut_agrees (c ∷ cs) (Record_datum fs) g f = no_record f
  cut_agrees (Cut_at i ∷ []) (Array_datum row ds) (an_array o a) f =
      ap (λ z. and_then z (λ rs. and_then (or_bounds at (slice_get rs i)) (λ bs. Val bs))) (ap (λ z. rows_of misfit at z (components (Array_datum row ds))) (at_last f).1 ∙ rows_come_out misfit at row ds (an_array o a))
      ∙ row_there at row i (listed ds) (λ bs. Val bs) (λ d. Val d) apart (at_last f).0 (rows_listed a) (λ e p. refl)
  cut_agrees (Cut_at i ∷ c ∷ cs) (Array_datum row ds) (an_array o a) f =
      let l = has_leaf (at_more f).1 in
      ap (λ z. and_then z (λ rs. and_then (or_bounds at (slice_get rs i)) (cut misfit at w (c ∷ cs)))) (wider misfit at 0 l.more (components (Array_datum row ds)) ∙ ap (λ z. rows_of misfit at z (components (Array_datum row ds))) (sym l.many) ∙ rows_come_out misfit at row ds (an_array o a))
      ∙ row_there at row i (listed ds) (cut misfit at w (c ∷ cs)) (source.cut (c ∷ cs)) apart (at_more f).0 (rows_listed a) (λ e p. cut_agrees (c ∷ cs) e p.regular (subst (Cuts_fit w (c ∷ cs)) (sym p.shaped) (at_more f).1))
  cut_agrees (Cut_slice i j ∷ cs) (Array_datum row ds) (an_array o a) f =
      let s = in_slice f in
      picked_rows row ds cs (λ A xs. take (j - i) (drop i xs)) (λ A B g xs. ap (take (j - i)) (map_dropped g i xs) ∙ map_taken g (j - i) (drop i xs)) (an_array o a) (every_taken (Is_row row) (j - i) (drop i (listed ds)) (every_dropped (Is_row row) i (listed ds) (rows_listed a))) s.rest (cut_met cs row s.rest o) (λ e p.
      (cut_agrees cs e p.regular (subst (Cuts_fit w cs) (sym p.shaped) s.rest), subst (λ z. On_value (Is_row (cut_shape cs z)) (source.cut cs e)) p.shaped (cut_still cs e p.regular (subst (Cuts_fit w cs) (sym p.shaped) s.rest))))
  cut_agrees (Cut_backwards ∷ cs) (Array_datum row ds) (an_array o a) f =
      picked_rows row ds cs (λ A xs. reverse xs) (λ A B g xs. map_reversed g xs) (an_array o a) (every_turned (Is_row row) (listed ds) [] (rows_listed a) tt) (in_reverse f) (cut_met cs row (in_reverse f) o) (λ e p.
      (cut_agrees cs e p.regular (subst (Cuts_fit w cs) (sym p.shaped) (in_reverse f)), subst (λ z. On_value (Is_row (cut_shape cs z)) (source.cut cs e)) p.shaped (cut_still cs e p.regular (subst (Cuts_fit w cs) (sym p.shaped) (in_reverse f)))))

pub cuts_agree : CutsAgree
cuts_agree misfit at w cs d g f = cut_agrees misfit at w cs d g f
