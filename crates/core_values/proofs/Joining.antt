-- Arrays of one row, of two arrays one behind the other, and of the rows of all rows.
use Rattle.std.proofs.Common.{◌≡◌, ℕ, zero, suc, ◌&&◌, ◌||◌, nat_eq, cond, ne_eqb, Bool, true, false, List, [], ◌∷◌, ◌++◌, map, length, replicate, refl, sym, ap, ◌∙◌, subst, arith}
use Rattle.std.proofs.lemmas.List.{map-append, length-map}
use Rattle.fut_scalar.specs.declared.place.Place.{Place}
use Rattle.fut_value.specs.Data.{Shape, Array_shape, Datum, Array_datum, Datums, no_datum, datum_and, listed, datums, shape_of, weight}
use Rattle.fut_value.specs.Data as shape
use Rattle.fut_value.specs.Leaves.{leaves}
use Rattle.fut_meaning.specs.Arrays.{fitting, checked, most_words, array, array_of, all_like, row_shape}
use Rattle.fut_meaning.specs.Arrays as source
use Rattle.fut_meaning.specs.Jobs.{shown_to_agree, either_row}
use Rattle.fut_meaning.specs.Jobs as jobs
use Rattle.fut_meaning.specs.Outcomes.{Out, and_then}
use Rattle.fut_meaning.proofs.Safe.{Every}
use Rattle.core_ir.specs.Bundles.{Row, sizes, within_weight, glued}
use Rattle.core_ir.specs.Arrays.{array_rows, array_sizes}
use Rattle.core_values.specs.Components.{components, One_type, scalars, tuples, records, arrays, Regular, an_array, Of_type, none_of, one_of}
use Rattle.core_values.specs.Claims.{apart, CopiesAgree, ConcatsAgree}
use Rattle.core_values.proofs.Good.{components_are_sized, good_components, Good_row, good_none, Good_rows, no_rows, rows_and}
use Rattle.core_values.proofs.Same.{among, leaves_many}
use Rattle.core_values.proofs.Making.{arrays_are_made}
use Rattle.core_values.proofs.Updating.{Is_row, rows_listed}
use Rattle.core_values.proofs.Zipping.{typed_rows, like_all, known_array}
use Rattle.core_values.proofs.Selecting.{full, full_sizes, stacked_full, array_rows_are, array_sizes_are}

-- ---- one row, many times

pub every_copy : {A : Type 0} (P : A → Type 0) (n : ℕ) (x : A) → P x → Every P (replicate n x)
every_copy P zero x p = tt
every_copy P (suc n) x p = (p, every_copy P n x p)

map_copy : (n : ℕ) (d : Datum) → map components (replicate n d) ≡ replicate n (components d)
map_copy zero d = refl
map_copy (suc n) d = ap (λ z. components d ∷ z) (map_copy n d)

pub copies_agree : CopiesAgree
copies_agree misfit at n d g o =
    let e = every_copy (Is_row (shape_of d)) n d (record { regular = g; shaped = refl }) in
    ap (λ z. glued misfit at z (replicate n (components d))) (components_are_sized d g)
    ∙ ap (glued misfit at (leaves (shape_of d))) (sym (map_copy n d))
    ∙ arrays_are_made misfit at (shape_of d) (replicate n d) o (typed_rows (shape_of d) (replicate n d) o e)
    ∙ ap apart (known_array misfit at (shape_of d) (replicate n d) o e)

-- ---- one behind the other

full_bare : (misfit : Bool) (at : Place) (rows : List Row) → Good_rows [] rows → glued misfit at ((0 ∷ []) ∷ []) (map full rows) ≡ glued misfit at [] rows
unfolding glued
full_bare misfit at _ no_rows = ap (λ z. and_then z (within_weight at)) (stacked_full misfit at [] [] no_rows)
full_bare misfit at _ (rows_and {rows = rows} good_none k) = ap (λ z. and_then z (within_weight at)) (stacked_full misfit at [] ([] ∷ rows) (rows_and good_none k))

-- lists of rows of one type, with components or without
bare_list : (row : Shape) (xs : List Datum) → leaves row ≡ [] → Of_type row xs → Good_rows [] (map components xs)
bare_list row _ q none_of = no_rows
bare_list row _ q (one_of {d} {ds} g o a) = rows_and (subst (λ z. Good_row z (components d)) (no_leaf (leaves (shape_of d)) (sym (leaves_many o) ∙ ap length q)) (good_components g)) (bare_list row ds q a)
  where
    no_leaf : (ds : List (List ℕ)) → length ds ≡ 0 → ds ≡ []
    no_leaf [] e = refl
    no_leaf (d ∷ ds) e = absurd (omega (arith, e))

full_row : (r : Row) (n : ℕ) → length r ≡ suc n → full r ≡ r
full_row [] n e = absurd (omega (arith, e))
full_row (c ∷ cs) n e = refl

long_row : (d : Datum) → Regular d → length (components d) ≡ length (leaves (shape_of d))
long_row d g = sym (length-map (components d) sizes) ∙ ap length (components_are_sized d g)

full_list : (row : Shape) (n : ℕ) (xs : List Datum) → length (leaves row) ≡ suc n → Of_type row xs → map full (map components xs) ≡ map components xs
full_list row n _ l none_of = refl
full_list row n _ l (one_of {d} {ds} g o a) = ap (λ z. z ∷ map full (map components ds)) (full_row (components d) n (long_row d g ∙ sym (leaves_many o) ∙ l)) ∙ ap (λ z. components d ∷ z) (full_list row n ds l a)

full_typed : (misfit : Bool) (at : Place) (row : Shape) (xs : List Datum) → Of_type row xs → glued misfit at (full_sizes (leaves row)) (map full (map components xs)) ≡ glued misfit at (leaves row) (map components xs)
full_typed misfit at row xs a = by (leaves row) refl
  where
    by : (ds : List (List ℕ)) → leaves row ≡ ds → glued misfit at (full_sizes ds) (map full (map components xs)) ≡ glued misfit at ds (map components xs)
    by [] q = full_bare misfit at (map components xs) (bare_list row xs q a)
    by (d ∷ ds) q = ap (glued misfit at (d ∷ ds)) (full_list row (length ds) xs (ap length q) a)

typed_append : {h : Shape} {xs ys : List Datum} → Of_type h xs → Of_type h ys → Of_type h (xs ++ ys)
typed_append none_of b = b
typed_append (one_of g o a) b = one_of g o (typed_append a b)

typed_as : (h row : Shape) (xs : List Datum) → One_type h row → Every (Is_row row) xs → Of_type h xs
typed_as h row [] o e = none_of
typed_as h row (x ∷ xs) o e = one_of e.0.regular (subst (One_type h) (sym e.0.shaped) o) (typed_as h row xs o e.1)

and_all : (a b c : Bool) → ((a && b) && c) ≡ (a && (b && c))
and_all true b c = refl
and_all false b c = refl

like_append : (h : Shape) (xs ys : List Datum) → all_like h (xs ++ ys) ≡ (all_like h xs && all_like h ys)
like_append h [] ys = refl
like_append h (x ∷ xs) ys = ap (λ z. shape.same_sizes h (shape_of x) && z) (like_append h xs ys) ∙ sym (and_all (shape.same_sizes h (shape_of x)) (all_like h xs) (all_like h ys))

twice : (b : Bool) → (b && b) ≡ b
twice true = refl
twice false = refl

with_true : (b : Bool) → (b && true) ≡ b
with_true true = refl
with_true false = refl

like_others : (h row : Shape) (x : Datum) (xs : List Datum) → Every (Is_row row) (x ∷ xs) → all_like h (x ∷ xs) ≡ shape.same_sizes h row
like_others h row x [] e = ap (λ z. shape.same_sizes h z && true) e.0.shaped ∙ with_true (shape.same_sizes h row)
like_others h row x (y ∷ ys) e = ap (λ z. shape.same_sizes h z && all_like h (y ∷ ys)) e.0.shaped ∙ ap (λ z. shape.same_sizes h row && z) (like_others h row y ys e.1) ∙ twice (shape.same_sizes h row)

met_first : {h k : Shape} → One_type h k → jobs.or_met h k ≡ h
met_first scalars = refl
met_first (tuples o) = refl
met_first (records o) = refl
met_first (arrays o) = refl

array_is : (at : Place) (told h : Shape) (b : Bool) (xs : List Datum) → row_shape told xs ≡ h → all_like h xs ≡ b → array false at told xs ≡ fitting false b at (array_of at h xs)
unfolding array
array_is at told h b xs e q =
    ap (λ z. fitting false (all_like z xs) at (source.within_weight at (Array_datum z (datums xs)))) e ∙ ap (λ z. fitting false z at (source.within_weight at (Array_datum h (datums xs)))) q

-- by whether each has no row
abbrev Joined : Place → Shape → Shape → Bool → Bool → List Datum → Out Datum
Joined at row row' b c xs = fitting false (b || (c || shape.same_sizes row row')) at (array_of at (cond b (cond c (jobs.or_met row row') row') row) xs)

some_row : (n : ℕ) → nat_eq (suc n) 0 ≡ false
some_row n = ne_eqb (suc n) 0 (λ e. absurd (omega (arith, e)))

joined_array : (at : Place) (row row' : Shape) (xs ys : List Datum) → One_type row row → One_type row row' → Every (Is_row row) xs → Every (Is_row row') ys → array false at row (xs ++ ys) ≡ Joined at row row' (nat_eq (length xs) 0) (nat_eq (length ys) 0) (xs ++ ys)
joined_array at row row' [] [] p o e f = array_is at row (jobs.or_met row row') true [] (sym (met_first o)) refl
joined_array at row row' [] (y ∷ ys) p o e f =
    subst (λ c. array false at row (y ∷ ys) ≡ Joined at row row' true c (y ∷ ys)) (sym (some_row (length ys))) (array_is at row row' true (y ∷ ys) f.0.shaped (like_all row' (y ∷ ys) (among o o) f))
joined_array at row row' (x ∷ xs) [] p o e f =
    subst (λ b. array false at row (x ∷ (xs ++ [])) ≡ Joined at row row' b true (x ∷ (xs ++ []))) (sym (some_row (length xs))) (array_is at row row true (x ∷ (xs ++ [])) e.0.shaped (like_append row (x ∷ xs) [] ∙ ap (λ z. z && true) (like_all row (x ∷ xs) p e)))
joined_array at row row' (x ∷ xs) (y ∷ ys) p o e f =
    subst (λ b. array false at row (x ∷ (xs ++ y ∷ ys)) ≡ Joined at row row' b (nat_eq (suc (length ys)) 0) (x ∷ (xs ++ y ∷ ys))) (sym (some_row (length xs)))
    (subst (λ c. array false at row (x ∷ (xs ++ y ∷ ys)) ≡ Joined at row row' false c (x ∷ (xs ++ y ∷ ys))) (sym (some_row (length ys)))
    (array_is at row row (shape.same_sizes row row') (x ∷ (xs ++ y ∷ ys)) e.0.shaped (like_append row (x ∷ xs) (y ∷ ys) ∙ ap (λ z. z && all_like row (y ∷ ys)) (like_all row (x ∷ xs) p e) ∙ like_others row row' y ys f)))

pub concats_agree : ConcatsAgree
concats_agree at row row' ds es o (an_array p a) (an_array p' a') =
    let xs = listed ds in
    let ys = listed es in
    let t = typed_append (typed_rows row xs p (rows_listed a)) (typed_as row row' ys o (rows_listed a')) in
    ap (λ z. and_then z (λ rs. and_then (array_rows false at (components (Array_datum row' es))) (λ ss. glued false at (array_sizes (components (Array_datum row ds))) (rs ++ ss)))) (array_rows_are false at row ds (an_array p a))
    ∙ ap (λ z. and_then z (λ ss. glued false at (array_sizes (components (Array_datum row ds))) (map full (map components xs) ++ ss))) (array_rows_are false at row' es (an_array p' a'))
    ∙ ap (glued false at (array_sizes (components (Array_datum row ds)))) (sym (map-append full (map components xs) (map components ys)) ∙ ap (map full) (sym (map-append components xs ys)))
    ∙ ap (λ z. glued false at z (map full (map components (xs ++ ys)))) (array_sizes_are row ds)
    ∙ full_typed false at row (xs ++ ys) t
    ∙ arrays_are_made false at row (xs ++ ys) p t
    ∙ ap apart (joined_array at row row' xs ys p o (rows_listed a) (rows_listed a'))
