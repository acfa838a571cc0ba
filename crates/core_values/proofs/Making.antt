-- Arrays that are made of rows' components.
use Rattle.std.proofs.Common.{◌≡◌, ℕ, ◌&&◌, nat_le, Bool, true, false, List, [], ◌∷◌, map, length, refl, sym, ap, ◌∙◌, subst}
use Rattle.std.proofs.lemmas.Bool.{and_parts}
use Rattle.std.proofs.lemmas.List.{length-map}
use Rattle.fut_scalar.specs.declared.place.Place.{Place}
use Rattle.fut_scalar.specs.declared.report.FailKind.{FailKind}
use Rattle.fut_scalar.specs.declared.report.FailKind.TheVariants as kind
use Rattle.fut_scalar.specs.declared.report.Report.{Report}
use Rattle.fut_value.specs.Data.{Shape, Array_shape, Datum, Array_datum, Datums, no_datum, datum_and, listed, datums, shape_of, weight}
use Rattle.fut_value.specs.Data as shape
use Rattle.fut_value.specs.Leaves.{in_rows, leaves}
use Rattle.fut_value.proofs.Leaves.{weight_of_leaves}
use Rattle.fut_meaning.specs.Arrays.{fitting, checked, most_words, all_like, row_shape, array}
use Rattle.fut_meaning.specs.Arrays as source
use Rattle.fut_meaning.specs.Outcomes.{Out, Val, Fail, Wrong, and_then}
use Rattle.core_ir.specs.Bundles.{Row, all_sizes, all_same_sizes, all_have, columns, bundle, others, stacked, weight_of, within_weight, sizes_or, glued}
use Rattle.core_values.specs.Components.{components, each_components, One_type, Regular, an_array, Rows_regular, no_row, and_row, Of_type, none_of, one_of, arrays}
use Rattle.core_values.specs.Claims.{apart, ArraysAreMade, MadeAreRegular}
use Rattle.core_values.proofs.Good.{components_are_sized}
use Rattle.core_values.proofs.Rows.{each_is}
use Rattle.core_values.proofs.Same.{sized_same, shape_is, among}

-- ---- the sizes of a bundle

columns_sizes : (n : ℕ) (ds : List (List ℕ)) (rows : List Row) → all_sizes (columns n ds rows) ≡ map (λ sizes. n ∷ sizes) ds
columns_sizes n [] rows = refl
columns_sizes n (d ∷ ds) rows = ap (λ z. (n ∷ d) ∷ z) (columns_sizes n ds (map others rows))

pub bundle_sizes : (n : ℕ) (ds : List (List ℕ)) (rows : List Row) → all_sizes (bundle n ds rows) ≡ in_rows n ds
bundle_sizes n [] rows = refl
bundle_sizes n (d ∷ ds) rows = columns_sizes n (d ∷ ds) rows

pub listed_datums : (ds : List Datum) → listed (datums ds) ≡ ds
listed_datums [] = refl
listed_datums (d ∷ ds) = ap (λ z. d ∷ z) (listed_datums ds)

-- rows as a bundle are the array's components
pub bundle_of : (h : Shape) (ds : List Datum) → bundle (length (map components ds)) (leaves h) (map components ds) ≡ components (Array_datum h (datums ds))
unfolding components
bundle_of h ds =
    ap (λ n. bundle n (leaves h) (map components ds)) (length-map ds components ∙ sym (ap length (listed_datums ds)))
    ∙ ap (bundle (length (listed (datums ds))) (leaves h)) (sym (each_is (datums ds) ∙ ap (map components) (listed_datums ds)))

apart_checked : (b : Bool) (k : FailKind) (at : Place) (d : Datum) → checked b k at (Val (components d)) ≡ apart (checked b k at (Val d))
apart_checked true k at d = refl
apart_checked false k at d = refl

array_weight : (n : ℕ) (h : Shape) → weight (Array_shape n h) ≡ weight_of (in_rows n (leaves h))
unfolding leaves
array_weight n h = weight_of_leaves (Array_shape n h)

pub within_same : (at : Place) (h : Shape) (ds : Datums) → within_weight at (components (Array_datum h ds)) ≡ apart (source.within_weight at (Array_datum h ds))
unfolding components within_weight shape_of
within_same at h ds =
    let n = length (listed ds) in
    ap (λ z. checked (nat_le (weight_of z) most_words) kind.TooLarge at (Val (bundle n (leaves h) (each_components ds)))) (bundle_sizes n (leaves h) (each_components ds))
    ∙ ap (λ z. checked (nat_le z most_words) kind.TooLarge at (Val (bundle n (leaves h) (each_components ds)))) (sym (array_weight n h))
    ∙ apart_checked (nat_le (weight (Array_shape n h)) most_words) kind.TooLarge at (Array_datum h ds)

-- ---- rows that fit one another

have_same : (h : Shape) (ds : List Datum) → Of_type h ds → all_have (leaves h) (map components ds) ≡ all_like h ds
have_same h _ none_of = refl
have_same h _ (one_of {d} {ds} g o a) =
    ap (λ z. all_same_sizes z (leaves h) && all_have (leaves h) (map components ds)) (components_are_sized d g)
    ∙ ap (λ z. z && all_have (leaves h) (map components ds)) (sym (sized_same o))
    ∙ ap (λ z. shape.same_sizes h (shape_of d) && z) (have_same h ds a)

pub retyped : {h k : Shape} {ds : List Datum} → One_type h k → Of_type h ds → Of_type k ds
retyped o none_of = none_of
retyped o (one_of g p a) = one_of g (among o p) (retyped o a)

told_type : (told : Shape) (ds : List Datum) → One_type told told → Of_type told ds → Of_type (row_shape told ds) ds
told_type told _ t none_of = none_of
told_type told _ t (one_of g o a) = retyped o (one_of g o a)

row_is_met : (told : Shape) (ds : List Datum) → One_type told told → Of_type told ds → One_type (row_shape told ds) (row_shape told ds)
row_is_met told _ t none_of = t
row_is_met told _ t (one_of g o a) = among o o

told_sizes : (told : Shape) (ds : List Datum) → Of_type told ds → sizes_or (leaves told) (map components ds) ≡ leaves (row_shape told ds)
told_sizes told _ none_of = refl
told_sizes told _ (one_of {d} g o a) = components_are_sized d g

apart_fitting : (misfit b : Bool) (at : Place) (cs : Row) (o : Out Datum) → within_weight at cs ≡ apart o → and_then (fitting misfit b at (Val cs)) (within_weight at) ≡ apart (fitting misfit b at o)
apart_fitting true true at cs o e = e
apart_fitting true false at cs o e = refl
apart_fitting false true at cs o e = e
apart_fitting false false at cs o e = refl

made_as : (misfit : Bool) (at : Place) (h : Shape) (ds : List Datum) → Of_type h ds → and_then (stacked misfit at (leaves h) (map components ds)) (within_weight at) ≡ apart (fitting misfit (all_like h ds) at (source.within_weight at (Array_datum h (datums ds))))
unfolding stacked
made_as misfit at h ds a =
    ap (λ z. and_then (fitting misfit z at (Val (bundle (length (map components ds)) (leaves h) (map components ds)))) (within_weight at)) (have_same h ds a)
    ∙ ap (λ z. and_then (fitting misfit (all_like h ds) at (Val z)) (within_weight at)) (bundle_of h ds)
    ∙ apart_fitting misfit (all_like h ds) at (components (Array_datum h (datums ds))) (source.within_weight at (Array_datum h (datums ds))) (within_same at h (datums ds))

pub arrays_are_made : ArraysAreMade
unfolding glued array
arrays_are_made misfit at told ds t a =
    ap (λ z. and_then (stacked misfit at z (map components ds)) (within_weight at)) (told_sizes told ds a) ∙ made_as misfit at (row_shape told ds) ds (told_type told ds t a)

-- ---- what is made is regular

rows_are : (h : Shape) (ds : List Datum) → Of_type h ds → all_like h ds ≡ true → Rows_regular h (datums ds)
rows_are h _ none_of e = no_row
rows_are h _ (one_of {d} {ds} g o a) e = let p = and_parts (shape.same_sizes h (shape_of d)) (all_like h ds) e in and_row g (sym (shape_is o p.0)) (rows_are h ds a p.1)

pub val_is : {A : Type 0} {a b : A} → Val a ≡ Val b → a ≡ b
val_is e = cc

pub failed : {A X : Type 0} {r : Report} {b : A} → Fail r ≡ Val b → X
failed e = absurd (clash e)
  where
    clash : {A : Type 0} {r : Report} {b : A} → Fail r ≡ Val b → ⊥
    clash e = cc

made_from : (misfit b w : Bool) (at : Place) (d e : Datum) → (b ≡ true → Regular d) → fitting misfit b at (checked w kind.TooLarge at (Val d)) ≡ Val e → Regular e
made_from true true true at d e h q = subst Regular (val_is q) (h refl)
made_from false true true at d e h q = subst Regular (val_is q) (h refl)
made_from true true false at d e h q = failed q
made_from false true false at d e h q = failed q
made_from false false w at d e h q = failed q
made_from true false w at d e h q = absurd (let z : Wrong ≡ Val e = q in cc)

pub made_are_regular : MadeAreRegular
unfolding array
made_are_regular misfit at told ds t a d e =
    let h = row_shape told ds in
    made_from misfit (all_like h ds) (nat_le (weight (shape_of (Array_datum h (datums ds)))) most_words) at (Array_datum h (datums ds)) d (λ q. an_array (row_is_met told ds t a) (rows_are h ds (told_type told ds t a) q)) e

-- ---- and of the type that is told

typed_from : (misfit b w : Bool) (at : Place) (k : Shape) (d e : Datum) → One_type k (shape_of d) → fitting misfit b at (checked w kind.TooLarge at (Val d)) ≡ Val e → One_type k (shape_of e)
typed_from true true true at k d e o q = subst (λ z. One_type k (shape_of z)) (val_is q) o
typed_from false true true at k d e o q = subst (λ z. One_type k (shape_of z)) (val_is q) o
typed_from true true false at k d e o q = failed q
typed_from false true false at k d e o q = failed q
typed_from false false w at k d e o q = failed q
typed_from true false w at k d e o q = absurd (let z : Wrong ≡ Val e = q in cc)

row_typed : (told : Shape) (ds : List Datum) → One_type told told → Of_type told ds → One_type told (row_shape told ds)
row_typed told _ t none_of = t
row_typed told _ t (one_of g o a) = o

pub made_are_typed : (misfit : Bool) (at : Place) (told : Shape) (ds : List Datum) → One_type told told → Of_type told ds → (d : Datum) → source.array misfit at told ds ≡ Val d → One_type (Array_shape 0 told) (shape_of d)
unfolding array shape_of
made_are_typed misfit at told ds t a d e =
    let h = row_shape told ds in
    typed_from misfit (all_like h ds) (nat_le (weight (Array_shape (length (listed (datums ds))) h)) most_words) at (Array_shape 0 told) (Array_datum h (datums ds)) d (arrays (row_typed told ds t a)) e
