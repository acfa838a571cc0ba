-- The rows of several arrays side by side, and as an array of tuples.
use Rattle.std.proofs.Common.{◌≡◌, ◌&&◌, ℕ, suc, nat_eq, Bool, true, false, List, [], ◌∷◌, ◌++◌, map, length, refl, sym, ap, ◌∙◌, subst, arith, eqb-true}
use Rattle.std.proofs.lemmas.List.{append-nil}
use Rattle.fut_scalar.specs.declared.place.Place.{Place}
use Rattle.fut_value.specs.Data as shape
use Rattle.fut_value.specs.Data.{Shape, Tuple_shape, Shapes, no_shape, shape_and, Datum, Tuple_datum, Array_datum, Datums, no_datum, datum_and, listed, datums, shape_of, shapes_of}
use Rattle.fut_value.specs.Leaves.{leaves, all_leaves}
use Rattle.fut_meaning.specs.Arrays.{fitting, failure, rows_of, all_like, row_shape, array, array_of}
use Rattle.fut_meaning.specs.Arrays as source
use Rattle.fut_meaning.proofs.Safe.{Every}
use Rattle.fut_meaning.specs.Jobs.{beside, alone, columns, tupled}
use Rattle.fut_meaning.specs.Outcomes.{Out, Val, Fail, Wrong, and_then}
use Rattle.core_ir.specs.Lists.{paired}
use Rattle.core_ir.specs.Bundles.{Row}
use Rattle.core_ir.specs.Bundles.{glued}
use Rattle.core_ir.specs.Arrays.{rows_together, sizes_together, zipped}
use Rattle.core_values.specs.Components.{components, all_components, One_type, tuples, All_one_type, no_part, part_and, Regular, a_tuple, an_array, All_regular, no_more, and_more, Of_type, none_of, one_of, Told, array_in, wide, all_arrays, All_arrays, no_array, array_and, row_shapes}
use Rattle.core_values.specs.Claims.{apart, ZipsAgree}
use Rattle.core_values.proofs.Rows.{rows_come_out}
use Rattle.core_values.proofs.Same.{sized_same}
use Rattle.core_values.proofs.Making.{arrays_are_made, failed}
use Rattle.core_values.proofs.Updating.{Is_row, rows_listed, all_same_refl, sizes_behind, On_value, on_then, on_given}

-- the components of a tuple of these
abbrev pub side : List Datum → Row
side ds = all_components (datums ds)

side_of_one : (d : Datum) → side (d ∷ []) ≡ components d
unfolding all_components
side_of_one d = append-nil (components d)

alone_sides : (ds : List Datum) → map side (alone ds) ≡ map components ds
alone_sides [] = refl
alone_sides (d ∷ ds) = ap (λ z. z ∷ map side (alone ds)) (side_of_one d) ∙ ap (λ z. components d ∷ z) (alone_sides ds)

beside_sides : (ds : List Datum) (rs : List (List Datum)) → map side (beside ds rs) ≡ paired (map components ds) (map side rs)
unfolding all_components
beside_sides [] rs = refl
beside_sides (d ∷ ds) [] = refl
beside_sides (d ∷ ds) (r ∷ rs) = ap (λ z. (components d ++ side r) ∷ z) (beside_sides ds rs)

beside_long : (ds : List Datum) (rs : List (List Datum)) → length ds ≡ length rs → length (beside ds rs) ≡ length ds
beside_long [] rs e = refl
beside_long (d ∷ ds) [] e = absurd (omega (arith, e))
beside_long (d ∷ ds) (r ∷ rs) e = ap suc (beside_long ds rs (omega (arith, e)))

alone_long : (ds : List Datum) → length (alone ds) ≡ length ds
alone_long [] = refl
alone_long (d ∷ ds) = ap suc (alone_long ds)

map_long : {A B : Type 0} (f : A → B) (xs : List A) → length (map f xs) ≡ length xs
map_long f [] = refl
map_long f (x ∷ xs) = ap suc (map_long f xs)

-- what does not fit
abbrev misfit_out : {A : Type 0} → Bool → Place → Out A
misfit_out misfit at = fitting misfit false at Wrong

-- the columns: as many rows as the first array has, or they misfit
data Columns_are (misfit : Bool) (at : Place) (n : ℕ) : Out (List (List Datum)) → Type 0 where
  in_rows_of : {rs : List (List Datum)} → length rs ≡ n → Columns_are misfit at n (Val rs)
  not_fitting : {o : Out (List (List Datum))} → o ≡ misfit_out misfit at → Columns_are misfit at n o

by_size : (misfit b : Bool) (at : Place) (n m : ℕ) (ds : List Datum) (o : Out (List (List Datum))) → (b ≡ true → n ≡ m) → length ds ≡ n → Columns_are misfit at m o → Columns_are misfit at n (fitting misfit b at (and_then o (λ rs. Val (beside ds rs))))
by_size true true at n m ds _ e l (in_rows_of {rs} k) = in_rows_of (beside_long ds rs (l ∙ e refl ∙ sym k) ∙ l)
by_size false true at n m ds _ e l (in_rows_of {rs} k) = in_rows_of (beside_long ds rs (l ∙ e refl ∙ sym k) ∙ l)
by_size true true at n m ds o e l (not_fitting q) = not_fitting (ap (λ z. and_then z (λ rs. Val (beside ds rs))) q)
by_size false true at n m ds o e l (not_fitting q) = not_fitting (ap (λ z. and_then z (λ rs. Val (beside ds rs))) q)
by_size true false at n m ds o e l c = not_fitting refl
by_size false false at n m ds o e l c = not_fitting refl

columns_are : (misfit : Bool) (at : Place) (a : Told) (rest : List Told) → Columns_are misfit at (length (listed a.1)) (columns misfit at (a.0, listed a.1) (all_arrays rest))
columns_are misfit at a [] = in_rows_of (alone_long (listed a.1))
columns_are misfit at a (b ∷ rest) =
    by_size misfit (nat_eq (length (listed a.1)) (length (listed b.1))) at (length (listed a.1)) (length (listed b.1)) (listed a.1) (columns misfit at (b.0, listed b.1) (all_arrays rest)) (eqb-true (length (listed a.1)) (length (listed b.1))) refl (columns_are misfit at b rest)

-- ---- side by side

abbrev pub sides : Out (List (List Datum)) → Out (List Row)
sides o = and_then o (λ rs. Val (map side rs))

-- both tests of one length, in either order
one_test : (misfit b : Bool) (at : Place) (n m : ℕ) (ds : List Datum) (o : Out (List (List Datum))) → nat_eq n m ≡ b → length ds ≡ n → Columns_are misfit at m o → and_then (sides o) (λ ss. fitting misfit (nat_eq (length (map components ds)) (length ss)) at (Val (paired (map components ds) ss))) ≡ sides (fitting misfit b at (and_then o (λ rs. Val (beside ds rs))))
one_test misfit b at n m ds _ e l (in_rows_of {rs} k) =
    ap (λ z. fitting misfit (nat_eq z (length (map side rs))) at (Val (paired (map components ds) (map side rs)))) (map_long components ds ∙ l)
    ∙ ap (λ z. fitting misfit (nat_eq n z) at (Val (paired (map components ds) (map side rs)))) (map_long side rs ∙ k)
    ∙ ap (λ z. fitting misfit z at (Val (paired (map components ds) (map side rs)))) e
    ∙ fits misfit b
  where
    fits : (misfit b : Bool) → fitting misfit b at (Val (paired (map components ds) (map side rs))) ≡ and_then (fitting misfit b at (Val (beside ds rs))) (λ rs. Val (map side rs))
    fits true true = ap Val (sym (beside_sides ds rs))
    fits false true = ap Val (sym (beside_sides ds rs))
    fits true false = refl
    fits false false = refl
one_test misfit b at n m ds o e l (not_fitting q) =
    ap (λ z. and_then (sides z) (λ ss. fitting misfit (nat_eq (length (map components ds)) (length ss)) at (Val (paired (map components ds) ss)))) q
    ∙ misfits misfit b
    ∙ sym (ap (λ z. sides (fitting misfit b at (and_then z (λ rs. Val (beside ds rs))))) q)
  where
    misfits : (misfit b : Bool) → and_then (sides (misfit_out misfit at)) (λ ss. fitting misfit (nat_eq (length (map components ds)) (length ss)) at (Val (paired (map components ds) ss))) ≡ sides (fitting misfit b at (and_then (misfit_out misfit at) (λ rs. Val (beside ds rs))))
    misfits true true = refl
    misfits true false = refl
    misfits false true = refl
    misfits false false = refl

pub together : (misfit : Bool) (at : Place) (a : Told) (rest : List Told) → Regular (array_in a) → All_arrays rest → rows_together misfit at (map wide (a ∷ rest)) (map components (all_arrays (a ∷ rest))) ≡ sides (columns misfit at (a.0, listed a.1) (all_arrays rest))
together misfit at a [] g no_array = rows_come_out misfit at a.0 a.1 g ∙ ap Val (sym (alone_sides (listed a.1)))
together misfit at a (b ∷ rest) g (array_and h k) =
    ap (λ z. and_then z (λ rs. and_then (rows_together misfit at (map wide (b ∷ rest)) (map components (all_arrays (b ∷ rest)))) (λ ss. fitting misfit (nat_eq (length rs) (length ss)) at (Val (paired rs ss))))) (rows_come_out misfit at a.0 a.1 g)
    ∙ ap (λ z. and_then z (λ ss. fitting misfit (nat_eq (length (map components (listed a.1))) (length ss)) at (Val (paired (map components (listed a.1)) ss)))) (together misfit at b rest h k)
    ∙ one_test misfit (nat_eq (length (listed a.1)) (length (listed b.1))) at (length (listed a.1)) (length (listed b.1)) (listed a.1) (columns misfit at (b.0, listed b.1) (all_arrays rest)) refl refl (columns_are misfit at b rest)

-- ---- as an array of tuples

-- one row of each array
abbrev pub Row_of_each : List Told → List Datum → Type 0
Row_of_each [] [] = Unit {0}
Row_of_each [] (d ∷ ds) = ⊥
Row_of_each (a ∷ rest) [] = ⊥
Row_of_each (a ∷ rest) (d ∷ ds) = Is_row a.0 d × Row_of_each rest ds

alone_each : (a : Told) (ds : List Datum) → Every (Is_row a.0) ds → Every (Row_of_each (a ∷ [])) (alone ds)
alone_each a [] e = tt
alone_each a (d ∷ ds) e = ((e.0, tt), alone_each a ds e.1)

beside_each : (a : Told) (rest : List Told) (ds : List Datum) (rs : List (List Datum)) → Every (Is_row a.0) ds → Every (Row_of_each rest) rs → Every (Row_of_each (a ∷ rest)) (beside ds rs)
beside_each a rest [] rs e f = tt
beside_each a rest (d ∷ ds) [] e f = tt
beside_each a rest (d ∷ ds) (r ∷ rs) e f = ((e.0, f.0), beside_each a rest ds rs e.1 f.1)

rows_in : (a : Told) → Regular (array_in a) → Every (Is_row a.0) (listed a.1)
rows_in a (an_array o r) = rows_listed r

on_fitting : {A : Type 0} (P : A → Type 0) (misfit b : Bool) (at : Place) (o : Out A) → On_value P o → On_value P (fitting misfit b at o)
on_fitting P true true at o h e q = h e q
on_fitting P false true at o h e q = h e q
on_fitting P false false at o h e q = failed q
on_fitting P true false at o h e q = absurd (let z : Wrong ≡ Val e = q in cc)

pub columns_each : (misfit : Bool) (at : Place) (a : Told) (rest : List Told) → Regular (array_in a) → All_arrays rest → On_value (Every (Row_of_each (a ∷ rest))) (columns misfit at (a.0, listed a.1) (all_arrays rest))
columns_each misfit at a [] g no_array = on_given (Every (Row_of_each (a ∷ []))) (alone (listed a.1)) (alone_each a (listed a.1) (rows_in a g))
columns_each misfit at a (b ∷ rest) g (array_and h k) =
    on_fitting (Every (Row_of_each (a ∷ b ∷ rest))) misfit (nat_eq (length (listed a.1)) (length (listed b.1))) at _
    (on_then (Every (Row_of_each (b ∷ rest))) (Every (Row_of_each (a ∷ b ∷ rest))) (columns misfit at (b.0, listed b.1) (all_arrays rest)) _ (columns_each misfit at b rest h k) (λ rs e.
    on_given (Every (Row_of_each (a ∷ b ∷ rest))) (beside (listed a.1) rs) (beside_each a (b ∷ rest) (listed a.1) rs (rows_in a g) e)))

all_regular : (rest : List Told) (r : List Datum) → Row_of_each rest r → All_regular (datums r)
all_regular [] [] e = no_more
all_regular [] (d ∷ r) e = absurd e
all_regular (a ∷ rest) [] e = absurd e
all_regular (a ∷ rest) (d ∷ r) e = and_more e.0.regular (all_regular rest r e.1)

row_shape_is : (rest : List Told) (r : List Datum) → Row_of_each rest r → shapes_of (datums r) ≡ row_shapes rest
unfolding shapes_of
row_shape_is [] [] e = refl
row_shape_is [] (d ∷ r) e = absurd e
row_shape_is (a ∷ rest) [] e = absurd e
row_shape_is (a ∷ rest) (d ∷ r) e = ap (λ z. shape_and z (shapes_of (datums r))) e.0.shaped ∙ ap (shape_and a.0) (row_shape_is rest r e.1)

tuple_is : (rest : List Told) (r : List Datum) → Row_of_each rest r → Is_row (Tuple_shape (row_shapes rest)) (tupled r)
unfolding shape_of
tuple_is rest r e = record { regular = a_tuple (all_regular rest r e); shaped = ap Tuple_shape (row_shape_is rest r e) }

pub tuples_are : (rest : List Told) (rs : List (List Datum)) → Every (Row_of_each rest) rs → Every (Is_row (Tuple_shape (row_shapes rest))) (map tupled rs)
tuples_are rest [] e = tt
tuples_are rest (r ∷ rs) e = (tuple_is rest r e.0, tuples_are rest rs e.1)

tuple_sides : (rs : List (List Datum)) → map side rs ≡ map components (map tupled rs)
unfolding components
tuple_sides [] = refl
tuple_sides (r ∷ rs) = ap (λ z. side r ∷ z) (tuple_sides rs)

-- rows of one shape
pub typed_rows : (h : Shape) (ds : List Datum) → One_type h h → Every (Is_row h) ds → Of_type h ds
typed_rows h [] o e = none_of
typed_rows h (d ∷ ds) o e = one_of e.0.regular (subst (One_type h) (sym e.0.shaped) o) (typed_rows h ds o e.1)

pub like_all : (h : Shape) (ds : List Datum) → One_type h h → Every (Is_row h) ds → all_like h ds ≡ true
like_all h [] o e = refl
like_all h (d ∷ ds) o e = ap (λ z. shape.same_sizes h z && all_like h ds) e.0.shaped ∙ ap (λ z. z && all_like h ds) (sized_same o ∙ all_same_refl (leaves h)) ∙ like_all h ds o e.1

its_shape : (h : Shape) (ds : List Datum) → Every (Is_row h) ds → row_shape h ds ≡ h
its_shape h [] e = refl
its_shape h (d ∷ ds) e = e.0.shaped

fits_at_once : {A : Type 0} (misfit : Bool) (at : Place) (o : Out A) → fitting misfit true at o ≡ o
fits_at_once true at o = refl
fits_at_once false at o = refl

pub known_array : (misfit : Bool) (at : Place) (h : Shape) (ds : List Datum) → One_type h h → Every (Is_row h) ds → array misfit at h ds ≡ array_of at h ds
unfolding array
known_array misfit at h ds o e =
    ap (λ z. fitting misfit (all_like z ds) at (source.within_weight at (Array_datum z (datums ds)))) (its_shape h ds e)
    ∙ ap (λ z. fitting misfit z at (source.within_weight at (Array_datum h (datums ds)))) (like_all h ds o e)
    ∙ fits_at_once misfit at (source.within_weight at (Array_datum h (datums ds)))

sizes_are : (rest : List Told) → sizes_together (map wide rest) (map components (all_arrays rest)) ≡ all_leaves (row_shapes rest)
unfolding all_leaves
sizes_are [] = refl
sizes_are (a ∷ rest) = ap (λ z. z ++ sizes_together (map wide rest) (map components (all_arrays rest))) (sizes_behind a.0 a.1) ∙ ap (λ z. leaves a.0 ++ z) (sizes_are rest)

met_rows : (rest : List Told) → All_arrays rest → All_one_type (row_shapes rest) (row_shapes rest)
met_rows [] no_array = no_part
met_rows (a ∷ rest) (array_and (an_array o r) k) = part_and o (met_rows rest k)

tuple_leaves : (hs : Shapes) → leaves (Tuple_shape hs) ≡ all_leaves hs
unfolding leaves
tuple_leaves hs = refl

module _ (misfit : Bool) (at : Place) (a : Told) (rest : List Told) (g : Regular (array_in a)) (k : All_arrays rest) where
  abbrev tuple : Shape
  tuple = Tuple_shape (row_shapes (a ∷ rest))

  tuple_met : One_type tuple tuple
  tuple_met = tuples (met_rows (a ∷ rest) (array_and g k))

  zipped_rows : (o : Out (List (List Datum))) → On_value (Every (Row_of_each (a ∷ rest))) o → and_then (sides o) (glued misfit at (all_leaves (row_shapes (a ∷ rest)))) ≡ apart (and_then o (λ rs. array_of at tuple (map tupled rs)))
  zipped_rows (Val rs) h =
      let e = tuples_are (a ∷ rest) rs (h rs refl) in
      ap (λ z. glued misfit at z (map side rs)) (sym (tuple_leaves (row_shapes (a ∷ rest))))
      ∙ ap (glued misfit at (leaves tuple)) (tuple_sides rs)
      ∙ arrays_are_made misfit at tuple (map tupled rs) tuple_met (typed_rows tuple (map tupled rs) tuple_met e)
      ∙ ap apart (known_array misfit at tuple (map tupled rs) tuple_met e)
  zipped_rows (Fail r) h = refl
  zipped_rows Wrong h = refl

  -- an array of tuples of the rows of these arrays
  pub zips_agree : zipped misfit at (map wide (a ∷ rest)) (map components (all_arrays (a ∷ rest))) ≡ apart (and_then (columns misfit at (a.0, listed a.1) (all_arrays rest)) (λ rs. array_of at tuple (map tupled rs)))
  zips_agree =
      ap (λ z. and_then z (glued misfit at (sizes_together (map wide (a ∷ rest)) (map components (all_arrays (a ∷ rest)))))) (together misfit at a rest g k)
      ∙ ap (λ z. and_then (sides (columns misfit at (a.0, listed a.1) (all_arrays rest))) (glued misfit at z)) (sizes_are (a ∷ rest))
      ∙ zipped_rows (columns misfit at (a.0, listed a.1) (all_arrays rest)) (columns_each misfit at a rest g k)

pub zips_are_agreed : ZipsAgree
zips_are_agreed misfit at a rest g k = zips_agree misfit at a rest g k
