-- Operations on data of one shape do the same whether what does not fit is reported or goes wrong.
use Rattle.sized_meaning.specs.There.{anywhere}
use Rattle.sized_meaning.proofs.Reporting.{exact_fine, each_fine, last_fine}
use Rattle.fut_meaning.specs.Arrays.{Rows}
use Rattle.fut_meaning.specs.Jobs.{shown_to_agree}
use Rattle.std.specs.Prelude.{◌||◌, length}
use Rattle.sized_meaning.specs.There.{There}
use Rattle.std.specs.Prelude.{ℤ, pos, negsuc, slice_get, ◌&&◌}
use Rattle.std.proofs.Common.{◌≡◌, ℕ, zero, suc, List, [], ◌∷◌, Bool, true, false, nat_eq, refl, sym, ap, ◌∙◌, subst, eq-eqb}
use Rattle.fut_scalar.specs.declared.place.Place.{Place}
use Rattle.fut_value.specs.Data.{Shape, Scalar_shape, Tuple_shape, Record_shape, Array_shape, Unmet_shape, Shapes, no_shape, shape_and, Named_shapes, no_named_shape, named_shape_and, Datum, Scalar_datum, Tuple_datum, Record_datum, Array_datum, Datums, no_datum, datum_and, listed, shape_of, same_sizes, all_same_sizes, named_same_sizes, is_unmet}
use Rattle.fut_meaning.specs.Arrays.{fitting, all_like, row_shape, array, row_at, or_bounds, each_out, exact_of, last_apart, updated, Make_array, Make_index, Make_update, Make_range, made}
use Rattle.fut_meaning.specs.Outcomes.{Out, Val, Fail, Wrong, and_then}
use Rattle.fut_meaning.proofs.Safe.{Every}
use Rattle.sized_meaning.specs.Shapes.{Whole, Rows_whole}
use Rattle.sized_meaning.specs.Fits.{Out_fits}
use Rattle.sized_meaning.specs.Misfits.{All_of_shape, Updates, NoOperationMisfits}
use Rattle.sized_meaning.proofs.Datas.{value_same, the_value}
use Rattle.sized_meaning.proofs.Outcomes.{out_of}

-- ---- a shape has its own sizes

pub both_hold : (a b : Bool) → a ≡ true → b ≡ true → a && b ≡ true
both_hold true b e k = k
both_hold false b e k = e

mutual
  unfolding same_sizes all_same_sizes named_same_sizes is_unmet

  pub same_self : (h : Shape) → same_sizes h h ≡ true
  same_self (Scalar_shape t) = refl
  same_self (Tuple_shape hs) = all_same_self hs
  same_self (Record_shape hs) = named_same_self hs
  same_self (Array_shape n h) = both_hold (nat_eq n n) (same_sizes h h) (eq-eqb n n refl) (same_self h)
  same_self Unmet_shape = refl

  all_same_self : (hs : Shapes) → all_same_sizes hs hs ≡ true
  all_same_self no_shape = refl
  all_same_self (shape_and h hs) = both_hold (same_sizes h h) (all_same_sizes hs hs) (same_self h) (all_same_self hs)

  named_same_self : (hs : Named_shapes) → named_same_sizes hs hs ≡ true
  named_same_self no_named_shape = refl
  named_same_self (named_shape_and f h hs) = both_hold (same_sizes h h) (named_same_sizes hs hs) (same_self h) (named_same_self hs)

pub same_as : (h k : Shape) → h ≡ k → same_sizes h k ≡ true
same_as h k e = subst (λ z. same_sizes h z ≡ true) e (same_self h)

-- what fits is not looked at
pub fits_here : {A : Type 0} (misfit b : Bool) (at : Place) (o : Out A) → b ≡ true → fitting misfit b at o ≡ o
fits_here misfit true at o e = refl
fits_here misfit false at o e = absurd (let z : false ≡ true = e in cc)

pub like_all : (h : Shape) (ds : List Datum) → All_of_shape h ds → all_like h ds ≡ true
like_all h [] e = refl
like_all h (d ∷ ds) e = both_hold (same_sizes h (shape_of d)) (all_like h ds) (same_as h (shape_of d) (sym e.0)) (like_all h ds e.1)

pub rows_like : (told h : Shape) (ds : List Datum) → All_of_shape h ds → all_like (row_shape told ds) ds ≡ true
rows_like told h [] e = refl
rows_like told h (d ∷ ds) e = subst (λ k. all_like k (d ∷ ds) ≡ true) (sym e.0) (like_all h (d ∷ ds) e)

-- an array of elements of one shape
pub array_same : (at : Place) (told h : Shape) (ds : List Datum) → All_of_shape h ds → array true at told ds ≡ array false at told ds
unfolding array
array_same at told h ds e = fits_here true (all_like (row_shape told ds) ds) at _ (rows_like told h ds e) ∙ sym (fits_here false (all_like (row_shape told ds) ds) at _ (rows_like told h ds e))

-- the rows of two arrays of one shape
or_last : (x y : Bool) → y ≡ true → x || y ≡ true
or_last true y e = refl
or_last false y e = e

pub shown_same : (r s : Rows) → r.0 ≡ s.0 → shown_to_agree r s ≡ true
shown_same r s e = or_last (nat_eq (length r.1) 0) _ (or_last (nat_eq (length s.1) 0) _ (same_as r.0 s.0 e))

-- ---- one after the other

pub then_same : {A B : Type 0} (P : A → Type 0) (o : Out A) (k l : A → Out B) → Out_fits (There anywhere) P o → ((a : A) → P a → k a ≡ l a) → and_then o k ≡ and_then o l
then_same P (Val a) k l h go = go a h
then_same P (Fail r) k l h go = refl
then_same P Wrong k l h go = refl

first_same : {A B : Type 0} (o o' : Out A) (k : A → Out B) → o ≡ o' → and_then o k ≡ and_then o' k
first_same o o' k e = ap (λ z. and_then z k) e

-- ---- updates

abbrev pub Row_of : Shape → Datum → Type 0
Row_of h d = (shape_of d ≡ h) × Whole d

pub whole_rows : (row : Shape) (ds : Datums) → Rows_whole row ds → Every (Row_of row) (listed ds)
unfolding Rows_whole
whole_rows row no_datum w = tt
whole_rows row (datum_and d ds) w = ((w.0, w.1), whole_rows row ds w.2)

found_row : (P : Datum → Type 0) (at : Place) (i : ℕ) (ds : List Datum) → Every P ds → Out_fits (There anywhere) P (or_bounds at (slice_get ds i))
found_row P at i [] e = λ e. refl
found_row P at zero (d ∷ ds) e = e.0
found_row P at (suc i) (d ∷ ds) e = found_row P at i ds e.1

row_there : (P : Datum → Type 0) (at : Place) (z : ℤ) (ds : List Datum) → Every P ds → Out_fits (There anywhere) P (row_at at z ds)
row_there P at (negsuc i) ds e = λ e. refl
row_there P at (pos i) ds e = found_row P at i ds e

-- the shape behind as many levels as there are indices is that of the new part
abbrev Behind : List ℤ → Shape → Datum → Type 0
Behind [] h v = shape_of v ≡ h
Behind (z ∷ zs) (Array_shape n h) v = Behind zs h v
Behind (z ∷ zs) h v = ⊥

updated_same : (at : Place) (zs : List ℤ) (v d : Datum) → Whole d → Behind zs (shape_of d) v → updated true at zs v d ≡ updated false at zs v d
unfolding updated shape_of Whole
updated_same at [] v d w b = let e = same_as (shape_of d) (shape_of v) (sym b) in fits_here true (same_sizes (shape_of d) (shape_of v)) at (Val v) e ∙ sym (fits_here false (same_sizes (shape_of d) (shape_of v)) at (Val v) e)
updated_same at (z ∷ zs) v (Array_datum row ds) w b =
    then_same (Row_of row) (row_at at z (listed ds)) _ _ (row_there (Row_of row) at z (listed ds) (whole_rows row ds w))
    (λ e x. first_same (updated true at zs v e) (updated false at zs v e) _ (updated_same at zs v e x.1 (subst (λ h. Behind zs h v) (sym x.0) b)))
updated_same at (z ∷ zs) v (Scalar_datum s) w b = absurd b
updated_same at (z ∷ zs) v (Tuple_datum ds) w b = absurd b
updated_same at (z ∷ zs) v (Record_datum fs) w b = absurd b

behind_all : (h : Shape) (ds : List Datum) (r : List Datum × Datum) (zs : List ℤ) → Updates h ds → last_apart ds ≡ Val r → each_out exact_of r.0 ≡ Val zs → Behind zs h r.1
behind_all h [] r zs u e q = absurd u
behind_all h (v ∷ []) r zs u e q =
    let same = the_value _ r e in
    subst (λ ys. Behind ys h r.1) (the_value [] zs (subst (λ x. each_out exact_of x.0 ≡ Val zs) (sym same) q)) (ap (λ x. shape_of x.1) (sym same) ∙ u)
behind_all (Array_shape n h) (i ∷ j ∷ ds) r zs u e q =
    let x = value_same (last_apart (j ∷ ds)) (λ r. Val (i ∷ r.0, r.1)) r e in
    let same = the_value (i ∷ x.0.0, x.0.1) r x.2 in
    let y = value_same (exact_of i) (λ z. and_then (each_out exact_of x.0.0) (λ zs. Val (z ∷ zs))) zs (subst (λ p. each_out exact_of p.0 ≡ Val zs) (sym same) q) in
    let w = value_same (each_out exact_of x.0.0) (λ zs. Val (y.0 ∷ zs)) zs y.2 in
    subst (λ p. Behind zs (Array_shape n h) p.1) same (subst (λ ys. Behind ys (Array_shape n h) x.0.1) (the_value (y.0 ∷ w.0) zs w.2) (behind_all h (j ∷ ds) x.0 w.0 u x.1 w.1))
behind_all (Scalar_shape s) (i ∷ j ∷ ds) r zs u e q = absurd u
behind_all (Tuple_shape hs) (i ∷ j ∷ ds) r zs u e q = absurd u
behind_all (Record_shape hs) (i ∷ j ∷ ds) r zs u e q = absurd u
behind_all Unmet_shape (i ∷ j ∷ ds) r zs u e q = absurd u

-- ---- operations

pub no_operation_misfits : NoOperationMisfits
unfolding made
no_operation_misfits told Make_array at ds h = first_same (array true at told ds) (array false at told ds) _ (array_same at told h.0 ds h.1)
no_operation_misfits told (Make_index parts) at [] h = refl
no_operation_misfits told (Make_index parts) at (d ∷ ds) h = refl
no_operation_misfits told Make_update at [] h = refl
no_operation_misfits told Make_update at (d ∷ ds) h =
    then_same (λ r. last_apart ds ≡ Val r) (last_apart ds) _ _ (out_of _ (λ r. last_apart ds ≡ Val r) (last_apart ds) (last_fine anywhere ds) (λ r e. e))
    (λ r e. then_same (λ zs. each_out exact_of r.0 ≡ Val zs) (each_out exact_of r.0) _ _ (out_of _ (λ zs. each_out exact_of r.0 ≡ Val zs) (each_out exact_of r.0) (each_fine anywhere exact_of (λ d. exact_fine anywhere d) r.0) (λ zs q. q))
    (λ zs q. first_same (updated true at zs r.1 d) (updated false at zs r.1 d) _ (updated_same at zs r.1 d h.0 (behind_all (shape_of d) ds r zs h.1 e q))))
no_operation_misfits told (Make_range stepped e) at ds h = refl
