-- Arrays of tuples.
use Rattle.std.proofs.Common.{◌≡◌, ℕ, zero, suc, ◌+◌, ◌<◌, ◌≤◌, List, [], ◌∷◌, ◌++◌, map, length, get_or, take, slice_get, Some, Ok, Err, Result, false, refl, sym, ap, ◌∙◌, subst, arith, add-one, append_assoc}
use Rattle.std.proofs.lemmas.List.{append-nil, take_all}
use Rattle.fut_scalar.specs.declared.place.Place.{Place}
use Rattle.fut_flat.specs.declared.prim.Primitive.{Primitive}
use Rattle.fut_flat.specs.declared.prim.Primitive.TheVariants as prim
use Rattle.fut_value.specs.Data.{Shape, Tuple_shape, Unmet_shape, Datum, Scalar_datum, Tuple_datum, Record_datum, Array_datum, datums}
use Rattle.fut_meaning.specs.Arrays.{Rows, rows_of, array_of, all_fresh}
use Rattle.fut_meaning.specs.Jobs.{Job, done, job, tupled, zipped, columns, row_of}
use Rattle.fut_meaning.specs.Outcomes.{Out, Val, Fail, Wrong, and_then}
use Rattle.array_data.specs.declared.form.Form.{Form}
use Rattle.array_data.specs.declared.form.Form.TheVariants as form
use Rattle.array_data.specs.declared.data.Data.{Data}
use Rattle.array_data.specs.declared.data.Data.TheVariants as hold
use Rattle.fut_scalar.specs.declared.scalar.Scalar.TheVariants as scalar
use Rattle.array_data.specs.declared.stop.Stop.{Stop}
use Rattle.array_data.specs.declared.stop.Stop.TheVariants.{Failed, Memory}
use Rattle.array_data.specs.Answers.{Tells, Added, added, not_added, All_added, all_added, not_all_added, Columned, columned, columned_is, columned_fails, columned_memory, columned_lost, Rows_are, each_at, Put, put, not_put, Does, does, does_fail, does_memory, does_lost, Tupled, tupled_row, not_tupled, Tuples_added}
use Rattle.array_data.specs.Held.{shapes, shape_held, held, held_all, as_held, rows_in, row_shape_in}
use Rattle.array_data.proofs.Forms.{map_push, held_length}
use Rattle.array_data.proofs.Holding.{form_tuple}
use Rattle.array_data.proofs.Jobbing.{done_fresh, all_there, array_told}
use Rattle.array_primitives.proofs.Planning.{two_held, three_held}
use Rattle.array_data.proofs.RowsRead.{take_row}

-- ---- what rows look like

unfoldable pub Row_forms : List Data → ℕ → List Form → Type 0
Row_forms ds i hs = map shape_held hs ≡ map row_shape_in (held_all (take i ds))

shapes_more : (ds : List Data) (i : ℕ) (d : Data) → i < length ds → map row_shape_in (held_all (take (suc i) ds)) ≡ map row_shape_in (held_all (take i ds)) ++ row_shape_in (held (get_or ds i d)) ∷ []
unfolding held_all
shapes_more [] i d l = absurd (omega arith)
shapes_more (e ∷ ds) zero d l = refl
shapes_more (e ∷ ds) (suc i) d l = ap (λ z. row_shape_in (held e) ∷ z) (shapes_more ds i d (omega arith))

module _ (ds : List Data) where
  pub row_forms_start : (hs : List Form) → hs ≡ [] → Row_forms ds 0 hs
  unfolding Row_forms held_all
  row_forms_start hs e = ap (map shape_held) e

  pub row_forms_more : (i : ℕ) (d : Data) (hs ks : List Form) (h k : Form) → i < length ds → Row_forms ds i hs → shape_held h ≡ row_shape_in (held (get_or ds i d)) → k ≡ h → ks ≡ hs ++ k ∷ [] → Row_forms ds (i + 1) ks
  unfolding Row_forms
  row_forms_more i d hs ks h k l m e x q =
      ap (map shape_held) q ∙ map_push shape_held hs k ∙ ap (λ z. z ++ shape_held k ∷ []) m ∙ ap (λ z. map row_shape_in (held_all (take i ds)) ++ z ∷ []) (ap shape_held x ∙ e)
      ∙ sym (shapes_more ds i d l) ∙ ap (λ z. map row_shape_in (held_all (take z ds))) (sym (add-one i))

  pub row_forms_end : (i : ℕ) (hs : List Form) → length ds ≤ i → Row_forms ds i hs → map shape_held hs ≡ map row_shape_in (held_all ds)
  unfolding Row_forms
  row_forms_end i hs l m = m ∙ ap (λ z. map row_shape_in (held_all z)) (take_all i ds l)

pub ruleset row_forms = (row_forms_start, row_forms_more, row_forms_end)

-- ---- one tuple

pub tuple_put : (ds : List Datum) (i : ℕ) (s0 s : List Data) (ps : List Data) (v : Data) → s0 ≡ [] → Put ds i (held_all s0) (held_all s) (Ok tt) → ps ≡ s → held v ≡ Tuple_datum (datums (held_all ps)) → Tupled ds i (as_held (Ok v))
unfolding held_all
tuple_put ds i s0 s ps v e (put es q p) x h = tupled_row es q (h ∙ ap (λ z. Tuple_datum (datums z)) (ap (map held) x ∙ p ∙ ap (λ z. map held z ++ es) e))

pub ruleset one_tuple = (tuple_put, not_tupled)

-- ---- all tuples

unfoldable pub Tuples_pushed : List Datum → ℕ → ℕ → List Datum → List Datum → Type 0
Tuples_pushed ds n i s0 s = (rows : List (List Datum)) → n ≡ length rows → Rows_are ds rows → s ≡ s0 ++ map tupled (take i rows)

map_take_more : (rows : List (List Datum)) (i : ℕ) (es : List Datum) → slice_get rows i ≡ Some es → map tupled (take (suc i) rows) ≡ map tupled (take i rows) ++ tupled es ∷ []
map_take_more rows i es e = ap (map tupled) (take_row rows i es e) ∙ map_push tupled (take i rows) es

module _ (ds : List Datum) (n : ℕ) (s0 : List Datum) where
  pub tuples_start : Tuples_pushed ds n 0 s0 s0
  unfolding Tuples_pushed
  tuples_start rows q p = sym (append-nil s0)

  pub tuples_more : (i : ℕ) (v : Datum) (s s' : List Datum) → Tuples_pushed ds n i s0 s → Tupled ds i (Ok v) → Added v s s' (Ok tt) → Tuples_pushed ds n (i + 1) s0 s'
  unfolding Tuples_pushed
  tuples_more i v s s' h (tupled_row es q e) (added a) rows m p =
      a ∙ ap (λ z. z ++ v ∷ []) (h rows m p) ∙ append_assoc s0 (map tupled (take i rows)) (v ∷ []) ∙ ap (λ z. s0 ++ (map tupled (take i rows) ++ z ∷ [])) e
      ∙ ap (λ z. s0 ++ z) (sym (map_take_more rows i es (p i es q))) ∙ ap (λ z. s0 ++ map tupled (take z rows)) (sym (add-one i))

  pub tuples_end : (i : ℕ) (s : List Datum) → n ≤ i → Tuples_pushed ds n i s0 s → Tuples_added ds n s0 s (Ok tt)
  unfolding Tuples_pushed Tuples_added
  tuples_end i s l h rows m p = all_added (h rows m p ∙ ap (λ z. s0 ++ map tupled z) (take_all i rows (omega arith)))

pub tuples_memory : (ds : List Datum) (n : ℕ) (s0 s : List Datum) → Tuples_added ds n s0 s (Err Memory)
unfolding Tuples_added
tuples_memory ds n s0 s rows m p = not_all_added

pub ruleset all_tuples = (tuples_start, tuples_more, tuples_end, tuples_memory)

-- ---- zips

module _ (at : Place) (h : Shape) (ds : List Datum) where
  zipped_is : zipped false at h ds ≡ and_then (columned at ds) (λ rows. done (all_fresh (array_of at h (map tupled rows))))
  zipped_is = by_list ds
    where
      by_array : (ds : List Datum) (o : Out Rows) → and_then o (λ r. and_then (columns false at r ds) (λ rows. done (all_fresh (array_of at h (map tupled rows))))) ≡ and_then (and_then o (λ r. columns false at r ds)) (λ rows. done (all_fresh (array_of at h (map tupled rows))))
      by_array ds (Val r) = refl
      by_array ds (Fail r) = refl
      by_array ds Wrong = refl

      by_list : (ds : List Datum) → zipped false at h ds ≡ and_then (columned at ds) (λ rows. done (all_fresh (array_of at h (map tupled rows))))
      by_list [] = refl
      by_list (d ∷ ds) = by_array ds (rows_of d)

  pub zip_stop : (e : Stop) → Columned at ds (Err e) → Does (zipped false at h ds) (Err e)
  zip_stop _ (columned_fails q) = does_fail (zipped_is ∙ ap (λ z. and_then z (λ rows. done (all_fresh (array_of at h (map tupled rows))))) q)
  zip_stop _ columned_memory = does_memory
  zip_stop _ (columned_lost q) = does_lost (zipped_is ∙ ap (λ z. and_then z (λ rows. done (all_fresh (array_of at h (map tupled rows))))) q)

  pub zip_full : (n : ℕ) (s s' : List Datum) (e : Stop) → Columned at ds (Ok n) → Tuples_added ds n s s' (Err e) → Does (zipped false at h ds) (Err e)
  unfolding Tuples_added
  zip_full n s s' e (columned_lost q) k = does_lost (zipped_is ∙ ap (λ z. and_then z (λ rows. done (all_fresh (array_of at h (map tupled rows))))) q)
  zip_full n s s' e (columned_is rows q m w p) k = by_added (k rows m p)
    where
      by_added : {e : Stop} → All_added (map tupled rows) s s' (Err e) → Does (zipped false at h ds) (Err e)
      by_added not_all_added = does_memory

  pub zip_done : (n : ℕ) (k : Shape) (s s' : List Datum) (r : Result Datum Stop) → Columned at ds (Ok n) → k ≡ h → s ≡ [] → Tuples_added ds n s s' (Ok tt) → Tells (array_of at k s') r → Does (zipped false at h ds) r
  unfolding Tuples_added
  zip_done n k s s' r (columned_lost q) x e a t = does_lost (zipped_is ∙ ap (λ z. and_then z (λ rows. done (all_fresh (array_of at h (map tupled rows))))) q)
  zip_done n k s s' r (columned_is rows q m w p) x e a t =
      subst (λ z. Does z r) (sym (zipped_is ∙ ap (λ z. and_then z (λ rows. done (all_fresh (array_of at h (map tupled rows))))) q))
      (done_fresh (array_of at h (map tupled rows)) r (array_told at k h s' (map tupled rows) r x (all_there (map tupled rows) s s' e (a rows m p)) t))

pub zip_form : (hs : List Form) (g k : Form) (ss : List Shape) → map shape_held hs ≡ ss → k ≡ form.Tuple hs → g ≡ k → shape_held g ≡ Tuple_shape (shapes ss)
zip_form hs g k ss e q p = ap shape_held p ∙ ap shape_held q ∙ form_tuple hs ∙ ap (λ z. Tuple_shape (shapes z)) e

pub ruleset zips = (zip_stop, zip_full, zip_done, zip_form, does_memory)

-- ---- which primitive

row_shapes : (d : Datum) → row_of d ≡ row_shape_in d
row_shapes (Scalar_datum s) = refl
row_shapes (Tuple_datum ds) = refl
row_shapes (Record_datum fs) = refl
row_shapes (Array_datum h ds) = refl

pub zip_two : (p : Primitive) (at : Place) (ds : List Data) (d e : Data) (r : Result Datum Stop) → p ≡ prim.Zip → length ds ≡ 2 → Does (zipped false at (Tuple_shape (shapes (map row_shape_in (held_all ds)))) (held_all ds)) r → Does (job false Unmet_shape p at (held_all ds)) r
unfolding job
zip_two p at ds d e r i l h =
    subst (λ z. Does (job false Unmet_shape z at (held_all ds)) r) (sym i)
    (subst (λ z. Does (job false Unmet_shape prim.Zip at z) r) (sym (two_held ds d e l))
    (subst (λ z. Does (zipped false at (Tuple_shape (shapes z)) (held (get_or ds 0 d) ∷ held (get_or ds 1 e) ∷ [])) r) both
    (subst (λ z. Does (zipped false at (Tuple_shape (shapes (map row_shape_in z))) z) r) (two_held ds d e l) h)))
  where
    both : row_shape_in (held (get_or ds 0 d)) ∷ row_shape_in (held (get_or ds 1 e)) ∷ [] ≡ row_of (held (get_or ds 0 d)) ∷ row_of (held (get_or ds 1 e)) ∷ []
    both = ap (λ z. z ∷ row_shape_in (held (get_or ds 1 e)) ∷ []) (sym (row_shapes (held (get_or ds 0 d)))) ∙ ap (λ z. row_of (held (get_or ds 0 d)) ∷ z ∷ []) (sym (row_shapes (held (get_or ds 1 e))))

pub zip_three : (p : Primitive) (at : Place) (ds : List Data) (d : Data) (r : Result Datum Stop) → p ≡ prim.Zip3 → length ds ≡ 3 → Does (zipped false at (Tuple_shape (shapes (map row_shape_in (held_all ds)))) (held_all ds)) r → Does (job false Unmet_shape p at (held_all ds)) r
unfolding job
zip_three p at ds d r i l h =
    subst (λ z. Does (job false Unmet_shape z at (held_all ds)) r) (sym i)
    (subst (λ z. Does (job false Unmet_shape prim.Zip3 at z) r) (sym (three_held ds d d d l))
    (subst (λ z. Does (zipped false at (Tuple_shape (shapes z)) (held (get_or ds 0 d) ∷ held (get_or ds 1 d) ∷ held (get_or ds 2 d) ∷ [])) r) all_three
    (subst (λ z. Does (zipped false at (Tuple_shape (shapes (map row_shape_in z))) z) r) (three_held ds d d d l) h)))
  where
    all_three : row_shape_in (held (get_or ds 0 d)) ∷ row_shape_in (held (get_or ds 1 d)) ∷ row_shape_in (held (get_or ds 2 d)) ∷ [] ≡ row_of (held (get_or ds 0 d)) ∷ row_of (held (get_or ds 1 d)) ∷ row_of (held (get_or ds 2 d)) ∷ []
    all_three = ap (λ z. z ∷ row_shape_in (held (get_or ds 1 d)) ∷ row_shape_in (held (get_or ds 2 d)) ∷ []) (sym (row_shapes (held (get_or ds 0 d))))
        ∙ ap (λ z. row_of (held (get_or ds 0 d)) ∷ z ∷ row_shape_in (held (get_or ds 2 d)) ∷ []) (sym (row_shapes (held (get_or ds 1 d))))
        ∙ ap (λ z. row_of (held (get_or ds 0 d)) ∷ row_of (held (get_or ds 1 d)) ∷ z ∷ []) (sym (row_shapes (held (get_or ds 2 d))))

-- any data, where a list has an element at an index
some_data : Data
some_data = hold.Scalar (scalar.Bool false)

pub zip_of_two : (p : Primitive) (at : Place) (ds : List Data) (r : Result Datum Stop) → p ≡ prim.Zip → length ds ≡ 2 → Does (zipped false at (Tuple_shape (shapes (map row_shape_in (held_all ds)))) (held_all ds)) r → Does (job false Unmet_shape p at (held_all ds)) r
zip_of_two p at ds r i l h = zip_two p at ds some_data some_data r i l h

pub zip_of_three : (p : Primitive) (at : Place) (ds : List Data) (r : Result Datum Stop) → p ≡ prim.Zip3 → length ds ≡ 3 → Does (zipped false at (Tuple_shape (shapes (map row_shape_in (held_all ds)))) (held_all ds)) r → Does (job false Unmet_shape p at (held_all ds)) r
zip_of_three p at ds r i l h = zip_three p at ds some_data r i l h

pub ruleset zip_primitives = (zip_of_two, zip_of_three, does_memory)
