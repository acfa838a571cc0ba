-- The rows of one array and then those of another.
use Rattle.std.proofs.Common.{◌≡◌, ℕ, zero, suc, ◌+◌, ◌<◌, ◌≤◌, List, [], ◌∷◌, ◌++◌, length, take, drop, Ok, Err, Result, Bool, true, false, cond, nat_eq, refl, sym, ap, ◌∙◌, subst, arith}
use Rattle.std.specs.Prelude.{◌||◌}
use Rattle.std.proofs.lemmas.Bool.{ne_eqb, eq-eqb}
use Rattle.std.proofs.lemmas.List.{take_all}
use Rattle.fut_scalar.specs.declared.place.Place.{Place}
use Rattle.fut_scalar.specs.declared.report.FailKind.TheVariants as kind
use Rattle.fut_scalar.specs.declared.scalar.ScalarType.{ScalarType}
use Rattle.fut_ast.specs.Sorts.{Text}
use Rattle.fut_flat.specs.declared.prim.Primitive.TheVariants as prim
use Rattle.fut_value.specs.Data.{Shape, Scalar_shape, Tuple_shape, Array_shape, Unmet_shape, Datum, same_sizes}
use Rattle.fut_meaning.specs.Arrays.{array_of, all_fresh, fitting}
use Rattle.fut_meaning.specs.Jobs.{Job, done, job, or_met}
use Rattle.fut_meaning.specs.Outcomes.{Out}
use Rattle.array_data.specs.declared.form.Form.{Form}
use Rattle.array_data.specs.declared.form.Form.TheVariants as form
use Rattle.array_data.specs.declared.stop.Stop.{Stop}
use Rattle.array_data.specs.declared.stop.Stop.TheVariants.{Failed, Memory}
use Rattle.array_data.specs.Answers.{Tells, Counts, All_added, all_added, not_all_added, Does, does, does_fail, does_memory, does_lost}
use Rattle.array_data.specs.Held.{shape_held, rows_in, row_shape_in}
use Rattle.array_primitives.proofs.Cutting.{part_within}
use Rattle.array_data.proofs.Holding.{form_unmet, form_scalar, form_tuple, form_record, form_array}
use Rattle.array_data.proofs.Jobbing.{rows_stop, rows_go, rows_counted, done_fresh, added_does, all_there, more_there, array_told}

pub fit_first : (n : ℕ) (x : Bool) → n ≡ 0 → true ≡ (nat_eq n 0 || x)
fit_first n x e = sym (ap (λ z. z || x) (eq-eqb n 0 e))

pub fit_second : (n m : ℕ) (x : Bool) → (n ≡ 0 → ⊥) → m ≡ 0 → true ≡ (nat_eq n 0 || (nat_eq m 0 || x))
fit_second n m x h e = sym (ap (λ z. z || (nat_eq m 0 || x)) (ne_eqb n 0 h) ∙ ap (λ z. z || x) (eq-eqb m 0 e))

pub fit_both : (n m : ℕ) (x r : Bool) → (n ≡ 0 → ⊥) → (m ≡ 0 → ⊥) → r ≡ x → r ≡ (nat_eq n 0 || (nat_eq m 0 || x))
fit_both n m x r h k e = e ∙ sym (ap (λ z. z || (nat_eq m 0 || x)) (ne_eqb n 0 h) ∙ ap (λ z. z || x) (ne_eqb m 0 k))

pub ruleset fits = (fit_first, fit_second, fit_both)

-- ---- the form

abbrev either_shape : ℕ → ℕ → Shape → Shape → Shape
either_shape n m h k = cond (nat_eq n 0) (cond (nat_eq m 0) (or_met h k) k) h

pub either_first : (n m : ℕ) (f g r : Form) → 0 < n → r ≡ f → shape_held r ≡ cond (nat_eq n 0) (cond (nat_eq m 0) (or_met (shape_held f) (shape_held g)) (shape_held g)) (shape_held f)
either_first n m f g r l e = ap shape_held e ∙ sym (ap (λ z. cond z (cond (nat_eq m 0) (or_met (shape_held f) (shape_held g)) (shape_held g)) (shape_held f)) (ne_eqb n 0 (λ q. absurd (omega arith))))

pub either_second : (n m : ℕ) (f g r : Form) → n ≤ 0 → 0 < m → r ≡ g → shape_held r ≡ cond (nat_eq n 0) (cond (nat_eq m 0) (or_met (shape_held f) (shape_held g)) (shape_held g)) (shape_held f)
either_second n m f g r l k e = ap shape_held e ∙ sym (ap (λ z. cond z (cond (nat_eq m 0) (or_met (shape_held f) (shape_held g)) (shape_held g)) (shape_held f)) (eq-eqb n 0 (omega arith)) ∙ ap (λ z. cond z (or_met (shape_held f) (shape_held g)) (shape_held g)) (ne_eqb m 0 (λ q. absurd (omega arith))))

neither : (n m : ℕ) (h k x : Shape) → n ≤ 0 → m ≤ 0 → x ≡ or_met h k → x ≡ either_shape n m h k
neither n m h k x l q e = e ∙ sym (ap (λ z. cond z (cond (nat_eq m 0) (or_met h k) k) h) (eq-eqb n 0 (omega arith)) ∙ ap (λ z. cond z (or_met h k) k) (eq-eqb m 0 (omega arith)))

module _ (n m : ℕ) (f g r : Form) (l : n ≤ 0) (k : m ≤ 0) where
  pub either_unmet : f ≡ form.Unmet → r ≡ g → shape_held r ≡ cond (nat_eq n 0) (cond (nat_eq m 0) (or_met (shape_held f) (shape_held g)) (shape_held g)) (shape_held f)
  either_unmet e q = neither n m (shape_held f) (shape_held g) (shape_held r) l k (ap shape_held q ∙ sym (ap (λ z. or_met z (shape_held g)) (ap shape_held e ∙ form_unmet)))

  met : (h : Shape) → shape_held f ≡ h → r ≡ f → ((j : Shape) → or_met h j ≡ h) → shape_held r ≡ either_shape n m (shape_held f) (shape_held g)
  met h e q w = neither n m (shape_held f) (shape_held g) (shape_held r) l k (ap shape_held q ∙ e ∙ sym (ap (λ z. or_met z (shape_held g)) e ∙ w (shape_held g)))

  pub either_scalar : (t : ScalarType) → f ≡ form.Scalar t → r ≡ f → shape_held r ≡ cond (nat_eq n 0) (cond (nat_eq m 0) (or_met (shape_held f) (shape_held g)) (shape_held g)) (shape_held f)
  either_scalar t e q = met (Scalar_shape t) (ap shape_held e ∙ form_scalar t) q keeps
    where
      keeps : (j : Shape) → or_met (Scalar_shape t) j ≡ Scalar_shape t
      keeps j = refl

  pub either_tuple : (hs : List Form) → f ≡ form.Tuple hs → r ≡ f → shape_held r ≡ cond (nat_eq n 0) (cond (nat_eq m 0) (or_met (shape_held f) (shape_held g)) (shape_held g)) (shape_held f)
  either_tuple hs e q = met _ (ap shape_held e ∙ form_tuple hs) q (λ j. refl)

  pub either_array : (c : ℕ) (h : Form) → f ≡ form.Array c h → r ≡ f → shape_held r ≡ cond (nat_eq n 0) (cond (nat_eq m 0) (or_met (shape_held f) (shape_held g)) (shape_held g)) (shape_held f)
  either_array c h e q = met _ (ap shape_held e ∙ form_array c h) q (λ j. refl)

  pub either_record : (fs : List Text) (hs : List Form) → f ≡ form.Record fs hs → r ≡ f → shape_held r ≡ cond (nat_eq n 0) (cond (nat_eq m 0) (or_met (shape_held f) (shape_held g)) (shape_held g)) (shape_held f)
  either_record fs hs e q = met _ (ap shape_held e ∙ form_record fs hs) q (λ j. refl)

pub ruleset eithers = (either_first, either_second, either_unmet, either_scalar, either_tuple, either_record, either_array)

-- ---- both

pub all_within : (d : Datum) (m : ℕ) → Counts d (Ok m) → 0 + m ≤ length (rows_in d)
all_within d m h = omega (arith, rows_counted d m h)

whole_taken : {A : Type 0} (xs : List A) (n : ℕ) → n ≡ length xs → take n (drop 0 xs) ≡ xs
whole_taken xs n e = take_all n xs (omega arith)

module _ (at : Place) (d e : Datum) where
  pub concat_no_first : (s : Stop) → Counts d (Err s) → Does (job false Unmet_shape prim.Concat at (d ∷ e ∷ [])) (Err s)
  unfolding job
  concat_no_first s h = rows_stop d _ s h

  module _ (c : ℕ) (g : Counts d (Ok c)) where
    pub concat_no_second : (s : Stop) → Counts e (Err s) → Does (job false Unmet_shape prim.Concat at (d ∷ e ∷ [])) (Err s)
    unfolding job
    concat_no_second s h = rows_go d _ c (Err s) g (rows_stop e _ s h)

    module _ (b : ℕ) (k : Counts e (Ok b)) (h i : Shape) (q : h ≡ row_shape_in d) (p : i ≡ row_shape_in e) (t : Bool) (w : t ≡ (nat_eq c 0 || (nat_eq b 0 || same_sizes h i))) where
      told_fit : t ≡ (nat_eq (length (rows_in d)) 0 || (nat_eq (length (rows_in e)) 0 || same_sizes (row_shape_in d) (row_shape_in e)))
      told_fit = w ∙ ap (λ z. nat_eq z 0 || (nat_eq b 0 || same_sizes h i)) (rows_counted d c g) ∙ ap (λ z. nat_eq (length (rows_in d)) 0 || (nat_eq z 0 || same_sizes h i)) (rows_counted e b k)
          ∙ ap (λ z. nat_eq (length (rows_in d)) 0 || (nat_eq (length (rows_in e)) 0 || same_sizes z i)) q ∙ ap (λ z. nat_eq (length (rows_in d)) 0 || (nat_eq (length (rows_in e)) 0 || same_sizes (row_shape_in d) z)) p

      abbrev both_row : Shape
      both_row = either_shape (length (rows_in d)) (length (rows_in e)) (row_shape_in d) (row_shape_in e)

      abbrev both_rows : Out Job
      both_rows = done (all_fresh (array_of at both_row (rows_in d ++ rows_in e)))

      pub concat_misfits : t ≡ false → Does (job false Unmet_shape prim.Concat at (d ∷ e ∷ [])) (Err (Failed (record { kind = kind.Size; place = at })))
      unfolding job
      concat_misfits x = rows_go d _ c _ g (rows_go e _ b _ k (does_fail (ap (λ z. fitting false z at both_rows) (sym told_fit ∙ x))))

      pub concat_done : (j : Shape) (ds ds' ds'' : List Datum) (r : Result Datum Stop) → t ≡ true → j ≡ cond (nat_eq c 0) (cond (nat_eq b 0) (or_met h i) i) h → ds ≡ [] → All_added (take c (drop 0 (rows_in d))) ds ds' (Ok tt) → All_added (take b (drop 0 (rows_in e))) ds' ds'' (Ok tt) → Tells (array_of at j ds'') r → Does (job false Unmet_shape prim.Concat at (d ∷ e ∷ [])) r
      unfolding job
      concat_done j ds ds' ds'' r x y z a v l =
          rows_go d _ c r g (rows_go e _ b r k (subst (λ o. Does (fitting false o at both_rows) r) (sym (sym told_fit ∙ x))
          (done_fresh (array_of at both_row (rows_in d ++ rows_in e)) r
          (array_told at j both_row ds'' (rows_in d ++ rows_in e) r same_row
          (more_there (take c (drop 0 (rows_in d))) (take b (drop 0 (rows_in e))) ds' ds'' (all_there (take c (drop 0 (rows_in d))) ds ds' z a) v
          ∙ ap (λ o. o ++ take b (drop 0 (rows_in e))) (whole_taken (rows_in d) c (rows_counted d c g)) ∙ ap (λ o. rows_in d ++ o) (whole_taken (rows_in e) b (rows_counted e b k))) l))))
        where
          same_row : j ≡ both_row
          same_row = y ∙ ap (λ o. cond (nat_eq o 0) (cond (nat_eq b 0) (or_met h i) i) h) (rows_counted d c g) ∙ ap (λ o. cond (nat_eq (length (rows_in d)) 0) (cond (nat_eq o 0) (or_met h i) i) h) (rows_counted e b k)
              ∙ ap (λ o. cond (nat_eq (length (rows_in d)) 0) (cond (nat_eq (length (rows_in e)) 0) (or_met o i) i) o) q ∙ ap (λ o. cond (nat_eq (length (rows_in d)) 0) (cond (nat_eq (length (rows_in e)) 0) (or_met (row_shape_in d) o) o) (row_shape_in d)) p

pub ruleset joins = (concat_no_first, concat_no_second, concat_misfits, concat_done, added_does, does_memory, part_within)
