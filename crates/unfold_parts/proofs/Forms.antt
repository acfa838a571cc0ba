-- What is known of a value, by its form: what has not one form has another.
use Rattle.std.proofs.Common.{◌≡◌, ℕ, List, map, false, refl, sym, ap, ◌∙◌, subst}
use Rattle.std.specs.Borrow.{Bor}
use Rattle.fut_scalar.specs.declared.place.BindId.{BindId}
use Rattle.fut_scalar.specs.declared.place.Place.{Place}
use Rattle.fut_flat.specs.declared.prim.Primitive.{Primitive}
use Rattle.fut_flat.specs.declared.prim.Ref.{Ref}
use Rattle.fut_flat.specs.Erased.{FlatTerm}
use Rattle.fut_flat.specs.Terms.{Patterns}
use Rattle.fut_blocks.specs.declared.block.Atom.{Atom}
use Rattle.unfold.proofs.Mirror.{known_scalar, known_tuple, known_record, known_function, known_primitive}
use Rattle.unfold.specs.Held.{known_of, field_of, fields_known}
use Rattle.unfold.specs.Knowns.{Known, Scalar_known, Tuple_known, Record_known, Function_known, Primitive_known, Knowns, Scope, knowns}
use Rattle.unfold.specs.Shapes.{Shape, Scalar_shape}
use Rattle.unfold.specs.Telling.{is_function}
use Rattle.unfold.specs.Stuck.{No_scalar}
use Rattle.unfold.specs.declared.known.Field.{Field}
use Rattle.unfold.specs.declared.known.Function.{Function}
use Rattle.unfold.specs.declared.known.Known.{Known as Held_known}
use Rattle.unfold.specs.declared.known.KnownForm.{KnownForm, KnownForm-F, out-KnownForm, roll-KnownForm, roll-out-KnownForm}
use Rattle.unfold.specs.declared.known.KnownForm.TheVariants as form
use Rattle.unfold.specs.declared.known.Entered.{Entered as Held_entered}
use Rattle.unfold.specs.declared.known.Names.{Names as Held_names}
use Rattle.unfold_parts.specs.Layouts.{shape_of}
use Rattle.unfold_parts.proofs.Lacking.{No_tuple, No_record, Not_laid_out, tuple_no_scalar, record_no_scalar, function_no_scalar, primitive_no_scalar, scalar_no_tuple, record_no_tuple, function_no_tuple, primitive_no_tuple, scalar_no_record, tuple_no_record, function_no_record, primitive_no_record, function_unlaid, primitive_unlaid}

back : (f g : KnownForm) → out-KnownForm f ≡ out-KnownForm g → f ≡ g
back f g q = sym (roll-out-KnownForm f) ∙ ap roll-KnownForm q ∙ roll-out-KnownForm g

abbrev Layer : Type 0
Layer = KnownForm-F Held_entered KnownForm Held_names Field Function Held_known

-- what is said of each form is said of what is known
module _ (s : Held_known) (P : Known → Type 0) where
  pub by_form : ((u : Atom) → s.form ≡ form.Scalar u → P (Scalar_known u)) → ((ss : Bor (List Held_known)) → s.form ≡ form.Tuple ss → P (Tuple_known (knowns (map known_of ss.now)))) → ((fs : Bor (List Field)) → s.form ≡ form.Record fs → P (Record_known (fields_known (map field_of fs.now)))) → ((ps : Patterns Ref BindId) (e : FlatTerm) (lo : ℕ) (sc : Scope) → P (Function_known ps e lo sc)) → ((p : Primitive) (at : Place) (ss : Knowns) → P (Primitive_known p at ss)) → P (known_of s)
  by_form c t r f p = at (out-KnownForm s.form) refl
    where
      at : (l : Layer) → out-KnownForm s.form ≡ l → P (known_of s)
      at (KnownForm-F.Scalar u) q = let is : s.form ≡ form.Scalar u = back _ _ (q ∙ sym (form.outs-Scalar u)) in subst P (sym (known_scalar s u is)) (c u is)
      at (KnownForm-F.Tuple ss) q = let is : s.form ≡ form.Tuple ss = back _ _ (q ∙ sym (form.outs-Tuple ss)) in subst P (sym (known_tuple s ss is)) (t ss is)
      at (KnownForm-F.Record fs) q = let is : s.form ≡ form.Record fs = back _ _ (q ∙ sym (form.outs-Record fs)) in subst P (sym (known_record s fs is)) (r fs is)
      at (KnownForm-F.Function g) q = let is : s.form ≡ form.Function g = back _ _ (q ∙ sym (form.outs-Function g)) in subst P (sym (known_function s g is)) (f _ _ _ _)
      at (KnownForm-F.Primitive p' at' ss) q = let is : s.form ≡ form.Primitive p' at' ss = back _ _ (q ∙ sym (form.outs-Primitive p' at' ss)) in subst P (sym (known_primitive s p' at' ss is)) (p p' at' _)

module _ (s : Held_known) where
  pub form_no_scalar : ((u : Atom) → s.form ≡ form.Scalar u → ⊥) → No_scalar (known_of s)
  form_no_scalar h = by_form s No_scalar (λ u is. absurd (h u is)) (λ ss is. tuple_no_scalar _) (λ fs is. record_no_scalar _) (λ ps e lo sc. function_no_scalar ps e lo sc) (λ p at ss. primitive_no_scalar p at ss)

  pub form_no_tuple : ((ss : Bor (List Held_known)) → s.form ≡ form.Tuple ss → ⊥) → No_tuple (known_of s)
  form_no_tuple h = by_form s No_tuple (λ u is. scalar_no_tuple u) (λ ss is. absurd (h ss is)) (λ fs is. record_no_tuple _) (λ ps e lo sc. function_no_tuple ps e lo sc) (λ p at ss. primitive_no_tuple p at ss)

  pub form_no_record : ((fs : Bor (List Field)) → s.form ≡ form.Record fs → ⊥) → No_record (known_of s)
  form_no_record h = by_form s No_record (λ u is. scalar_no_record u) (λ ss is. tuple_no_record _) (λ fs is. absurd (h fs is)) (λ ps e lo sc. function_no_record ps e lo sc) (λ p at ss. primitive_no_record p at ss)

  -- what is no tuple and no record has the shape of a scalar
  pub form_shape : ((ss : Bor (List Held_known)) → s.form ≡ form.Tuple ss → ⊥) → ((fs : Bor (List Field)) → s.form ≡ form.Record fs → ⊥) → shape_of (known_of s) ≡ Scalar_shape
  unfolding shape_of
  form_shape t r = by_form s (λ k. shape_of k ≡ Scalar_shape) (λ u is. refl) (λ ss is. absurd (t ss is)) (λ fs is. absurd (r fs is)) (λ ps e lo sc. refl) (λ p at ss. refl)

  -- functions are not laid out
  pub form_unlaid : ((u : Atom) → s.form ≡ form.Scalar u → ⊥) → ((ss : Bor (List Held_known)) → s.form ≡ form.Tuple ss → ⊥) → ((fs : Bor (List Field)) → s.form ≡ form.Record fs → ⊥) → (h : Shape) → Not_laid_out h (known_of s)
  form_unlaid c t r h = by_form s (Not_laid_out h) (λ u is. absurd (c u is)) (λ ss is. absurd (t ss is)) (λ fs is. absurd (r fs is)) (λ ps e lo sc. function_unlaid h ps e lo sc) (λ p at ss. primitive_unlaid h p at ss)

  -- what is no function is data
  pub form_data : ((g : Bor Function) → s.form ≡ form.Function g → ⊥) → ((p : Primitive) (at : Place) (ss : Bor (List Held_known)) → s.form ≡ form.Primitive p at ss → ⊥) → is_function (known_of s) ≡ false
  form_data f p = at (out-KnownForm s.form) refl
    where
      at : (l : Layer) → out-KnownForm s.form ≡ l → is_function (known_of s) ≡ false
      at (KnownForm-F.Scalar u) q = ap is_function (known_scalar s u (back _ _ (q ∙ sym (form.outs-Scalar u))))
      at (KnownForm-F.Tuple ss) q = ap is_function (known_tuple s ss (back _ _ (q ∙ sym (form.outs-Tuple ss))))
      at (KnownForm-F.Record fs) q = ap is_function (known_record s fs (back _ _ (q ∙ sym (form.outs-Record fs))))
      at (KnownForm-F.Function g) q = absurd (f g (back _ _ (q ∙ sym (form.outs-Function g))))
      at (KnownForm-F.Primitive p' at' ss) q = absurd (p p' at' ss (back _ _ (q ∙ sym (form.outs-Primitive p' at' ss))))
