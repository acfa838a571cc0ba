-- The part of a tuple or a record that a label names, and records of which a field is replaced.
use Rattle.std.proofs.Common.{◌≡◌, ◌≢◌, Bool, true, false, cond, ℕ, refl, sym, ap, ◌∙◌, subst, arith, List, [], ◌∷◌, length, Some, None}
use Rattle.std.specs.Str.{bytes_eq}
use Rattle.std.proofs.lemmas.Slice.Eq.{bytes_eq-Decides}
use mathlib.Core.Logic.{inl, inr}
use Rattle.fut_ast.specs.Sorts.{Text}
use Rattle.fut_types.specs.declared.Head.TheVariants as head
use Rattle.fut_types.specs.Types.{Ty, Var, Made, Tys, none, more}
use Rattle.fut_types.specs.Shapes.{place, part_at, part_named, HasPart}
use Rattle.fut_types.proofs.ShapeLaws.{one_part}
use Rattle.fut_typing.specs.Names.{Names, AreNames, Spells, count}
use Rattle.fut_meaning.specs.Found.{Told}
use Rattle.fut_meaning.specs.Outcomes.{Val, and_then}
use Rattle.fut_meaning.specs.Values.{Array_value, Scalar_value, Tuple_value, Record_value, Closure, Primitive_value, no_field, field_and, field, replaced}
use Rattle.fut_meaning.specs.Accessors.{or_wrong, part, fields_of}
use Rattle.fut_meaning.specs.Claims.{HasOut}
use Rattle.fut_meaning.specs.Flats.{FlatValue, FlatTops, FlatMode}
use Rattle.type_soundness.specs.Fits.{FlatFields, Is_key, All_behind, In_order, Fits, Fields_fit}
use Rattle.type_soundness.proofs.Fields.{Field_of, field_found, field_fits}
use Rattle.type_soundness.proofs.Records.{fit_all, numbers_apart}
use Rattle.type_soundness.proofs.Ordering.{same_text, eq_other}
use Rattle.type_soundness.proofs.Decimals.{no_number, part_fits}

key_kept : (s f : Text) (w : FlatValue) (fs : FlatFields) → Is_key s (replaced f w fs) → Is_key s fs
key_kept s f w no_field k = k
key_kept s f w (field_and g v fs) k = known (bytes_eq g f) (key_kept s f w fs) k
  where
    known : (b : Bool) → (Is_key s (replaced f w fs) → Is_key s fs) → Is_key s (cond b (field_and g w fs) (field_and g v (replaced f w fs))) → Is_key s (field_and g v fs)
    known true rec (inl e) = inl e
    known true rec (inr k) = inr k
    known false rec (inl e) = inl e
    known false rec (inr k) = inr (rec k)

key_left : (s f : Text) (w : FlatValue) (fs : FlatFields) → Is_key s fs → Is_key s (replaced f w fs)
key_left s f w no_field k = k
key_left s f w (field_and g v fs) k = known (bytes_eq g f) (key_left s f w fs) k
  where
    known : (b : Bool) → (Is_key s fs → Is_key s (replaced f w fs)) → Is_key s (field_and g v fs) → Is_key s (cond b (field_and g w fs) (field_and g v (replaced f w fs)))
    known true rec (inl e) = inl e
    known true rec (inr k) = inr k
    known false rec (inl e) = inl e
    known false rec (inr k) = inr (rec k)

behind_kept : (s f : Text) (w : FlatValue) (fs : FlatFields) → All_behind s fs → All_behind s (replaced f w fs)
behind_kept s f w no_field h = h
behind_kept s f w (field_and g v fs) h = known (bytes_eq g f) (behind_kept s f w fs h.1)
  where
    known : (b : Bool) → All_behind s (replaced f w fs) → All_behind s (cond b (field_and g w fs) (field_and g v (replaced f w fs)))
    known true rec = h
    known false rec = (h.0, rec)

order_kept : (f : Text) (w : FlatValue) (fs : FlatFields) → In_order fs → In_order (replaced f w fs)
order_kept f w no_field h = h
order_kept f w (field_and g v fs) h = known (bytes_eq g f) (order_kept f w fs h.1)
  where
    known : (b : Bool) → In_order (replaced f w fs) → In_order (cond b (field_and g w fs) (field_and g v (replaced f w fs)))
    known true rec = h
    known false rec = (behind_kept g f w fs h.0, rec)

field_new : (f : Text) (w v : FlatValue) (fs : FlatFields) → field f fs ≡ Some v → field f (replaced f w fs) ≡ Some w
field_new f w v no_field e = absurd (let z : None ≡ Some v = e in cc)
field_new f w v (field_and g x fs) e = known (bytes_eq g f) refl (field_new f w v fs)
  where
    known : (b : Bool) → bytes_eq g f ≡ b → (field f fs ≡ Some v → field f (replaced f w fs) ≡ Some w) → field f (cond b (field_and g w fs) (field_and g x (replaced f w fs))) ≡ Some w
    known true is rec = ap (λ b. cond b (Some w) (field f fs)) is
    known false is rec = ap (λ b. cond b (Some x) (field f (replaced f w fs))) is ∙ rec (sym (ap (λ b. cond b (Some x) (field f fs)) is) ∙ e)

field_old : (s f : Text) (w : FlatValue) (fs : FlatFields) → s ≢ f → field s (replaced f w fs) ≡ field s fs
field_old s f w no_field ne = refl
field_old s f w (field_and g x fs) ne = known (bytes_eq g f) refl (field_old s f w fs ne)
  where
    known : (b : Bool) → bytes_eq g f ≡ b → field s (replaced f w fs) ≡ field s fs → field s (cond b (field_and g w fs) (field_and g x (replaced f w fs))) ≡ field s (field_and g x fs)
    known true is rec = let other : bytes_eq g s ≡ false = eq_other g s (λ e. ne (sym e ∙ (bytes_eq-Decides g f).0 is)) in ap (λ b. cond b (Some w) (field s fs)) other ∙ sym (ap (λ b. cond b (Some x) (field s fs)) other)
    known false is rec = ap (λ y. cond (bytes_eq g s) (Some x) y) rec

module _ (N : Names) (are : AreNames N) (T : Told) (M : FlatMode) (budget : ℕ) (total : Bool) (tops : FlatTops) where
  fit_long : (ls : List ℕ) (ts : Tys) (fs : FlatFields) → Fields_fit N T M budget total ls ts tops fs → count ts ≡ length ls
  unfolding Fields_fit
  fit_long [] none fs h = refl
  fit_long [] (more t ts) fs h = absurd h
  fit_long (l ∷ ls) none fs h = absurd h
  fit_long (l ∷ ls) (more t ts) fs h = let r = fit_long ls ts fs h.1 in omega (arith, r)

  record_replaced : (f : Text) (n : ℕ) (ts : Tys) (x : Ty) (fs : FlatFields) (w : FlatValue) → HasPart N.shapes (N.label f) (Made (head.Record n) ts) x → Fits N T M budget total (Made (head.Record n) ts) tops (Record_value fs) → Fits N T M budget total x tops w
      → Fits N T M budget total (Made (head.Record n) ts) tops (Record_value (replaced f w fs))
  unfolding Fits part_named place
  record_replaced f n ts x fs w h k g = (
    record {
      ordered = order_kept f w fs k.0.ordered;
      same = λ s. ((λ i. (k.0.same s).0 (key_kept s f w fs i)), (λ c. key_left s f w fs ((k.0.same s).1 c)));
    },
    fit_all N T M budget total tops (N.shapes.fields n) ts (replaced f w fs) (numbers_apart (N.shapes.fields n) (are.once n)) (fit_long (N.shapes.fields n) ts fs k.1) (λ l t p.
        let r = field_found N T M budget total l t tops fs (N.shapes.fields n) ts p k.1 in
        elim (same_text r.0 f) as (λ d. Field_of N T M budget total l t tops (replaced f w fs)) [
          | inl e ↦
              let same : x ≡ t = one_part N.shapes l (Made (head.Record n) ts) x t (subst (λ m. HasPart N.shapes m (Made (head.Record n) ts) x) (ap N.label (sym e) ∙ r.2) h) p in
              (f, w, ap N.label (sym e) ∙ r.2, field_new f w r.1 fs (subst (λ s. field s fs ≡ Some r.1) e r.3), subst (λ y. Fits N T M budget total y tops w) same g)
          | inr ne ↦ (r.0, r.1, r.2, field_old r.0 f w fs ne ∙ r.3, r.4)
        ]),
  )

  -- the part that a label names
  pub project_fits : (f : Text) (t u : Ty) (v : FlatValue) → HasPart N.shapes (N.label f) u t → Fits N T M budget total u tops v → HasOut (Fits N T M budget total t tops) (part f v)
  unfolding Fits part_named place part_at
  project_fits f t (Var n) v h k = absurd k
  project_fits f t (Made (head.Scalar s) ts) v h k = absurd (let z : None ≡ Some t = h in cc)
  project_fits f t (Made head.Array ts) v h k = absurd (let z : None ≡ Some t = h in cc)
  project_fits f t (Made head.Tuple ts) (Tuple_value vs) h k = part_fits N T M budget total tops are f ts t vs h k.0 k.1
  project_fits f t (Made head.Tuple ts) (Scalar_value s) h k = absurd k.1
  project_fits f t (Made head.Tuple ts) (Record_value fs) h k = absurd k.1
  project_fits f t (Made head.Tuple ts) (Closure ps e lo env) h k = absurd k.1
  project_fits f t (Made head.Tuple ts) (Primitive_value p at vs) h k = absurd k.1
  project_fits f t (Made head.Tuple ts) (Array_value row ds) h k = absurd k.1
  project_fits f t (Made (head.Record n) ts) (Record_value fs) h k =
      let r = field_fits N T M budget total are f t tops n ts fs h k.1 in subst (λ o. HasOut (Fits N T M budget total t tops) (or_wrong o)) (sym r.1) r.2
  project_fits f t (Made (head.Record n) ts) (Scalar_value s) h k = absurd k
  project_fits f t (Made (head.Record n) ts) (Tuple_value vs) h k = absurd k
  project_fits f t (Made (head.Record n) ts) (Closure ps e lo env) h k = absurd k
  project_fits f t (Made (head.Record n) ts) (Primitive_value p at vs) h k = absurd k
  project_fits f t (Made (head.Record n) ts) (Array_value row ds) h k = absurd k
  project_fits f t (Made head.Fun ts) v h k = absurd (let z : None ≡ Some t = h in cc)
  project_fits f t (Made (head.Rigid n d) ts) v h k = absurd k
  project_fits f t (Made (head.Abstract n d) ts) v h k = absurd k

  -- a record with another value for a field
  pub replace_fits : (f : Text) (t x : Ty) (v w : FlatValue) → ((n : ℕ) → Spells f n → ⊥) → HasPart N.shapes (N.label f) t x → Fits N T M budget total t tops v → Fits N T M budget total x tops w
      → HasOut (Fits N T M budget total t tops) (and_then (fields_of v) (λ fs. Val (Record_value (replaced f w fs))))
  unfolding Fits part_named place part_at
  replace_fits f (Var n) x v w lacks h k g = absurd k
  replace_fits f (Made (head.Scalar s) ts) x v w lacks h k g = absurd (let z : None ≡ Some x = h in cc)
  replace_fits f (Made head.Array ts) x v w lacks h k g = absurd (let z : None ≡ Some x = h in cc)
  replace_fits f (Made head.Tuple ts) x v w lacks h k g = absurd (no_number N are f x ts lacks h)
  replace_fits f (Made (head.Record n) ts) x (Record_value fs) w lacks h k g = record_replaced f n ts x fs w h k g
  replace_fits f (Made (head.Record n) ts) x (Scalar_value s) w lacks h k g = absurd k
  replace_fits f (Made (head.Record n) ts) x (Tuple_value vs) w lacks h k g = absurd k
  replace_fits f (Made (head.Record n) ts) x (Closure ps e lo env) w lacks h k g = absurd k
  replace_fits f (Made (head.Record n) ts) x (Primitive_value p at vs) w lacks h k g = absurd k
  replace_fits f (Made (head.Record n) ts) x (Array_value row ds) w lacks h k g = absurd k
  replace_fits f (Made head.Fun ts) x v w lacks h k g = absurd (let z : None ≡ Some x = h in cc)
  replace_fits f (Made (head.Rigid n d) ts) x v w lacks h k g = absurd k
  replace_fits f (Made (head.Abstract n d) ts) x v w lacks h k g = absurd k
