-- Values of a type without functions are data.
use Rattle.std.proofs.Common.{◌≡◌, ◌≢◌, Bool, cond, ℕ, ◌≤◌, refl, sym, ap, ◌∙◌, subst, arith, List, [], ◌∷◌, Some, min}
use mathlib.Core.Logic.{inl, inr}
use Rattle.fut_scalar.specs.declared.scalar.ScalarType.{ScalarType}
use Rattle.fut_ast.specs.Sorts.{Text}
use Rattle.fut_types.specs.declared.Kind.TheVariants as kind
use Rattle.fut_types.specs.declared.Head.{Head}
use Rattle.fut_types.specs.declared.Head.TheVariants as head
use Rattle.fut_types.specs.Types.{Ty, Var, Made, Tys, none, more, Kinds, rank, least, cap, HasKind}
use Rattle.fut_types.proofs.TyLaws.{rank_made, least_more}
use Rattle.fut_typing.specs.Names.{Names, AreNames}
use Rattle.fut_typing.proofs.Members.{In, in_list}
use Rattle.fut_meaning.specs.Found.{Told}
use Rattle.fut_meaning.specs.Outcomes.{Val, and_then}
use Rattle.fut_value.specs.Data.{Datum, Scalar_datum, Tuple_datum, Record_datum, Array_datum, Datums, no_datum, datum_and, Named_datums, no_named, named_and}
use Rattle.fut_meaning.specs.Datums.{as_value, as_values, as_fields, datum_of, datums_of, named_datums_of}
use Rattle.fut_meaning.specs.Values.{Array_value, Scalar_value, Tuple_value, Record_value, Closure, Primitive_value, no_value, value_and, no_field, field_and, field}
use Rattle.fut_meaning.specs.Flats.{FlatValue, FlatTops, FlatMode}
use Rattle.type_soundness.specs.Fits.{FlatValues, FlatFields, Is_scalar, On_scalar, Is_key, In_order, Fits, All_fit, Fields_fit}
use Rattle.type_soundness.proofs.Ordering.{no_key, eq_here, eq_other}
use Rattle.type_soundness.proofs.Scalars.{below_kind}

abbrev pub Is_data : FlatValue → Type 0
Is_data v = (d : Datum) × (datum_of v ≡ Val d) × (v ≡ as_value d)

scalar_data : (s : ScalarType) (v : FlatValue) → On_scalar (Is_scalar s) v → Is_data v
unfolding datum_of
scalar_data s (Scalar_value c) h = (Scalar_datum c, refl, refl)
scalar_data s (Tuple_value vs) h = absurd h
scalar_data s (Record_value fs) h = absurd h
scalar_data s (Array_value row ds) h = absurd h
scalar_data s (Closure ps e lo env) h = absurd h
scalar_data s (Primitive_value p at vs) h = absurd h

abbrev All_are_data : FlatValues → Type 0
All_are_data vs = (ds : Datums) × (datums_of vs ≡ Val ds) × (vs ≡ as_values ds)

abbrev Fields_are_data : FlatFields → Type 0
Fields_are_data fs = (ds : Named_datums) × (named_datums_of fs ≡ Val ds) × (fs ≡ as_fields ds)

-- each field that is found is data
fields_data : (fs : FlatFields) → In_order fs → ((s : Text) → Is_key s fs → (v : FlatValue) → field s fs ≡ Some v → Is_data v) → Fields_are_data fs
unfolding named_datums_of
fields_data no_field h each = (no_named, refl, refl)
fields_data (field_and f v fs) h each =
    let a = each f (inl refl) v (ap (λ b. cond b (Some v) (field f fs)) (eq_here f)) in
    let b = fields_data fs h.1 (λ s i w q.
    let ne : f ≢ s = λ same. no_key f fs h.0 (subst (λ z. Is_key z fs) (sym same) i) in
    each s (inr i) w (ap (λ b. cond b (Some v) (field s fs)) (eq_other f s ne) ∙ q)) in
    (named_and f a.0 b.0, ap (λ z. and_then z (λ d. and_then (named_datums_of fs) (λ ds. Val (named_and f d ds)))) a.1 ∙ ap (λ z. and_then z (λ ds. Val (named_and f a.0 ds))) b.1, ap (λ z. field_and f z fs) a.2 ∙ ap (λ z. field_and f (as_value a.0) z) b.2)

some_is : {A : Type 0} {x y : A} → Some x ≡ Some y → x ≡ y
some_is e = cc

module _ (N : Names) (are : AreNames N) (T : Told) (M : FlatMode) (budget : ℕ) (total : Bool) (tops : FlatTops) (K : Kinds) where
  pub parts_kind : (h : Head) (ts : Tys) → HasKind K kind.Data (Made h ts) → 1 ≤ least K ts
  parts_kind h ts p = let e : rank K (Made h ts) ≡ min (cap h) (least K ts) = rank_made K h ts in let q : 1 ≤ rank K (Made h ts) = p in omega (arith, e, q)

  pub first_kind : (t : Ty) (ts : Tys) → 1 ≤ least K (more t ts) → HasKind K kind.Data t
  first_kind t ts p = let e : least K (more t ts) ≡ min (rank K t) (least K ts) = least_more K t ts in omega (arith, e, p)

  pub rest_kind : (t : Ty) (ts : Tys) → 1 ≤ least K (more t ts) → 1 ≤ least K ts
  rest_kind t ts p = let e : least K (more t ts) ≡ min (rank K t) (least K ts) = least_more K t ts in omega (arith, e, p)

  -- a field of this label
  abbrev Found : ℕ → FlatFields → Type 0
  Found l fs = (s : Text) × (v : FlatValue) × (N.label s ≡ l) × (field s fs ≡ Some v) × Is_data v

  mutual
    unfolding Fits All_fit Fields_fit datum_of datums_of

    pub fits_data : (t : Ty) (v : FlatValue) → HasKind K kind.Data t → Fits N T M budget total t tops v → Is_data v
    fits_data (Var n) v k h = absurd h
    fits_data (Made (head.Scalar s) ts) v k h = scalar_data s v h
    fits_data (Made head.Array none) v k h = absurd h
    fits_data (Made head.Array (more t none)) (Array_value row ds) k h = (Array_datum row ds, refl, refl)
    fits_data (Made head.Array (more t none)) (Scalar_value s) k h = absurd h
    fits_data (Made head.Array (more t none)) (Tuple_value vs) k h = absurd h
    fits_data (Made head.Array (more t none)) (Record_value fs) k h = absurd h
    fits_data (Made head.Array (more t none)) (Closure ps e lo env) k h = absurd h
    fits_data (Made head.Array (more t none)) (Primitive_value p at vs) k h = absurd h
    fits_data (Made head.Array (more t (more u ts))) v k h = absurd h
    fits_data (Made head.Tuple ts) (Tuple_value vs) k h =
        let r = all_data_fit ts vs (parts_kind head.Tuple ts k) h.1 in (Tuple_datum r.0, ap (λ z. and_then z (λ ds. Val (Tuple_datum ds))) r.1, ap (λ z. Tuple_value z) r.2)
    fits_data (Made head.Tuple ts) (Scalar_value s) k h = absurd h.1
    fits_data (Made head.Tuple ts) (Record_value fs) k h = absurd h.1
    fits_data (Made head.Tuple ts) (Array_value row ds) k h = absurd h.1
    fits_data (Made head.Tuple ts) (Closure ps e lo env) k h = absurd h.1
    fits_data (Made head.Tuple ts) (Primitive_value p at vs) k h = absurd h.1
    fits_data (Made (head.Record n) ts) (Record_value fs) k h =
        let r = fields_data fs h.0.ordered (λ s i v q.
        let f = fields_data_fit (N.shapes.fields n) ts fs (parts_kind (head.Record n) ts k) h.1 (N.label s) (in_list (N.shapes.fields n) (N.label s) ((h.0.same s).0 i)) in
        let e : f.1 ≡ v = some_is (sym f.3 ∙ ap (λ x. field x fs) (are.one_label f.0 s f.2) ∙ q) in
        subst Is_data e f.4) in
        (Record_datum r.0, ap (λ z. and_then z (λ ds. Val (Record_datum ds))) r.1, ap (λ z. Record_value z) r.2)
    fits_data (Made (head.Record n) ts) (Scalar_value s) k h = absurd h
    fits_data (Made (head.Record n) ts) (Tuple_value vs) k h = absurd h
    fits_data (Made (head.Record n) ts) (Array_value row ds) k h = absurd h
    fits_data (Made (head.Record n) ts) (Closure ps e lo env) k h = absurd h
    fits_data (Made (head.Record n) ts) (Primitive_value p at vs) k h = absurd h
    fits_data (Made head.Fun ts) v k h = absurd (let p : 1 ≤ 0 = below_kind K kind.Data head.Fun ts k in omega arith)
    fits_data (Made (head.Rigid n d) ts) v k h = absurd h
    fits_data (Made (head.Abstract n d) ts) v k h = absurd h

    all_data_fit : (ts : Tys) (vs : FlatValues) → 1 ≤ least K ts → All_fit N T M budget total ts tops vs → All_are_data vs
    all_data_fit none no_value k h = (no_datum, refl, refl)
    all_data_fit none (value_and v vs) k h = absurd h
    all_data_fit (more t ts) no_value k h = absurd h
    all_data_fit (more t ts) (value_and v vs) k h =
        let a = fits_data t v (first_kind t ts k) h.0 in
        let b = all_data_fit ts vs (rest_kind t ts k) h.1 in
        (datum_and a.0 b.0, ap (λ z. and_then z (λ d. and_then (datums_of vs) (λ ds. Val (datum_and d ds)))) a.1 ∙ ap (λ z. and_then z (λ ds. Val (datum_and a.0 ds))) b.1, ap (λ z. value_and z vs) a.2 ∙ ap (λ z. value_and (as_value a.0) z) b.2)

    fields_data_fit : (ls : List ℕ) (ts : Tys) (fs : FlatFields) → 1 ≤ least K ts → Fields_fit N T M budget total ls ts tops fs → (l : ℕ) → In l ls → Found l fs
    fields_data_fit [] none fs k h l i = absurd i
    fields_data_fit [] (more t ts) fs k h l i = absurd h
    fields_data_fit (x ∷ ls) none fs k h l i = absurd h
    fields_data_fit (x ∷ ls) (more t ts) fs k h l (inl e) = (h.0.0, h.0.1, h.0.2 ∙ sym e, h.0.3, fits_data t h.0.1 (first_kind t ts k) h.0.4)
    fields_data_fit (x ∷ ls) (more t ts) fs k h l (inr i) = fields_data_fit ls ts fs (rest_kind t ts k) h.1 l i
