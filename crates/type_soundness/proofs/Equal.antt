-- Values of one type without functions and arrays are compared part by part.
use Rattle.std.proofs.Common.{◌≡◌, ◌≢◌, Bool, cond, ℕ, ◌≤◌, refl, sym, ap, ◌∙◌, subst, arith, List, [], ◌∷◌, Some, None, min}
use Rattle.std.specs.Str.{bytes_eq}
use mathlib.Core.Logic.{inl, inr}
use Rattle.fut_scalar.specs.declared.operator.BinOp.TheVariants as op
use Rattle.fut_scalar.specs.declared.scalar.Scalar.{Scalar}
use Rattle.fut_scalar.specs.declared.scalar.Scalar.TheVariants as scalar
use Rattle.fut_scalar.specs.declared.scalar.ScalarType.{ScalarType}
use Rattle.fut_scalar.specs.declared.scalar.ScalarType.TheVariants as types
use Rattle.fut_ast.specs.Sorts.{Text}
use Rattle.fut_arithmetic.specs.Operations.{result_of}
use Rattle.fut_types.specs.declared.Kind.TheVariants as kind
use Rattle.fut_types.specs.declared.Head.{Head}
use Rattle.fut_types.specs.declared.Head.TheVariants as head
use Rattle.fut_types.specs.Types.{Ty, Var, Made, Tys, none, more, Kinds, rank, least, cap, HasKind}
use Rattle.fut_types.proofs.TyLaws.{rank_made, least_more}
use Rattle.fut_typing.specs.Names.{Names, AreNames}
use Rattle.fut_typing.proofs.Members.{In, in_list}
use Rattle.fut_meaning.specs.Found.{Told}
use Rattle.fut_meaning.specs.Outcomes.{Out, Wrong, and_then}
use Rattle.fut_meaning.specs.Values.{Array_value, Scalar_value, Tuple_value, Record_value, Closure, Primitive_value, no_value, value_and, no_field, field_and, field}
use Rattle.fut_meaning.specs.Operators.{by_kind, binary_result}
use Rattle.fut_meaning.specs.Operations.{truth_result, equal_scalars, both_hold, equal, all_equal, fields_equal}
use Rattle.fut_meaning.specs.Accessors.{or_wrong}
use Rattle.fut_meaning.specs.Claims.{HasOut}
use Rattle.fut_meaning.specs.Flats.{FlatValue, FlatTops, FlatMode}
use Rattle.fut_meaning.proofs.Safe.{Any_truth}
use Rattle.type_soundness.specs.Fits.{FlatValues, FlatFields, Is_scalar, On_scalar, Is_key, In_order, Fits, All_fit, Fields_fit}
use Rattle.type_soundness.proofs.Binding.{has_then}
use Rattle.type_soundness.proofs.Scalars.{same_type, below_kind}
use Rattle.type_soundness.proofs.Ordering.{no_key, Same_keys, one_order, eq_here, eq_other}

both_true : (o p : Out Bool) → HasOut Any_truth o → HasOut Any_truth p → HasOut Any_truth (both_hold o p)
both_true o p h k = has_then Any_truth Any_truth o _ h (λ a u. has_then Any_truth Any_truth p _ k (λ b w. tt))

-- two scalars of one type
scalars_equal : (s : ScalarType) (c d : Scalar) → Is_scalar s c → Is_scalar s d → HasOut Any_truth (equal_scalars c d)
unfolding binary_result result_of
scalars_equal (types.Int i) (scalar.Int t m) (scalar.Int u n) h k =
    subst (λ x. HasOut Any_truth (equal_scalars (scalar.Int x m) (scalar.Int u n))) (sym h) (subst (λ x. HasOut Any_truth (equal_scalars (scalar.Int i m) (scalar.Int x n))) (sym k)
    (subst (λ b. HasOut Any_truth (and_then (or_wrong (cond b (Some (by_kind (result_of op.Eq (scalar.Int i m) (scalar.Int i n)))) None)) truth_result)) (sym (same_type i)) tt))
scalars_equal (types.Int i) (scalar.Int t m) (scalar.Bool b) h k = absurd k
scalars_equal (types.Int i) (scalar.Bool b) d h k = absurd h
scalars_equal types.Bool (scalar.Bool a) (scalar.Bool b) h k = tt
scalars_equal types.Bool (scalar.Bool a) (scalar.Int u n) h k = absurd k
scalars_equal types.Bool (scalar.Int t m) d h k = absurd h

-- fields under the same names
records_equal : (fs gs : FlatFields) → Same_keys fs gs → In_order fs → In_order gs
    → ((s : Text) → Is_key s fs → (v w : FlatValue) → field s fs ≡ Some v → field s gs ≡ Some w → HasOut Any_truth (equal v w)) → HasOut Any_truth (fields_equal fs gs)
unfolding fields_equal
records_equal no_field no_field e h k each = tt
records_equal no_field (field_and g w gs) e h k each = absurd e
records_equal (field_and f v fs) no_field e h k each = absurd e
records_equal (field_and f v fs) (field_and g w gs) e h k each =
    subst (λ b. HasOut Any_truth (cond b (both_hold (equal v w) (fields_equal fs gs)) Wrong)) (sym (ap (bytes_eq f) (sym e.0) ∙ eq_here f))
    (both_true (equal v w) (fields_equal fs gs)
    (each f (inl refl) v w (ap (λ b. cond b (Some v) (field f fs)) (eq_here f)) (ap (λ b. cond b (Some w) (field f gs)) (ap (λ x. bytes_eq x f) (sym e.0) ∙ eq_here f)))
    (records_equal fs gs e.1 h.1 k.1 (λ s i x y p q.
    let ne : f ≢ s = λ same. no_key f fs h.0 (subst (λ z. Is_key z fs) (sym same) i) in
    each s (inr i) x y (ap (λ b. cond b (Some v) (field s fs)) (eq_other f s ne) ∙ p) (ap (λ b. cond b (Some w) (field s gs)) (ap (λ z. bytes_eq z s) (sym e.0) ∙ eq_other f s ne) ∙ q))))

module _ (N : Names) (are : AreNames N) (T : Told) (M : FlatMode) (budget : ℕ) (total : Bool) (tops : FlatTops) (K : Kinds) where
  parts_kind : (h : Head) (ts : Tys) → HasKind K kind.Equal (Made h ts) → 2 ≤ least K ts
  parts_kind h ts p = let e : rank K (Made h ts) ≡ min (cap h) (least K ts) = rank_made K h ts in let q : 2 ≤ rank K (Made h ts) = p in omega (arith, e, q)

  first_kind : (t : Ty) (ts : Tys) → 2 ≤ least K (more t ts) → HasKind K kind.Equal t
  first_kind t ts p = let e : least K (more t ts) ≡ min (rank K t) (least K ts) = least_more K t ts in omega (arith, e, p)

  rest_kind : (t : Ty) (ts : Tys) → 2 ≤ least K (more t ts) → 2 ≤ least K ts
  rest_kind t ts p = let e : least K (more t ts) ≡ min (rank K t) (least K ts) = least_more K t ts in omega (arith, e, p)

  on_scalars : (s : ScalarType) (v w : FlatValue) → On_scalar (Is_scalar s) v → On_scalar (Is_scalar s) w → HasOut Any_truth (equal v w)
  unfolding equal
  on_scalars s (Scalar_value c) (Scalar_value d) h k = scalars_equal s c d h k
  on_scalars s (Scalar_value c) (Tuple_value vs) h k = absurd k
  on_scalars s (Scalar_value c) (Record_value fs) h k = absurd k
  on_scalars s (Scalar_value c) (Closure ps e lo env) h k = absurd k
  on_scalars s (Scalar_value c) (Primitive_value p at vs) h k = absurd k
  on_scalars s (Scalar_value c) (Array_value row ds) h k = absurd k
  on_scalars s (Tuple_value vs) w h k = absurd h
  on_scalars s (Record_value fs) w h k = absurd h
  on_scalars s (Closure ps e lo env) w h k = absurd h
  on_scalars s (Primitive_value p at vs) w h k = absurd h
  on_scalars s (Array_value row ds) w h k = absurd h

  -- the values of one field in two records
  abbrev Pair : ℕ → FlatFields → FlatFields → Type 0
  Pair l fs gs = (s : Text) × (v : FlatValue) × (w : FlatValue) × (N.label s ≡ l) × (field s fs ≡ Some v) × (field s gs ≡ Some w) × HasOut Any_truth (equal v w)

  some_is : {A : Type 0} {x y : A} → Some x ≡ Some y → x ≡ y
  some_is e = cc

  record_pairs : (ls : List ℕ) (fs gs : FlatFields) → ((s : Text) → Is_key s fs → In (N.label s) ls) → Same_keys fs gs → In_order fs → In_order gs → ((l : ℕ) → In l ls → Pair l fs gs) → HasOut Any_truth (fields_equal fs gs)
  record_pairs ls fs gs inside e h k pairs = records_equal fs gs e h k (λ s i v w p q.
      let r = pairs (N.label s) (inside s i) in
      let same : r.0 ≡ s = are.one_label r.0 s r.3 in
      let ve : r.1 ≡ v = some_is (sym r.4 ∙ ap (λ x. field x fs) same ∙ p) in
      let we : r.2 ≡ w = some_is (sym r.5 ∙ ap (λ x. field x gs) same ∙ q) in
      subst (λ x. HasOut Any_truth (equal x w)) ve (subst (λ x. HasOut Any_truth (equal r.1 x)) we r.6))

  mutual
    unfolding Fits All_fit Fields_fit equal all_equal

    pub equal_fits : (t : Ty) (v w : FlatValue) → HasKind K kind.Equal t → Fits N T M budget total t tops v → Fits N T M budget total t tops w → HasOut Any_truth (equal v w)
    equal_fits (Var n) v w k h g = absurd h
    equal_fits (Made (head.Scalar s) ts) v w k h g = on_scalars s v w h g
    equal_fits (Made head.Array ts) v w k h g = absurd (let p : 2 ≤ 1 = below_kind K kind.Equal head.Array ts k in omega arith)
    equal_fits (Made head.Tuple ts) (Tuple_value vs) (Tuple_value ws) k h g = all_equal_fits ts vs ws (parts_kind head.Tuple ts k) h.1 g.1
    equal_fits (Made head.Tuple ts) (Tuple_value vs) (Scalar_value s) k h g = absurd g.1
    equal_fits (Made head.Tuple ts) (Tuple_value vs) (Record_value fs) k h g = absurd g.1
    equal_fits (Made head.Tuple ts) (Tuple_value vs) (Closure ps e lo env) k h g = absurd g.1
    equal_fits (Made head.Tuple ts) (Tuple_value vs) (Primitive_value p at ws) k h g = absurd g.1
    equal_fits (Made head.Tuple ts) (Tuple_value vs) (Array_value row ds) k h g = absurd g.1
    equal_fits (Made head.Tuple ts) (Scalar_value s) w k h g = absurd h.1
    equal_fits (Made head.Tuple ts) (Record_value fs) w k h g = absurd h.1
    equal_fits (Made head.Tuple ts) (Closure ps e lo env) w k h g = absurd h.1
    equal_fits (Made head.Tuple ts) (Primitive_value p at vs) w k h g = absurd h.1
    equal_fits (Made head.Tuple ts) (Array_value row ds) w k h g = absurd h.1
    equal_fits (Made (head.Record n) ts) (Record_value fs) (Record_value gs) k h g =
        record_pairs (N.shapes.fields n) fs gs (λ s i. in_list (N.shapes.fields n) (N.label s) ((h.0.same s).0 i)) (one_order fs gs h.0.ordered g.0.ordered (λ s i. (g.0.same s).1 ((h.0.same s).0 i)) (λ s i. (h.0.same s).1 ((g.0.same s).0 i)))
        h.0.ordered g.0.ordered (fields_equal_fits (N.shapes.fields n) ts fs gs (parts_kind (head.Record n) ts k) h.1 g.1)
    equal_fits (Made (head.Record n) ts) (Record_value fs) (Scalar_value s) k h g = absurd g
    equal_fits (Made (head.Record n) ts) (Record_value fs) (Tuple_value ws) k h g = absurd g
    equal_fits (Made (head.Record n) ts) (Record_value fs) (Closure ps e lo env) k h g = absurd g
    equal_fits (Made (head.Record n) ts) (Record_value fs) (Primitive_value p at ws) k h g = absurd g
    equal_fits (Made (head.Record n) ts) (Record_value fs) (Array_value row ds) k h g = absurd g
    equal_fits (Made (head.Record n) ts) (Scalar_value s) w k h g = absurd h
    equal_fits (Made (head.Record n) ts) (Tuple_value vs) w k h g = absurd h
    equal_fits (Made (head.Record n) ts) (Closure ps e lo env) w k h g = absurd h
    equal_fits (Made (head.Record n) ts) (Primitive_value p at vs) w k h g = absurd h
    equal_fits (Made (head.Record n) ts) (Array_value row ds) w k h g = absurd h
    equal_fits (Made head.Fun ts) v w k h g = absurd (let p : 2 ≤ 0 = below_kind K kind.Equal head.Fun ts k in omega arith)
    equal_fits (Made (head.Rigid n d) ts) v w k h g = absurd h
    equal_fits (Made (head.Abstract n d) ts) v w k h g = absurd h

    all_equal_fits : (ts : Tys) (vs ws : FlatValues) → 2 ≤ least K ts → All_fit N T M budget total ts tops vs → All_fit N T M budget total ts tops ws → HasOut Any_truth (all_equal vs ws)
    all_equal_fits none no_value no_value k h g = tt
    all_equal_fits none no_value (value_and w ws) k h g = absurd g
    all_equal_fits none (value_and v vs) ws k h g = absurd h
    all_equal_fits (more t ts) no_value ws k h g = absurd h
    all_equal_fits (more t ts) (value_and v vs) no_value k h g = absurd g
    all_equal_fits (more t ts) (value_and v vs) (value_and w ws) k h g = both_true (equal v w) (all_equal vs ws) (equal_fits t v w (first_kind t ts k) h.0 g.0) (all_equal_fits ts vs ws (rest_kind t ts k) h.1 g.1)

    fields_equal_fits : (ls : List ℕ) (ts : Tys) (fs gs : FlatFields) → 2 ≤ least K ts → Fields_fit N T M budget total ls ts tops fs → Fields_fit N T M budget total ls ts tops gs → (l : ℕ) → In l ls → Pair l fs gs
    fields_equal_fits [] none fs gs k h g l i = absurd i
    fields_equal_fits [] (more t ts) fs gs k h g l i = absurd h
    fields_equal_fits (x ∷ ls) none fs gs k h g l i = absurd h
    fields_equal_fits (x ∷ ls) (more t ts) fs gs k h g l (inl e) =
        (h.0.0, h.0.1, g.0.1, h.0.2 ∙ sym e, h.0.3, ap (λ s. field s gs) (are.one_label h.0.0 g.0.0 (h.0.2 ∙ sym g.0.2)) ∙ g.0.3, equal_fits t h.0.1 g.0.1 (first_kind t ts k) h.0.4 g.0.4)
    fields_equal_fits (x ∷ ls) (more t ts) fs gs k h g l (inr i) = fields_equal_fits ls ts fs gs (rest_kind t ts k) h.1 g.1 l i
