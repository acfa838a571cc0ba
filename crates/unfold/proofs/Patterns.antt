-- Parts, fields and patterns of what stands for values.
use Rattle.std.proofs.Common.{◌≡◌, ℕ, suc, List, [], ◌∷◌, Bool, true, false, cond, Option, Some, None, refl, ap, ◌∙◌, subst}
use Rattle.std.specs.Prelude.{decimal}
use Rattle.std.specs.Str.{bytes_eq}
use Rattle.fut_ast.specs.Sorts.{Text}
use Rattle.fut_meaning.specs.Found.{Sizing}
use Rattle.fut_meaning.specs.Outcomes.{Out, Val, and_then}
use Rattle.fut_meaning.specs.Values as values
use Rattle.fut_meaning.specs.Accessors as accessors
use Rattle.fut_meaning.specs.Accessors.{or_wrong}
use Rattle.fut_meaning.specs.Flats.{FlatValue, FlatEnv}
use Rattle.fut_meaning.specs.Knowns.{with_some}
use Rattle.fut_meaning.specs.Operations.{with_name, named_values}
use Rattle.fut_meaning.specs.Sames.{All_same, all_none, all_more}
use Rattle.fut_blocks.specs.Meaning.{Component, Names}
use Rattle.unfold.specs.Knowns.{Known, Knowns, Known_fields, Scope, listed, knowns, with_field, fields, field, replaced, part_from, part, record_parts}
use Rattle.unfold.proofs.Stands.{FlatValues, FlatFields, Stands, s_scalar, s_tuple, s_record, s_function, s_primitive, All_stand, s_none, s_more, Fields_stand, s_no_field, s_field, Holds, some_inj}

-- a part is found where what stands for it is known
pub record Some_stands (sizes : Option Sizing) (d : Names Component) (n : ℕ) (s : Known) (o : Option FlatValue) : Type 0 where
  pub value : FlatValue
  pub is : o ≡ Some value
  pub stands : Stands sizes d n s value

pub record Out_stands (sizes : Option Sizing) (d : Names Component) (n : ℕ) (s : Known) (o : Out FlatValue) : Type 0 where
  pub value : FlatValue
  pub is : o ≡ Val value
  pub stands : Stands sizes d n s value

-- a name with what stands for its value
pub record Field_stands (sizes : Option Sizing) (d : Names Component) (n : ℕ) (p : Text × Known) (q : Text × FlatValue) : Type 0 where
  pub name : p.0 ≡ q.0
  pub stands : Stands sizes d n p.1 q.1

pub record Named_stand (sizes : Option Sizing) (d : Names Component) (n : ℕ) (fs : List (Text × Known)) (o : Option (List (Text × FlatValue))) : Type 0 where
  pub values : List (Text × FlatValue)
  pub is : o ≡ Some values
  pub stand : All_same (Field_stands sizes d n) fs values

pub record List_stands (sizes : Option Sizing) (d : Names Component) (n : ℕ) (ss : List Known) (o : Out (List FlatValue)) : Type 0 where
  pub values : List FlatValue
  pub is : o ≡ Val values
  pub stand : All_same (Stands sizes d n) ss values

pub record Bound_holds (sizes : Option Sizing) (d : Names Component) (n : ℕ) (sc : Scope) (o : Out FlatEnv) : Type 0 where
  pub env : FlatEnv
  pub is : o ≡ Val env
  pub holds : Holds sizes d n sc env

module _ {d : Names Component} {n : ℕ} where
  pub listed_stand : {sizes : Option Sizing} {ss : Knowns} {vs : FlatValues} → All_stand sizes d n ss vs → All_same (Stands sizes d n) (listed ss) (values.listed vs)
  listed_stand s_none = all_none
  listed_stand (s_more h k) = all_more h (listed_stand k)

  pub knowns_stand : {sizes : Option Sizing} {ss : List Known} {vs : List FlatValue} → All_same (Stands sizes d n) ss vs → All_stand sizes d n (knowns ss) (values.values vs)
  knowns_stand all_none = s_none
  knowns_stand (all_more h k) = s_more h (knowns_stand k)

  found_by : {sizes : Option Sizing} (b : Bool) (s t : Known) (v : FlatValue) (k : Option Known) (o : Option FlatValue) → Stands sizes d n t v → cond b (Some t) k ≡ Some s → (k ≡ Some s → Some_stands sizes d n s o) → Some_stands sizes d n s (cond b (Some v) o)
  found_by {sizes = sizes} true s t v k o h q l = record { value = v; is = refl; stands = subst (λ z. Stands sizes d n z v) (some_inj q) h }
  found_by false s t v k o h q l = l q

  part_from_stands : {sizes : Option Sizing} (k : ℕ) (f : Text) (s : Known) {ss : Knowns} {vs : FlatValues} → All_stand sizes d n ss vs → part_from k f ss ≡ Some s → Some_stands sizes d n s (accessors.part_from k f vs)
  part_from_stands k f s s_none q = absurd (let z : None ≡ Some s = q in cc)
  part_from_stands k f s (s_more {s = t} {v = v} h hs) q = found_by (bytes_eq (decimal k) f) s t v _ _ h q (λ e. part_from_stands (suc k) f s hs e)

  pub field_stands : {sizes : Option Sizing} (f : Text) (s : Known) {fs : Known_fields} {gs : FlatFields} → Fields_stand sizes d n fs gs → field f fs ≡ Some s → Some_stands sizes d n s (values.field f gs)
  field_stands f s s_no_field q = absurd (let z : None ≡ Some s = q in cc)
  field_stands f s (s_field {f = g} {s = t} {v = v} h hs) q = found_by (bytes_eq g f) s t v _ _ h q (λ e. field_stands f s hs e)

  some_out : {sizes : Option Sizing} (s : Known) (o : Option FlatValue) → Some_stands sizes d n s o → Out_stands sizes d n s (or_wrong o)
  some_out s o h = record { value = h.value; is = ap or_wrong h.is; stands = h.stands }

  pub part_stands : {sizes : Option Sizing} (f : Text) (s : Known) {u : Known} {v : FlatValue} → Stands sizes d n u v → part f u ≡ Some s → Out_stands sizes d n s (accessors.part f v)
  part_stands f s (s_scalar e h) q = absurd (let z : None ≡ Some s = q in cc)
  part_stands f s (s_tuple h) q = some_out s _ (part_from_stands 0 f s h q)
  part_stands f s (s_record h) q = some_out s _ (field_stands f s h q)
  part_stands f s (s_function h) q = absurd (let z : None ≡ Some s = q in cc)
  part_stands f s (s_primitive h) q = absurd (let z : None ≡ Some s = q in cc)

  cond_fields : {sizes : Option Sizing} (b : Bool) {fs gs : Known_fields} {fs' gs' : FlatFields} → Fields_stand sizes d n fs fs' → Fields_stand sizes d n gs gs' → Fields_stand sizes d n (cond b fs gs) (cond b fs' gs')
  cond_fields true h k = h
  cond_fields false h k = k

  with_field_stands : {sizes : Option Sizing} (f : Text) {s : Known} {v : FlatValue} {fs : Known_fields} {gs : FlatFields} → Stands sizes d n s v → Fields_stand sizes d n fs gs → Fields_stand sizes d n (with_field f s fs) (values.with_field f v gs)
  with_field_stands f h s_no_field = s_field h s_no_field
  with_field_stands f h (s_field {f = g} k ks) = cond_fields (values.is_before f g) (s_field h (s_field k ks)) (s_field k (with_field_stands f h ks))

  pub replaced_stands : {sizes : Option Sizing} (f : Text) {s : Known} {v : FlatValue} {fs : Known_fields} {gs : FlatFields} → Stands sizes d n s v → Fields_stand sizes d n fs gs → Fields_stand sizes d n (replaced f s fs) (values.replaced f v gs)
  replaced_stands f h s_no_field = s_no_field
  replaced_stands f h (s_field {f = g} k ks) = cond_fields (bytes_eq g f) (s_field h ks) (s_field k (replaced_stands f h ks))

  field_with : {sizes : Option Sizing} (p : Text × Known) (q : Text × FlatValue) {fs : Known_fields} {gs : FlatFields} → Field_stands sizes d n p q → Fields_stand sizes d n fs gs → Fields_stand sizes d n (with_field p.0 p.1 fs) (values.with_field q.0 q.1 gs)
  field_with {sizes = sizes} p q {fs} {gs} h k = subst (λ f. Fields_stand sizes d n (with_field p.0 p.1 fs) (values.with_field f q.1 gs)) h.name (with_field_stands p.0 h.stands k)

  pub fields_stand : {sizes : Option Sizing} {fs : List (Text × Known)} {gs : List (Text × FlatValue)} → All_same (Field_stands sizes d n) fs gs → Fields_stand sizes d n (fields fs) (values.fields gs)
  fields_stand all_none = s_no_field
  fields_stand (all_more {x = p} {x' = q} h k) = field_with p q h (fields_stand k)

  with_name_stands : {sizes : Option Sizing} (f : Text) (s : Known) (v : FlatValue) (fs : List (Text × Known)) (k : Option (List (Text × Known))) (o : Option (List (Text × FlatValue))) → Stands sizes d n s v → with_name f s k ≡ Some fs → ((gs : List (Text × Known)) → k ≡ Some gs → Named_stand sizes d n gs o) → Named_stand sizes d n fs (with_name f v o)
  with_name_stands f s v fs None o h q l = absurd (let z : None ≡ Some fs = q in cc)
  with_name_stands {sizes = sizes} f s v fs (Some gs) o h q l =
      let r = l gs refl in
      record { values = (f, v) ∷ r.values; is = ap (with_name f v) r.is; stand = subst (λ z. All_same (Field_stands sizes d n) z ((f, v) ∷ r.values)) (some_inj q) (all_more (record { name = refl; stands = h }) r.stand) }

  pub named_stand : {sizes : Option Sizing} (names : List Text) (fs : List (Text × Known)) {ss : List Known} {vs : List FlatValue} → All_same (Stands sizes d n) ss vs → named_values names ss ≡ Some fs → Named_stand sizes d n fs (named_values names vs)
  named_stand {sizes = sizes} [] fs all_none q = record { values = []; is = refl; stand = subst (λ z. All_same (Field_stands sizes d n) z []) (some_inj q) all_none }
  named_stand [] fs (all_more h k) q = absurd (let z : None ≡ Some fs = q in cc)
  named_stand (f ∷ names) fs all_none q = absurd (let z : None ≡ Some fs = q in cc)
  named_stand (f ∷ names) fs (all_more {x = s} {x' = v} h k) q = with_name_stands f s v fs _ _ h q (λ gs e. named_stand names gs k e)

  -- ---- patterns

  module _ {sizes : Option Sizing} (f : Text) (names : List Text) (ss : List Known) {fs : Known_fields} {gs : FlatFields} (h : Fields_stand sizes d n fs gs) (l : (ts : List Known) → record_parts names fs ≡ Some ts → List_stands sizes d n ts (accessors.record_parts names gs)) where
    rest_parts : (s : Known) (k : Option (List Known)) → record_parts names fs ≡ k → Some_stands sizes d n s (values.field f gs) → with_some k (λ ts. Some (s ∷ ts)) ≡ Some ss → List_stands sizes d n ss (accessors.record_parts (f ∷ names) gs)
    rest_parts s None e r q = absurd (let z : None ≡ Some ss = q in cc)
    rest_parts s (Some ts) e r q =
        let t = l ts e in
        record {
          values = r.value ∷ t.values;
          is = ap (λ z. and_then (or_wrong z) (λ v. and_then (accessors.record_parts names gs) (λ vs. Val (v ∷ vs)))) r.is ∙ ap (λ z. and_then z (λ vs. Val (r.value ∷ vs))) t.is;
          stand = subst (λ z. All_same (Stands sizes d n) z (r.value ∷ t.values)) (some_inj q) (all_more r.stands t.stand);
        }

    first_part : (k : Option Known) → field f fs ≡ k → with_some k (λ s. with_some (record_parts names fs) (λ ts. Some (s ∷ ts))) ≡ Some ss → List_stands sizes d n ss (accessors.record_parts (f ∷ names) gs)
    first_part None e q = absurd (let z : None ≡ Some ss = q in cc)
    first_part (Some s) e q = rest_parts s (record_parts names fs) refl (field_stands f s h e) q

  pub record_parts_stand : {sizes : Option Sizing} (names : List Text) (ss : List Known) {fs : Known_fields} {gs : FlatFields} → Fields_stand sizes d n fs gs → record_parts names fs ≡ Some ss → List_stands sizes d n ss (accessors.record_parts names gs)
  record_parts_stand {sizes = sizes} [] ss h q = record { values = []; is = refl; stand = subst (λ z. All_same (Stands sizes d n) z []) (some_inj q) all_none }
  record_parts_stand (f ∷ names) ss {fs} h q = first_part f names ss h (λ ts e. record_parts_stand names ts h e) (field f fs) refl q
