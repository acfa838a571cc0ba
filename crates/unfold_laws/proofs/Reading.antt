-- What is made of records and tuples, or read from them, is of the types that typing gives.
use Rattle.std.proofs.Common.{◌≡◌, Bool, true, false, cond, ℕ, refl, sym, ap, ◌∙◌, subst, List, [], ◌∷◌, Some}
use Rattle.std.specs.List.{AllByRecursion}
use Rattle.fut_ast.specs.Sorts.{Text}
use Rattle.fut_types.specs.Types.{Ty, Var, Tys, none, more, Kinds}
use Rattle.fut_typing.specs.Names.{Names, AreNames, IsRecord, Parts_named}
use Rattle.fut_value.specs.Data.{Datum, Scalar_datum, Tuple_datum, Record_datum, Array_datum}
use Rattle.fut_meaning.specs.Found.{Told}
use Rattle.fut_meaning.specs.Accessors as accessors
use Rattle.fut_meaning.specs.Accessors.{or_wrong}
use Rattle.fut_meaning.specs.Claims.{HasOut}
use Rattle.fut_meaning.specs.Datums.{as_fields, all_values}
use Rattle.fut_meaning.specs.Flats.{FlatValue}
use Rattle.fut_meaning.specs.Meaning.{plain}
use Rattle.fut_meaning.specs.Operations.{with_name, named_values}
use Rattle.fut_meaning.specs.Outcomes.{Out, Val, Fail, Wrong, and_then}
use Rattle.fut_meaning.specs.Sames.{Same_out, same_value, same_report, same_wrong}
use Rattle.fut_meaning.specs.Values.{Record_value, is_before, field_and, with_field, fields}
use Rattle.fut_blocks.specs.Meaning.{Component, as_flat}
use Rattle.fut_blocks.specs.Plain.{Reading, Record_with, Part_at, Replace_at, Fields_at}
use Rattle.fut_blocks.specs.Records.{datum_parts, named_data, reads}
use Rattle.type_soundness.specs.Fits.{Fits, FlatFields}
use Rattle.type_soundness.proofs.Binding.{Each_fits, record_fits}
use Rattle.type_soundness.proofs.Records.{record_made}
use Rattle.type_soundness.proofs.Replacing.{project_fits, replace_fits}
use Rattle.unfold.specs.Shapes.{Scalar_shape, split_scalar, Is_value}
use Rattle.unfold.proofs.Records.{record_parts_as, part_read, replace_read}
use Rattle.unfold_laws.specs.Safety.{Is_of, Are_of}
use Rattle.unfold_laws.specs.Typed.{In_name_order, Reads}

-- data under its names, as values
abbrev pairs : List Text → List Datum → List (Text × FlatValue)
pairs [] ds = []
pairs (f ∷ fs) [] = []
pairs (f ∷ fs) (d ∷ ds) = (f, as_flat d) ∷ pairs fs ds

-- a first field stays the first
put_first : (f : Text) (v : FlatValue) (fs : List Text) (ds : List Datum) → AllByRecursion (λ g. is_before f g ≡ true) fs → with_field f v (as_fields (named_data fs ds)) ≡ field_and f v (as_fields (named_data fs ds))
put_first f v [] ds h = refl
put_first f v (g ∷ fs) [] h = refl
put_first f v (g ∷ fs) (d ∷ ds) h = ap (λ b. cond b (field_and f v (field_and g (as_flat d) (as_fields (named_data fs ds)))) (field_and g (as_flat d) (with_field f v (as_fields (named_data fs ds))))) h.0

in_order : (fs : List Text) (ds : List Datum) → In_name_order fs → fields (pairs fs ds) ≡ as_fields (named_data fs ds)
in_order [] ds h = refl
in_order (f ∷ fs) [] h = refl
in_order (f ∷ fs) (d ∷ ds) h = ap (λ z. with_field f (as_flat d) z) (in_order fs ds h.1) ∙ put_first f (as_flat d) fs ds h.0

module _ (N : Names) (are : AreNames N) (T : Told) (K : Kinds) (tight : Bool) (budget : ℕ) where
  abbrev Of : Ty → Component → Type 0
  Of t d = Is_of N T tight budget t d

  abbrev All_of : Tys → List Component → Type 0
  All_of ts ds = Are_of N T tight budget ts ds

  abbrev Value_of : Ty → FlatValue → Type 0
  Value_of t v = Fits N T (plain tight) budget false t [] v

  abbrev Values_of : Tys → List FlatValue → Type 0
  Values_of ts vs = Each_fits N T (plain tight) budget false ts [] vs

  component_out : (t : Ty) {o : Out (List Component)} {o' : Out FlatValue} → Same_out (Is_value Scalar_shape) o o' → HasOut (Value_of t) o' → HasOut (All_of (more t none)) o
  component_out t (same_value (split_scalar e)) h = (subst (Value_of t) e h, tt)
  component_out t same_report h = tt
  component_out t same_wrong h = h

  values_from : (ts : Tys) (ds : List Component) → Values_of ts (all_values ds) → All_of ts ds
  values_from none [] h = tt
  values_from none (d ∷ ds) h = absurd h
  values_from (more t ts) [] h = absurd h
  values_from (more t ts) (d ∷ ds) h = (h.0, values_from ts ds h.1)

  values_to : (ts : Tys) (ds : List Component) → All_of ts ds → Values_of ts (all_values ds)
  values_to none [] h = tt
  values_to none (d ∷ ds) h = absurd h
  values_to (more t ts) [] h = absurd h
  values_to (more t ts) (d ∷ ds) h = (h.0, values_to ts ds h.1)

  parts_from : (ts : Tys) (o : Out (List Datum)) → HasOut (Values_of ts) (and_then o (λ ds. Val (all_values ds))) → HasOut (All_of ts) o
  parts_from ts (Val ds) h = values_from ts ds h
  parts_from ts (Fail r) h = tt
  parts_from ts Wrong h = h

  fields_out : (fs : List Text) (u : Ty) (ts : Tys) (d : Component) → IsRecord N fs u ts → Of u d → HasOut (All_of ts) (reads (Fields_at fs) (d ∷ []))
  unfolding reads
  fields_out fs u ts d r h = by d (record_fits N T (plain tight) budget false [] (λ k. Unit {0}) K (λ n. Var n) are fs u ts (as_flat d) r h)
    where
      by : (d : Component) → (ws : FlatFields) × (as_flat d ≡ Record_value ws) × HasOut (Values_of ts) (accessors.record_parts fs ws) → HasOut (All_of ts) (reads (Fields_at fs) (d ∷ []))
      by (Record_datum ds) (ws, e, k) =
          let same : as_fields ds ≡ ws = cc in
          parts_from ts (datum_parts fs ds) (subst (HasOut (Values_of ts)) (record_parts_as fs ds) (subst (λ z. HasOut (Values_of ts) (accessors.record_parts fs z)) (sym same) k))
      by (Scalar_datum s) (ws, e, k) = absurd (cc)
      by (Tuple_datum ds) (ws, e, k) = absurd (cc)
      by (Array_datum row ds) (ws, e, k) = absurd (cc)

  all_named : (fs : List Text) (t : Ty) (us : Tys) (ds : List Component) → Parts_named N fs t us → All_of us ds → named_values fs (all_values ds) ≡ Some (pairs fs ds)
  all_named [] t none [] n h = refl
  all_named [] t none (d ∷ ds) n h = absurd h
  all_named [] t (more u us) ds n h = absurd n
  all_named (f ∷ fs) t none ds n h = absurd n
  all_named (f ∷ fs) t (more u us) [] n h = absurd h
  all_named (f ∷ fs) t (more u us) (d ∷ ds) n h = ap (with_name f (as_flat d)) (all_named fs t us ds n.1 h.1)

  record_out : (fs : List Text) (t : Ty) (us : Tys) (ds : List Component) → IsRecord N fs t us → In_name_order fs → All_of us ds → Of t (Record_datum (named_data fs ds))
  record_out fs t us ds r o h =
      let fit : HasOut (Value_of t) (and_then (or_wrong (named_values fs (all_values ds))) (λ l. Val (Record_value (fields l)))) = record_made N T (plain tight) budget false [] are fs t us (all_values ds) r (values_to us ds h) in
      let made : Value_of t (Record_value (fields (pairs fs ds))) = subst (λ z. HasOut (Value_of t) (and_then (or_wrong z) (λ l. Val (Record_value (fields l))))) (all_named fs t us ds r.named h) fit in
      subst (λ z. Value_of t (Record_value z)) (in_order fs ds o) made

  pub reads_are : (k : Reading) (us ts : Tys) (ds : List Component) → Reads N k us ts → All_of us ds → HasOut (All_of ts) (reads k ds)
  unfolding reads
  reads_are (Record_with fs) us ts ds (t, r, o, e) h = subst (λ y. HasOut (All_of y) (reads (Record_with fs) ds)) (sym e) (record_out fs t us ds r o h, tt)
  reads_are (Part_at f) none ts ds r h = absurd r
  reads_are (Part_at f) (more u (more v us)) ts ds r h = absurd r
  reads_are (Part_at f) (more u none) ts [] r h = absurd h
  reads_are (Part_at f) (more u none) ts (d ∷ e ∷ ds) r h = absurd h.1
  reads_are (Part_at f) (more u none) ts (d ∷ []) (t, has, e) h =
      subst (λ y. HasOut (All_of y) (reads (Part_at f) (d ∷ []))) (sym e) (component_out t (part_read f d) (project_fits N are T (plain tight) budget false [] f t u (as_flat d) has h.0))
  reads_are (Replace_at f) none ts ds r h = absurd r
  reads_are (Replace_at f) (more u none) ts ds r h = absurd r
  reads_are (Replace_at f) (more u (more v (more w us))) ts ds r h = absurd r
  reads_are (Replace_at f) (more u (more v none)) ts [] r h = absurd h
  reads_are (Replace_at f) (more u (more v none)) ts (d ∷ []) r h = absurd h.1
  reads_are (Replace_at f) (more u (more v none)) ts (d ∷ e ∷ x ∷ ds) r h = absurd h.1.1
  reads_are (Replace_at f) (more u (more v none)) ts (d ∷ e ∷ []) (lacks, has, q) h =
      subst (λ y. HasOut (All_of y) (reads (Replace_at f) (d ∷ e ∷ []))) (sym q) (component_out u (replace_read f d e) (replace_fits N are T (plain tight) budget false [] f u v (as_flat d) (as_flat e) lacks has h.0 h.1.0))
  reads_are (Fields_at fs) none ts ds r h = absurd r
  reads_are (Fields_at fs) (more u (more v us)) ts ds r h = absurd r
  reads_are (Fields_at fs) (more u none) ts [] r h = absurd h
  reads_are (Fields_at fs) (more u none) ts (d ∷ e ∷ ds) r h = absurd h.1
  reads_are (Fields_at fs) (more u none) ts (d ∷ []) r h = fields_out fs u ts d r h.0
