-- Components are put one behind the other.
use Rattle.std.proofs.Common.{◌≡◌, ℕ, ◌+◌, ◌<◌, ◌≤◌, ◌++◌, List, [], ◌∷◌, map, length, get_or, drop, Ok, Err, true, false, arith, sym, ap, ◌∙◌, subst, append_assoc, append-nil}
use Rattle.std.proofs.lemmas.List.{drop_all}
use Rattle.std.proofs.lemmas.Slice.Eq.{bytes_eq-Decides}
use Rattle.std.specs.Borrow.{Bor}
use Rattle.std.specs.Prelude.{Result}
use Rattle.std.specs.Str.{bytes_eq}
use Rattle.fut_ast.specs.Sorts.{Text}
use Rattle.fut_blocks.specs.declared.block.Atom.{Atom}
use Rattle.unfold.proofs.Mirror.{known_scalar, known_tuple, known_record, field_is}
use Rattle.unfold.specs.Held.{known_of, field_of, fields_known}
use Rattle.unfold.specs.Knowns.{Known, knowns}
use Rattle.unfold.specs.Shapes.{Shape, Scalar_shape, Tuple_shape, Record_shape, Laid, laid_scalar, laid_tuple, laid_record, All_laid, laid_none, laid_more, Fields_laid, laid_no_field, laid_field}
use Rattle.unfold.specs.Stuck.{No_scalar}
use Rattle.unfold.specs.declared.known.Field.{Field}
use Rattle.unfold.specs.declared.known.Known.{Known as Held_known}
use Rattle.unfold.specs.declared.known.KnownForm.TheVariants as form
use Rattle.unfold_parts.specs.Layouts.{shape_of, shapes_of, field_shapes_of, Laid_to, laid_to, not_laid, Put, put, not_put, Behind, behind, not_behind}
use Rattle.unfold_parts.specs.Refused.{lost, no_memory}
use Rattle.unfold_parts.specs.declared.refusal.Refusal.{Refusal}
use Rattle.unfold_parts.specs.declared.refusal.Refusal.TheVariants.{Lost}
use Rattle.unfold_parts.proofs.Lacking.{No_tuple, No_record, Not_laid_out, scalar_unlaid, tuple_unlaid, record_unlaid, parts_unlaid, fields_unlaid}
use Rattle.unfold_parts.proofs.Lists.{one_more}
use Rattle.unfold_parts.proofs.Refusing.{refused_as}
use Rattle.unfold_parts.proofs.Shapeless.{not_laid as not_laid_out, part_unlaid, field_unlaid, field_name_unlaid}

-- ---- single answers

same_text : (f g : Text) → bytes_eq f g ≡ true → f ≡ g
same_text f g h = (bytes_eq-Decides f g).0 h

-- all components
pub laid_ok : (h : Shape) (s : Known) (start items : List Atom) (us : Bor (List Atom)) (x : Unit {0}) → start ≡ [] → Behind (Laid h s) start items (Ok x) → us.now ≡ items → Laid_to h s (Ok us)
laid_ok h s start items us x e (behind ws q f) i = laid_to (subst (λ z. Laid h s z []) (sym (i ∙ q ∙ ap (λ z. z ++ ws) e ∙ sym (append-nil ws))) (f []))

pub laid_err : (h : Shape) (s : Known) (start items : List Atom) (r : Refusal) → Behind (Laid h s) start items (Err r) → Laid_to h s (Err r)
laid_err h s start items r (not_behind lacks) = not_laid (refused_as (not_laid_out h s) lacks)

-- ---- by form

module _ (like s : Held_known) (before after : List Atom) where
  pub laid_one : (w : Atom) (r : Result (Unit {0}) Refusal) → shape_of (known_of like) ≡ Scalar_shape → s.form ≡ form.Scalar w → Put w before after r → Behind (Laid (shape_of (known_of like)) (known_of s)) before after r
  laid_one w (Ok x) i j (put e) = behind (w ∷ []) e (λ rest. subst (λ z. Laid z (known_of s) (w ∷ rest) rest) (sym i) (subst (λ z. Laid Scalar_shape z (w ∷ rest) rest) (sym (known_scalar s w j)) laid_scalar))
  laid_one w _ i j not_put = not_behind no_memory

  pub laid_parts : (hs ss : Bor (List Held_known)) (r : Result (Unit {0}) Refusal) → like.form ≡ form.Tuple hs → s.form ≡ form.Tuple ss → Behind (All_laid (shapes_of (knowns (map known_of hs.now))) (knowns (map known_of ss.now))) before after r → Behind (Laid (shape_of (known_of like)) (known_of s)) before after r
  unfolding shape_of
  laid_parts hs ss (Ok x) i j (behind us e f) = behind us e (λ rest. subst (λ z. Laid (shape_of z) (known_of s) (us ++ rest) rest) (sym (known_tuple like hs i)) (subst (λ z. Laid (Tuple_shape (shapes_of (knowns (map known_of hs.now)))) z (us ++ rest) rest) (sym (known_tuple s ss j)) (laid_tuple (f rest))))
  laid_parts hs ss (Err x) i j (not_behind h) = not_behind (refused_as (λ lacks. subst (λ z. Not_laid_out (shape_of z) (known_of s)) (sym (known_tuple like hs i)) (subst (Not_laid_out (Tuple_shape (shapes_of (knowns (map known_of hs.now))))) (sym (known_tuple s ss j)) (parts_unlaid (shapes_of (knowns (map known_of hs.now))) (knowns (map known_of ss.now)) lacks))) h)

  pub laid_fields : (hs fs : Bor (List Field)) (r : Result (Unit {0}) Refusal) → like.form ≡ form.Record hs → s.form ≡ form.Record fs → Behind (Fields_laid (field_shapes_of (fields_known (map field_of hs.now))) (fields_known (map field_of fs.now))) before after r → Behind (Laid (shape_of (known_of like)) (known_of s)) before after r
  unfolding shape_of
  laid_fields hs fs (Ok x) i j (behind us e f) = behind us e (λ rest. subst (λ z. Laid (shape_of z) (known_of s) (us ++ rest) rest) (sym (known_record like hs i)) (subst (λ z. Laid (Record_shape (field_shapes_of (fields_known (map field_of hs.now)))) z (us ++ rest) rest) (sym (known_record s fs j)) (laid_record (f rest))))
  laid_fields hs fs (Err x) i j (not_behind h) = not_behind (refused_as (λ lacks. subst (λ z. Not_laid_out (shape_of z) (known_of s)) (sym (known_record like hs i)) (subst (Not_laid_out (Record_shape (field_shapes_of (fields_known (map field_of hs.now))))) (sym (known_record s fs j)) (fields_unlaid (field_shapes_of (fields_known (map field_of hs.now))) (fields_known (map field_of fs.now)) lacks))) h)

  -- what has another form has another shape
  pub other_than_one : shape_of (known_of like) ≡ Scalar_shape → No_scalar (known_of s) → Behind (Laid (shape_of (known_of like)) (known_of s)) before after (Err Lost)
  other_than_one i lacks = not_behind (lost (subst (λ z. Not_laid_out z (known_of s)) (sym i) (scalar_unlaid (known_of s) lacks)))

  pub other_than_parts : (hs : Bor (List Held_known)) → like.form ≡ form.Tuple hs → No_tuple (known_of s) → Behind (Laid (shape_of (known_of like)) (known_of s)) before after (Err Lost)
  unfolding shape_of
  other_than_parts hs i lacks = not_behind (lost (subst (λ z. Not_laid_out (shape_of z) (known_of s)) (sym (known_tuple like hs i)) (tuple_unlaid (shapes_of (knowns (map known_of hs.now))) (known_of s) lacks)))

  pub other_than_fields : (hs : Bor (List Field)) → like.form ≡ form.Record hs → No_record (known_of s) → Behind (Laid (shape_of (known_of like)) (known_of s)) before after (Err Lost)
  unfolding shape_of
  other_than_fields hs i lacks = not_behind (lost (subst (λ z. Not_laid_out (shape_of z) (known_of s)) (sym (known_record like hs i)) (record_unlaid (field_shapes_of (fields_known (map field_of hs.now))) (known_of s) lacks)))

-- ---- parts, one after the other

-- what is laid of the parts from one on leads to all of them
pub data Leads (Is Then : List Atom → List Atom → Type 0) (before after : List Atom) : Type 0 where
  leads : (us : List Atom) → after ≡ before ++ us → ((ws rest : List Atom) → Then ws rest → Is (us ++ ws) rest) → Leads Is Then before after

pub leads_start : (Is : List Atom → List Atom → Type 0) (before : List Atom) → Leads Is Is before before
leads_start Is before = leads [] (sym (append-nil before)) (λ ws rest h. h)

pub leads_end : (Is Then : List Atom → List Atom → Type 0) (before after : List Atom) (x : Unit {0}) → ((rest : List Atom) → Then rest rest) → Leads Is Then before after → Behind Is before after (Ok x)
leads_end Is Then before after x g (leads us e f) = behind us e (λ rest. f rest rest (g rest))

leads_on : (Is Then Part Rest : List Atom → List Atom → Type 0) (before mid after : List Atom) (x : Unit {0}) → ((us ws rest : List Atom) → Part us ws → Rest ws rest → Then us rest) → Leads Is Then before mid → Behind Part mid after (Ok x) → Leads Is Rest before after
leads_on Is Then Part Rest before mid after x g (leads us e f) (behind vs q p) = leads (us ++ vs) (q ∙ ap (λ z. z ++ vs) e ∙ append_assoc before us vs) (λ ws rest h. subst (λ z. Is z rest) (sym (append_assoc us vs ws)) (f (vs ++ ws) rest (g (vs ++ ws) ws rest (p ws) h)))

module _ (hs ss : List Held_known) where
  abbrev pub All_from : ℕ → ℕ → List Atom → List Atom → Type 0
  All_from i j us rest = All_laid (shapes_of (knowns (map known_of (drop i hs)))) (knowns (map known_of (drop j ss))) us rest

  pub all_lead_on : (i j : ℕ) (h s : Held_known) (before mid after : List Atom) (x : Unit {0}) → i < length hs → j < length ss → Leads (All_from 0 0) (All_from i j) before mid → Behind (Laid (shape_of (known_of (get_or hs i h))) (known_of (get_or ss j s))) mid after (Ok x) → Leads (All_from 0 0) (All_from (i + 1) (j + 1)) before after
  unfolding shapes_of
  all_lead_on i j h s before mid after x lt lt' = leads_on (All_from 0 0) (All_from i j) (Laid (shape_of (known_of (get_or hs i h))) (known_of (get_or ss j s))) (All_from (i + 1) (j + 1)) before mid after x (λ us ws rest p q. subst (λ z. All_laid (shapes_of (knowns (map known_of z))) (knowns (map known_of (drop j ss))) us rest) (sym (one_more hs i h lt)) (subst (λ z. All_laid (shapes_of (knowns (map known_of (get_or hs i h ∷ drop (i + 1) hs)))) (knowns (map known_of z)) us rest) (sym (one_more ss j s lt')) (laid_more p q)))

  pub all_lead_end : (i j : ℕ) (before after : List Atom) (x : Unit {0}) → length hs ≤ i → length ss ≤ j → Leads (All_from 0 0) (All_from i j) before after → Behind (All_from 0 0) before after (Ok x)
  unfolding shapes_of
  all_lead_end i j before after x le le' = leads_end (All_from 0 0) (All_from i j) before after x (λ rest. subst (λ z. All_laid (shapes_of (knowns (map known_of z))) (knowns (map known_of (drop j ss))) rest rest) (sym (drop_all i hs le)) (subst (λ z. All_laid (shapes_of (knowns (map known_of []))) (knowns (map known_of z)) rest rest) (sym (drop_all j ss le')) laid_none))

  -- some part is not laid out
  pub all_lead_err : (i j : ℕ) (h s : Held_known) (before mid after later : List Atom) (r : Refusal) → i ≡ j → i < length hs → j < length ss → Behind (Laid (shape_of (known_of (get_or hs i h))) (known_of (get_or ss j s))) mid later (Err r) → Behind (All_from 0 0) before after (Err r)
  all_lead_err i j h s before mid after later r e lt lt' (not_behind l) = not_behind (refused_as (λ lacks. part_unlaid hs ss i h s lt (omega (arith, e, lt')) (subst (λ k. Not_laid_out (shape_of (known_of (get_or hs i h))) (known_of (get_or ss k s))) (sym e) lacks)) l)

module _ (hs fs : List Field) where
  abbrev pub Fields_from : ℕ → ℕ → List Atom → List Atom → Type 0
  Fields_from i j us rest = Fields_laid (field_shapes_of (fields_known (map field_of (drop i hs)))) (fields_known (map field_of (drop j fs))) us rest

  pub fields_lead_on : (i j : ℕ) (h f : Field) (before mid after : List Atom) (x : Unit {0}) → i < length hs → j < length fs → bytes_eq (get_or hs i h).name.now (get_or fs j f).name.now ≡ true → Leads (Fields_from 0 0) (Fields_from i j) before mid → Behind (Laid (shape_of (known_of (get_or hs i h).known)) (known_of (get_or fs j f).known)) mid after (Ok x) → Leads (Fields_from 0 0) (Fields_from (i + 1) (j + 1)) before after
  unfolding field_shapes_of fields_known
  fields_lead_on i j h f before mid after x lt lt' same = leads_on (Fields_from 0 0) (Fields_from i j) (Laid (shape_of (known_of (get_or hs i h).known)) (known_of (get_or fs j f).known)) (Fields_from (i + 1) (j + 1)) before mid after x (λ us ws rest p q. subst (λ z. Fields_laid (field_shapes_of (fields_known (map field_of z))) (fields_known (map field_of (drop j fs))) us rest) (sym (one_more hs i h lt)) (subst (λ z. Fields_laid (field_shapes_of (fields_known (map field_of (get_or hs i h ∷ drop (i + 1) hs)))) (fields_known (map field_of z)) us rest) (sym (one_more fs j f lt')) (both (get_or hs i h) (get_or fs j f) us ws rest same p q)))
    where
      both : (k g : Field) (us ws rest : List Atom) → bytes_eq k.name.now g.name.now ≡ true → Laid (shape_of (known_of k.known)) (known_of g.known) us ws → Fields_from (i + 1) (j + 1) ws rest → Fields_laid (field_shapes_of (fields_known (map field_of (k ∷ drop (i + 1) hs)))) (fields_known (map field_of (g ∷ drop (j + 1) fs))) us rest
      both k g us ws rest same p q = subst (λ z. Fields_laid (field_shapes_of (fields_known (z ∷ map field_of (drop (i + 1) hs)))) (fields_known (map field_of (g ∷ drop (j + 1) fs))) us rest) (sym (field_is k)) (subst (λ z. Fields_laid (field_shapes_of (fields_known ((k.name.now, known_of k.known) ∷ map field_of (drop (i + 1) hs)))) (fields_known (z ∷ map field_of (drop (j + 1) fs))) us rest) (sym (field_is g)) (subst (λ z. Fields_laid (field_shapes_of (fields_known ((k.name.now, known_of k.known) ∷ map field_of (drop (i + 1) hs)))) (fields_known ((z, known_of g.known) ∷ map field_of (drop (j + 1) fs))) us rest) (same_text k.name.now g.name.now same) (laid_field p q)))

  pub fields_lead_end : (i j : ℕ) (before after : List Atom) (x : Unit {0}) → length hs ≤ i → length fs ≤ j → Leads (Fields_from 0 0) (Fields_from i j) before after → Behind (Fields_from 0 0) before after (Ok x)
  unfolding field_shapes_of fields_known
  fields_lead_end i j before after x le le' = leads_end (Fields_from 0 0) (Fields_from i j) before after x (λ rest. subst (λ z. Fields_laid (field_shapes_of (fields_known (map field_of z))) (fields_known (map field_of (drop j fs))) rest rest) (sym (drop_all i hs le)) (subst (λ z. Fields_laid (field_shapes_of (fields_known (map field_of []))) (fields_known (map field_of z)) rest rest) (sym (drop_all j fs le')) laid_no_field))

  -- some field is not laid out, or has another name
  pub fields_lead_err : (i j : ℕ) (h f : Field) (before mid after later : List Atom) (r : Refusal) → i ≡ j → i < length hs → j < length fs → Behind (Laid (shape_of (known_of (get_or hs i h).known)) (known_of (get_or fs j f).known)) mid later (Err r) → Behind (Fields_from 0 0) before after (Err r)
  fields_lead_err i j h f before mid after later r e lt lt' (not_behind l) = not_behind (refused_as (λ lacks. field_unlaid hs fs i h f lt (omega (arith, e, lt')) (subst (λ k. Not_laid_out (shape_of (known_of (get_or hs i h).known)) (known_of (get_or fs k f).known)) (sym e) lacks)) l)

  pub fields_lead_other : (i j : ℕ) (h f : Field) (before after : List Atom) → i ≡ j → i < length hs → j < length fs → bytes_eq (get_or hs i h).name.now (get_or fs j f).name.now ≡ false → Behind (Fields_from 0 0) before after (Err Lost)
  fields_lead_other i j h f before after e lt lt' ne = not_behind (lost (field_name_unlaid hs fs i h f lt (omega (arith, e, lt')) (subst (λ k. bytes_eq (get_or hs i h).name.now (get_or fs k f).name.now ≡ false) (sym e) ne)))
