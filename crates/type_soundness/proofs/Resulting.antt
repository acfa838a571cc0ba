-- What is known of the result of an operation is known by its type.
use Rattle.std.proofs.Common.{◌≡◌, Bool, true, false, cond, ℕ, zero, suc, ◌+◌, ◌≤◌, ◌<◌, ◌≢◌, min, refl, sym, ap, ◌∙◌, subst, arith, List, [], ◌∷◌, map, Option, Some, None, decimal}
use mathlib.Core.Logic.{inl, inr}
use Rattle.std.specs.Str.{bytes_eq}
use Rattle.std.proofs.lemmas.Slice.Eq.{bytes_eq-Decides}
use Rattle.fut_scalar.specs.declared.operator.BinOp.{BinOp}
use Rattle.fut_scalar.specs.declared.operator.BinOp.TheVariants as op
use Rattle.fut_scalar.specs.declared.place.BindId.{BindId}
use Rattle.fut_scalar.specs.declared.scalar.ScalarType.{ScalarType}
use Rattle.fut_scalar.specs.declared.scalar.ScalarType.TheVariants as types
use Rattle.fut_ast.specs.Sorts.{Text}
use Rattle.fut_flat.specs.declared.act.Part.{Part}
use Rattle.fut_flat.specs.declared.act.Part.TheVariants as part
use Rattle.fut_flat.specs.declared.prim.Ref.{Ref}
use Rattle.fut_flat.specs.Terms.{Operation, Integer, Truth, Tuple_of, Record_of, Array_of, Binary, Negate, Complement, Index, Project, Update, Replace, Ascribe, Coerce, Declared, Assert, Range}
use Rattle.fut_types.specs.declared.Kind.TheVariants as kind
use Rattle.fut_types.specs.declared.Head.TheVariants as head
use Rattle.fut_types.specs.Types.{Ty, Var, Made, Tys, none, more, Kinds, HasKind, rank, least, scalar_ty}
use Rattle.fut_types.specs.Shapes.{place, part_at, part_named, HasPart}
use Rattle.fut_typing.specs.Names.{Names, AreNames, IsRecord, Parts_named, Spells, count}
use Rattle.fut_typing.specs.Primitives.{array_ty, bool_ty, i64_ty}
use Rattle.fut_typing.specs.Rules.{Operator, All_are, left_of, Indexed, Updated, Rule}
use Rattle.fut_typing.proofs.Members.{In}
use Rattle.fut_meaning.specs.Knowns.{Known, Data, Known_tuple, Known_record, Known_function, Known_primitive, Knowns, known_none, known_and, Known_fields, known_no_field, known_field, Scope as Seen, all_data, known_tuple, known_record, and_known, known_fields, known_field_of, known_part_from, known_part, known_replaced, replaced_in, some_record, known_result}
use Rattle.fut_meaning.proofs.Walk.{some_same}
use Rattle.type_soundness.specs.Fits.{widest}
use Rattle.type_soundness.specs.Knows.{Each_field, Knows, All_know, All_data, Keyed}
use Rattle.type_soundness.specs.Meant.{Operation_meant}
use Rattle.type_soundness.specs.Walks.{All_hold_data}
use Rattle.type_soundness.proofs.Ordering.{eq_here, eq_other}
use Rattle.type_soundness.proofs.Decimals.{no_number, spelled, one_number, part_low}
use Rattle.type_soundness.proofs.Records.{Named, label_named, covers, long_map, labels_apart, placed_label}
use Rattle.type_soundness.proofs.Knowing.{keyed_from, parts_found, only_data, all_only, kind_data, tuple_known, field_known, record_known}

-- ---- kinds
module _ (K : Kinds) where
  abbrev pub Holds_data : Ty → Type 0
  Holds_data t = HasKind K kind.Data t

  pub scalar_data : (s : ScalarType) → Holds_data (scalar_ty s)
  unfolding rank least
  scalar_data (types.Int i) = let z : 1 ≤ min 4 4 = omega arith in z
  scalar_data types.Bool = let z : 1 ≤ min 3 4 = omega arith in z

  pub array_data : (t : Ty) → Holds_data t → Holds_data (array_ty t)
  unfolding rank least
  array_data t h = let y : 1 ≤ rank K t = h in let z : 1 ≤ min 1 (min (rank K t) 4) = omega (arith, y) in z

  pub integer_data : (t : Ty) → HasKind K kind.Integer t → Holds_data t
  integer_data t h = let y : 4 ≤ rank K t = h in let z : 1 ≤ rank K t = omega (arith, y) in z

  scalars_data : (t : Ty) → HasKind K kind.Scalar t → Holds_data t
  scalars_data t h = let y : 3 ≤ rank K t = h in let z : 1 ≤ rank K t = omega (arith, y) in z

  equal_data : (t : Ty) → HasKind K kind.Equal t → Holds_data t
  equal_data t h = let y : 2 ≤ rank K t = h in let z : 1 ≤ rank K t = omega (arith, y) in z

  pub same_data : (t u : Ty) → t ≡ u → Holds_data u → Holds_data t
  same_data t u e h = subst Holds_data (sym e) h

  alike : (t : Ty) (ts : Tys) → Holds_data t → All_are t ts → All_hold_data K ts
  alike t none h e = tt
  alike t (more u ts) h e = (same_data u t e.0 h, alike t ts h e.1)

  module _ (N : Names) (S : ℕ → Bool) where
    hold_data : (ts : Tys) (tops : Seen) → All_hold_data K ts → All_data N S ts tops
    unfolding All_data
    hold_data none tops h = tt
    hold_data (more t ts) tops h = (kind_data N S K t tops h.0, hold_data ts tops h.1)

    -- an operator works on data and gives data
    operator_data : (o : BinOp) (t u : Ty) → Operator o K t u → Holds_data t × Holds_data u
    operator_data op.Eq t u r = (same_data t bool_ty r.0 (scalar_data types.Bool), equal_data u r.1)
    operator_data op.Ne t u r = (same_data t bool_ty r.0 (scalar_data types.Bool), equal_data u r.1)
    operator_data op.Lt t u r = (same_data t bool_ty r.0 (scalar_data types.Bool), integer_data u r.1)
    operator_data op.Le t u r = (same_data t bool_ty r.0 (scalar_data types.Bool), integer_data u r.1)
    operator_data op.Gt t u r = (same_data t bool_ty r.0 (scalar_data types.Bool), integer_data u r.1)
    operator_data op.Ge t u r = (same_data t bool_ty r.0 (scalar_data types.Bool), integer_data u r.1)
    operator_data op.Add t u r = (same_data t u r.0 (integer_data u r.1), integer_data u r.1)
    operator_data op.Sub t u r = (same_data t u r.0 (integer_data u r.1), integer_data u r.1)
    operator_data op.Mul t u r = (same_data t u r.0 (integer_data u r.1), integer_data u r.1)
    operator_data op.Div t u r = (same_data t u r.0 (integer_data u r.1), integer_data u r.1)
    operator_data op.Mod t u r = (same_data t u r.0 (integer_data u r.1), integer_data u r.1)
    operator_data op.Quot t u r = (same_data t u r.0 (integer_data u r.1), integer_data u r.1)
    operator_data op.Rem t u r = (same_data t u r.0 (integer_data u r.1), integer_data u r.1)
    operator_data op.Pow t u r = (same_data t u r.0 (integer_data u r.1), integer_data u r.1)
    operator_data op.And t u r = (same_data t u r.0 (integer_data u r.1), integer_data u r.1)
    operator_data op.Or t u r = (same_data t u r.0 (integer_data u r.1), integer_data u r.1)
    operator_data op.Xor t u r = (same_data t u r.0 (integer_data u r.1), integer_data u r.1)
    operator_data op.Shl t u r = (same_data t u r.0 (integer_data u r.1), integer_data u r.1)
    operator_data op.Shr t u r = (same_data t u r.0 (integer_data u r.1), integer_data u r.1)
    operator_data op.Min t u r = (same_data t u r.0 (integer_data u r.1), integer_data u r.1)
    operator_data op.Max t u r = (same_data t u r.0 (integer_data u r.1), integer_data u r.1)

    left_data : (p : Part) (t : Ty) → Holds_data t → Holds_data (left_of p t)
    left_data part.At t h = h
    left_data (part.Slice from to) t h = array_data t h
    left_data part.Backwards t h = array_data t h

    indexed_data : (ps : List Part) (x t : Ty) → Indexed N kind.Data K ps x t → Holds_data x → Holds_data t
    indexed_data [] x t r h = same_data t x r h
    indexed_data (p ∷ ps) x t r h = same_data t (left_of p r.1) r.4 (left_data p r.1 (indexed_data ps r.0 r.1 r.3 r.2.1))

    updated_data : (x : Ty) (vs : Tys) → Updated N kind.Data K x vs → Holds_data x → All_hold_data K vs
    updated_data x none r h = absurd r
    updated_data x (more v none) r h = (same_data v x r h, tt)
    updated_data x (more i (more v vs)) r h = (same_data i i64_ty r.0 (scalar_data _), updated_data r.1.0 (more v vs) r.1.2 r.1.1.1)

-- ---- fields
part_is : (N : Names) → (ℕ → Bool) → ℕ → Tys → Seen → Text → Known → Type 0
part_is N S n ts tops g s = Keyed N S (N.shapes.fields n) ts tops (N.label g) s

-- a name that is not found is not the first one, and not behind it
lacks_both : (h f : Text) (s : Known) (fs : Known_fields) → known_field_of h (known_field f s fs) ≡ None → (bytes_eq f h ≡ false) × (known_field_of h fs ≡ None)
lacks_both h f s fs e = here (bytes_eq f h) refl e
  where
    here : (b : Bool) → bytes_eq f h ≡ b → cond b (Some s) (known_field_of h fs) ≡ None → (bytes_eq f h ≡ false) × (known_field_of h fs ≡ None)
    here true is e = absurd (let z : Some s ≡ None = e in cc)
    here false is e = (is, e)

replaced_each : (P : Text → Known → Type 0) (f : Text) (s : Known) (fs : Known_fields) → P f s → Each_field P fs → Each_field P (known_replaced f s fs)
replaced_each P f s known_no_field h k = tt
replaced_each P f s (known_field g u fs) h k = (here (bytes_eq g f) refl, replaced_each P f s fs h k.1)
  where
    here : (b : Bool) → bytes_eq g f ≡ b → P g (cond b s u)
    here true is = subst (λ x. P x s) (sym ((bytes_eq-Decides g f).0 is)) h
    here false is = k.0

replaced_lacks : (h f : Text) (s : Known) (fs : Known_fields) → known_field_of h (known_replaced f s fs) ≡ None → known_field_of h fs ≡ None
replaced_lacks h f s known_no_field e = refl
replaced_lacks h f s (known_field g u fs) e = here (bytes_eq g h) refl (replaced_lacks h f s fs) e
  where
    here : (c : Bool) → bytes_eq g h ≡ c → (known_field_of h (known_replaced f s fs) ≡ None → known_field_of h fs ≡ None) → cond c (Some (cond (bytes_eq g f) s u)) (known_field_of h (known_replaced f s fs)) ≡ None → known_field_of h (known_field g u fs) ≡ None
    here true is rec e = absurd (let z : Some (cond (bytes_eq g f) s u) ≡ None = e in cc)
    here false is rec e = ap (λ c. cond c (Some u) (known_field_of h fs)) is ∙ rec e

module _ (N : Names) (S : ℕ → Bool) (are : AreNames N) (tops : Seen) where
  -- the fields of a record that is made
  Makes : ℕ → Tys → List Text → Knowns → Type 0
  Makes n ts names ss = (fs : Known_fields) × (known_fields names ss ≡ Some fs) × Each_field (part_is N S n ts tops) fs × ((s : Text) → known_field_of s fs ≡ None → Named s names → ⊥)

  fields_make : (n : ℕ) (ts : Tys) (names : List Text) (us : Tys) (ss : Knowns) → Parts_named N names (Made (head.Record n) ts) us → All_know N S us tops ss → Makes n ts names ss
  unfolding All_know part_named place Makes part_is
  fields_make n ts [] none known_none h k = (known_no_field, refl, tt, (λ s e i. i))
  fields_make n ts [] none (known_and s ss) h k = absurd k
  fields_make n ts [] (more u us) ss h k = absurd h
  fields_make n ts (f ∷ names) none ss h k = absurd h
  fields_make n ts (f ∷ names) (more u us) known_none h k = absurd k
  fields_make n ts (f ∷ names) (more u us) (known_and v ss) h k =
      let r = fields_make n ts names us ss h.1 k.1 in (
        known_field f v r.0,
        ap (λ o. and_known f v o) r.1,
        (keyed_from N S (N.label f) u tops v (N.shapes.fields n) ts h.0 k.0, r.2),
        (λ s e i. let q = lacks_both s f v r.0 e in elim i as (λ d. ⊥) [ inl same ↦ absurd (let z : true ≡ false = sym ((bytes_eq-Decides f s).1 (sym same)) ∙ q.0 in cc) | inr j ↦ r.3 s q.1 j ]),
      )

  -- what is known of a result, and is known by its type
  abbrev pub Gives : Operation Ref BindId → Knowns → Ty → Type 0
  Gives o ss t = (s : Known) × (known_result o ss ≡ Some s) × Knows N S t tops s

  record_gives : (names : List Text) (t : Ty) (us : Tys) (ss : Knowns) → IsRecord N names t us → All_know N S us tops ss → Gives (Record_of names) ss t
  unfolding known_result Makes part_is part_named place
  record_gives names t us ss r k =
      let m = fields_make r.number r.parts names us ss (subst (λ x. Parts_named N names x us) r.made r.named) k in (
        known_record m.0,
        ap some_record m.1,
        subst (λ x. Knows N S x tops (known_record m.0)) (sym r.made) (record_known N S are tops r.number r.parts m.0 m.2 (λ g u p e. m.3 g e (filled g u p))),
      )
    where
      named_in : (fs : List Text) (vs : Tys) → Parts_named N fs t vs → (s : Text) → Named s fs → In (N.label s) (N.shapes.fields r.number)
      named_in [] vs h s i = absurd i
      named_in (f ∷ fs) none h s i = absurd h
      named_in (f ∷ fs) (more v vs) h s (inl e) = subst (λ x. In (N.label x) (N.shapes.fields r.number)) (sym e) (placed_label (N.label f) (N.shapes.fields r.number) r.parts v (subst (λ x. HasPart N.shapes (N.label f) x v) r.made h.0))
      named_in (f ∷ fs) (more v vs) h s (inr j) = named_in fs vs h.1 s j

      filled : (g : Text) (u : Ty) → HasPart N.shapes (N.label g) (Made (head.Record r.number) r.parts) u → Named g names
      filled g u p =
          let inside : In (N.label g) (N.shapes.fields r.number) = placed_label (N.label g) (N.shapes.fields r.number) r.parts u p in
          let w : In (N.label g) (map N.label names) = covers (map N.label names) (N.shapes.fields r.number) (labels_apart N are names r.once)
          (λ l i. let q = label_named N.label names l i in subst (λ x. In x (N.shapes.fields r.number)) (sym q.2) (named_in names us r.named q.0 q.1)) (let x = r.fields in let y = long_map N.label names in omega (arith, x, y)) (N.label g) inside in
          let q = label_named N.label names (N.label g) w in subst (λ x. Named x names) (sym (are.one_label g q.0 q.2)) q.1

  -- ---- parts
  Found : Option Known → Ty → Type 0
  Found o t = (s : Known) × (o ≡ Some s) × Knows N S t tops s

  data_part : (i : ℕ) (ts : Tys) (u : Ty) → part_at (Some i) ts ≡ Some u → All_data N S ts tops → Knows N S u tops Data
  unfolding part_at All_data
  data_part i none u e h = absurd (let z : None ≡ Some u = e in cc)
  data_part zero (more t ts) u e h = subst (λ x. Knows N S x tops Data) (some_same e) h.0
  data_part (suc i) (more t ts) u e h = data_part i ts u e h.1

  tuple_part : (ts : Tys) (ss : Knowns) (i k : ℕ) (f : Text) (u : Ty) → part_at (Some i) ts ≡ Some u → All_know N S ts tops ss → decimal (k + i) ≡ f → k + count ts ≤ widest → Found (known_part_from k f ss) u
  unfolding part_at All_know Found
  tuple_part none ss i k f u e h d le = absurd (let z : None ≡ Some u = e in cc)
  tuple_part (more t ts) known_none i k f u e h d le = absurd h
  tuple_part (more t ts) (known_and s ss) zero k f u e h d le =
      let here : decimal k ≡ f = ap decimal (let w : k ≡ k + 0 = omega arith in w) ∙ d in
      (s, ap (λ b. cond b (Some s) (known_part_from (suc k) f ss)) (ap (λ g. bytes_eq g f) here ∙ eq_here f), subst (λ x. Knows N S x tops s) (some_same e) h.0)
  tuple_part (more t ts) (known_and s ss) (suc i) k f u e h d le =
      let some : i < count ts = part_low ts i u e in
      let z : k + (1 + count ts) ≤ widest = le in
      let ne : decimal k ≢ f = λ same. let q : k ≡ k + suc i = one_number k (k + suc i) (omega arith) (omega arith) (same ∙ sym d) in omega arith in
      let r = tuple_part ts ss i (suc k) f u e h.1 (ap decimal (let w : suc k + i ≡ k + suc i = omega arith in w) ∙ d) (omega arith) in
      (r.0, ap (λ b. cond b (Some s) (known_part_from (suc k) f ss)) (eq_other (decimal k) f ne) ∙ r.1, r.2)

  project_found : (f : Text) (t u : Ty) (s : Known) → HasPart N.shapes (N.label f) u t → Knows N S u tops s → Found (known_part f s) t
  unfolding Knows Found part_named place part_at
  project_found f t (Var n) s h k = absurd (let z : None ≡ Some t = h in cc)
  project_found f t (Made (head.Scalar x) ts) s h k = absurd (let z : None ≡ Some t = h in cc)
  project_found f t (Made head.Array ts) s h k = absurd (let z : None ≡ Some t = h in cc)
  project_found f t (Made head.Tuple ts) Data h k = (Data, refl, at_place (N.shapes.position (N.label f)) h)
    where
      at_place : (o : Option ℕ) → part_at o ts ≡ Some t → Knows N S t tops Data
      at_place None e = absurd (let z : None ≡ Some t = e in cc)
      at_place (Some i) e = data_part i ts t e k
  project_found f t (Made head.Tuple ts) (Known_tuple ss) h k = known (N.shapes.position (N.label f)) refl h
    where
      known : (o : Option ℕ) → N.shapes.position (N.label f) ≡ o → part_at o ts ≡ Some t → Found (known_part_from 0 f ss) t
      known None is e = absurd (let z : None ≡ Some t = e in cc)
      known (Some i) is e = let lt : count ts < widest = k.1.0 in let some : i < count ts = part_low ts i t e in
          tuple_part ts ss i 0 f t e k.1.1 (ap decimal (let w : 0 + i ≡ i = omega arith in w) ∙ spelled f i ((are.position f i).0 is) (omega arith)) (omega arith)
  project_found f t (Made head.Tuple ts) (Known_record fs) h k = absurd k
  project_found f t (Made head.Tuple ts) (Known_function ps e sc) h k = absurd k
  project_found f t (Made head.Tuple ts) (Known_primitive p ss) h k = absurd k
  project_found f t (Made (head.Record n) ts) Data h k = (Data, refl, parts_found N S (N.label f) t tops (N.shapes.fields n) ts h k)
  project_found f t (Made (head.Record n) ts) (Known_tuple ss) h k = absurd k
  project_found f t (Made (head.Record n) ts) (Known_record fs) h k = field_known N S are f t tops n ts fs h k.1.0 k.1.1
  project_found f t (Made (head.Record n) ts) (Known_function ps e sc) h k = absurd k
  project_found f t (Made (head.Record n) ts) (Known_primitive p ss) h k = absurd k
  project_found f t (Made head.Fun ts) s h k = absurd (let z : None ≡ Some t = h in cc)
  project_found f t (Made (head.Rigid n d) ts) s h k = absurd (let z : None ≡ Some t = h in cc)
  project_found f t (Made (head.Abstract n d) ts) s h k = absurd (let z : None ≡ Some t = h in cc)

  replace_found : (f : Text) (t x : Ty) (u s : Known) → ((n : ℕ) → Spells f n → ⊥) → HasPart N.shapes (N.label f) t x → Knows N S t tops u → Knows N S x tops s → Found (replaced_in f u s) t
  unfolding Knows Found part_named place part_at
  replace_found f (Var n) x u s lacks h k g = absurd (let z : None ≡ Some x = h in cc)
  replace_found f (Made (head.Scalar y) ts) x u s lacks h k g = absurd (let z : None ≡ Some x = h in cc)
  replace_found f (Made head.Array ts) x u s lacks h k g = absurd (let z : None ≡ Some x = h in cc)
  replace_found f (Made head.Tuple ts) x u s lacks h k g = absurd (no_number N are f x ts lacks h)
  replace_found f (Made (head.Record n) ts) x Data s lacks h k g = (Data, ap (replaced_in f Data) (only_data N S x tops s (parts_found N S (N.label f) x tops (N.shapes.fields n) ts h k) g), k)
  replace_found f (Made (head.Record n) ts) x (Known_tuple ss) s lacks h k g = absurd k
  replace_found f (Made (head.Record n) ts) x (Known_record fs) s lacks h k g = (
    known_record (known_replaced f s fs),
    refl,
    record_known N S are tops n ts (known_replaced f s fs)
        (replaced_each (λ a v. Keyed N S (N.shapes.fields n) ts tops (N.label a) v) f s fs (keyed_from N S (N.label f) x tops s (N.shapes.fields n) ts h g) k.1.0)
        (λ a v p e. k.1.1 a v p (replaced_lacks a f s fs e)),
  )
  replace_found f (Made (head.Record n) ts) x (Known_function ps e sc) s lacks h k g = absurd k
  replace_found f (Made (head.Record n) ts) x (Known_primitive p ss) s lacks h k g = absurd k
  replace_found f (Made head.Fun ts) x u s lacks h k g = absurd (let z : None ≡ Some x = h in cc)
  replace_found f (Made (head.Rigid n d) ts) x u s lacks h k g = absurd (let z : None ≡ Some x = h in cc)
  replace_found f (Made (head.Abstract n d) ts) x u s lacks h k g = absurd (let z : None ≡ Some x = h in cc)

  -- ---- operations
  module _ (K : Kinds) where
    same_knows : (t u : Ty) (s : Known) → t ≡ u → Knows N S u tops s → Knows N S t tops s
    same_knows t u s e h = subst (λ x. Knows N S x tops s) (sym e) h

    -- of data, data
    makes_data : (o : Operation Ref BindId) (t : Ty) (ts : Tys) (ss : Knowns) → known_result o ss ≡ cond (all_data ss) (Some Data) None → HasKind K kind.Data t → All_hold_data K ts → All_know N S ts tops ss → Gives o ss t
    makes_data o t ts ss is k hold h = (Data, is ∙ ap (λ b. cond b (Some Data) None) (all_only N S ts tops ss (hold_data K N S ts tops hold) h), kind_data N S K t tops k)

    all_one : (x : Ty) (s : Known) → Knows N S x tops s → All_know N S (more x none) tops (known_and s known_none)
    unfolding All_know
    all_one x s h = (h, tt)

    all_two : (x y : Ty) (s s' : Known) → Knows N S x tops s → Knows N S y tops s' → All_know N S (more x (more y none)) tops (known_and s (known_and s' known_none))
    unfolding All_know
    all_two x y s s' h g = (h, (g, tt))

    abbrev Of : Operation Ref BindId → Type 0
    Of o = (t u : Ty) (ts : Tys) (ss : Knowns) → Operation_meant o (count ts) → Rule N kind.Data K o t u ts → count ts < widest → All_know N S ts tops ss → Gives o ss t

    one_part : (o : Operation Ref BindId) → ((t u : Ty) → Rule N kind.Data K o t u none → ⊥) → ((t u x : Ty) (s : Known) → Rule N kind.Data K o t u (more x none) → Knows N S x tops s → Gives o (known_and s known_none) t)
        → ((t u x y : Ty) (ts : Tys) → Rule N kind.Data K o t u (more x (more y ts)) → ⊥) → Of o
    unfolding All_know
    one_part o fewer here further t u none ss w r lt h = absurd (fewer t u r)
    one_part o fewer here further t u (more x none) known_none w r lt h = absurd h
    one_part o fewer here further t u (more x none) (known_and s known_none) w r lt h = here t u x s r h.0
    one_part o fewer here further t u (more x none) (known_and s (known_and s' ss)) w r lt h = absurd h.1
    one_part o fewer here further t u (more x (more y ts)) ss w r lt h = absurd (further t u x y ts r)

    two_parts : (o : Operation Ref BindId) → ((t u : Ty) → Rule N kind.Data K o t u none → ⊥) → ((t u x : Ty) → Rule N kind.Data K o t u (more x none) → ⊥)
        → ((t u x y : Ty) (s s' : Known) → Operation_meant o 2 → Rule N kind.Data K o t u (more x (more y none)) → Knows N S x tops s → Knows N S y tops s' → Gives o (known_and s (known_and s' known_none)) t)
        → ((t u x y z : Ty) (ts : Tys) → Rule N kind.Data K o t u (more x (more y (more z ts))) → ⊥) → Of o
    unfolding All_know
    two_parts o no-one one-one here further t u none ss w r lt h = absurd (no-one t u r)
    two_parts o no-one one-one here further t u (more x none) ss w r lt h = absurd (one-one t u x r)
    two_parts o no-one one-one here further t u (more x (more y none)) known_none w r lt h = absurd h
    two_parts o no-one one-one here further t u (more x (more y none)) (known_and s known_none) w r lt h = absurd h.1
    two_parts o no-one one-one here further t u (more x (more y none)) (known_and s (known_and s' known_none)) w r lt h = here t u x y s s' w r h.0 h.1.0
    two_parts o no-one one-one here further t u (more x (more y none)) (known_and s (known_and s' (known_and s'' ss))) w r lt h = absurd h.1.1
    two_parts o no-one one-one here further t u (more x (more y (more z ts))) ss w r lt h = absurd (further t u x y z ts r)

    index_data : (ps : List Part) (x : Ty) (t : Ty) → Operation_meant (Index ps) 0 → Indexed N kind.Data K ps x t → HasKind K kind.Data x
    index_data [] x t w r = absurd w
    index_data (p ∷ ps) x t w r = same_data K x (array_ty r.0) r.2.0 (array_data K r.0 r.2.1)

    index_gives : (ps : List Part) → Of (Index ps)
    unfolding known_result
    index_gives ps t u none ss w r lt h = absurd r
    index_gives [] t u (more x is) ss w r lt h = absurd w
    index_gives (p ∷ ps) t u (more x is) ss w r lt h = let d = index_data (p ∷ ps) x t tt r.2 in
        makes_data (Index (p ∷ ps)) t (more x is) ss refl (indexed_data K N S (p ∷ ps) x t r.2 d) (d, alike K i64_ty is (scalar_data K _) r.0) h

    update_gives : Of Update
    unfolding known_result
    update_gives t u none ss w r lt h = absurd r
    update_gives t u (more x none) ss w r lt h = absurd r.1
    update_gives t u (more x (more v none)) ss w r lt h = absurd (let z : 2 < 2 = w in omega (arith, z))
    update_gives t u (more x (more i (more v vs))) ss w r lt h =
        let d = same_data K x (array_ty r.1.1.0) r.1.1.1.0 (array_data K r.1.1.0 r.1.1.1.1) in
        makes_data Update t (more x (more i (more v vs))) ss refl (same_data K t x r.0 d) (d, updated_data K N S x (more i (more v vs)) r.1 d) h

    range_gives : (stepped : Bool) (end : _) → Of (Range stepped end)
    unfolding known_result
    range_gives true end t u none ss w r lt h = absurd r
    range_gives true end t u (more x none) ss w r lt h = absurd r
    range_gives true end t u (more x (more y none)) ss w r lt h = absurd r
    range_gives true end t u (more x (more y (more z none))) ss w r lt h = makes_data (Range true end) t (more x (more y (more z none))) ss refl (same_data K t (array_ty r.0) r.1.0 (array_data K r.0 r.1.1)) (alike K r.0 (more x (more y (more z none))) r.1.1 r.3) h
    range_gives true end t u (more x (more y (more z (more q ts)))) ss w r lt h = absurd r
    range_gives false end t u none ss w r lt h = absurd r
    range_gives false end t u (more x none) ss w r lt h = absurd r
    range_gives false end t u (more x (more z none)) ss w r lt h = makes_data (Range false end) t (more x (more z none)) ss refl (same_data K t (array_ty r.0) r.1.0 (array_data K r.0 r.1.1)) (alike K r.0 (more x (more z none)) r.1.1 r.3) h
    range_gives false end t u (more x (more y (more z ts))) ss w r lt h = absurd r

    no_parts : (o : Operation Ref BindId) → ((ss : Knowns) → known_result o ss ≡ cond (all_data ss) (Some Data) None) → ((t u : Ty) → Rule N kind.Data K o t u none → HasKind K kind.Data t) → ((t u x : Ty) (ts : Tys) → Rule N kind.Data K o t u (more x ts) → ⊥) → Of o
    no_parts o is here further t u none ss w r lt h = makes_data o t none ss (is ss) (here t u r) tt h
    no_parts o is here further t u (more x ts) ss w r lt h = absurd (further t u x ts r)

    pub operation_gives : (o : Operation Ref BindId) → Of o
    unfolding known_result Found
    operation_gives (Integer n None) = no_parts (Integer n None) (λ ss. refl) (λ t u r. integer_data K t r) (λ t u x ts r. r)
    operation_gives (Integer n (Some i)) = no_parts (Integer n (Some i)) (λ ss. refl) (λ t u r. same_data K t (scalar_ty (types.Int i)) r (scalar_data K (types.Int i))) (λ t u x ts r. r)
    operation_gives (Truth b) = no_parts (Truth b) (λ ss. refl) (λ t u r. same_data K t bool_ty r (scalar_data K types.Bool)) (λ t u x ts r. r)
    operation_gives Tuple_of = λ t u ts ss w r lt h. (known_tuple ss, refl, same_knows t (Made head.Tuple ts) (known_tuple ss) r (tuple_known N S ts tops ss lt h))
    operation_gives (Record_of names) = λ t u ts ss w r lt h. record_gives names t ts ss r h
    operation_gives Array_of = λ t u ts ss w r lt h. makes_data Array_of t ts ss refl (same_data K t (array_ty r.0) r.1.0 (array_data K r.0 r.1.1)) (alike K r.0 ts r.1.1 r.2) h
    operation_gives (Binary o) = two_parts (Binary o) (λ t u r. r) (λ t u x r. r)
        (λ t u x y s s' w r h g. let d = operator_data K N S o t u r.0 in makes_data (Binary o) t (more x (more y none)) (known_and s (known_and s' known_none)) refl d.0 (same_data K x u r.1 d.1, (same_data K y u r.2 d.1, tt)) (all_two x y s s' h g)) (λ t u x y z ts r. r)
    operation_gives Negate = one_part Negate (λ t u r. r) (λ t u x s r h. let d = integer_data K t r.1 in makes_data Negate t (more x none) (known_and s known_none) refl d (same_data K x t (sym r.0) d, tt) (all_one x s h)) (λ t u x y ts r. r)
    operation_gives Complement = one_part Complement (λ t u r. r) (λ t u x s r h. let d = scalars_data K t r.1 in makes_data Complement t (more x none) (known_and s known_none) refl d (same_data K x t (sym r.0) d, tt) (all_one x s h)) (λ t u x y ts r. r)
    operation_gives (Index ps) = index_gives ps
    operation_gives (Project f) = one_part (Project f) (λ t u r. r) (λ t u x s r h. project_found f t u s r.1 (subst (λ y. Knows N S y tops s) r.0 h)) (λ t u x y ts r. r)
    operation_gives Update = update_gives
    operation_gives (Replace f) = two_parts (Replace f) (λ t u r. r) (λ t u x r. r) (λ t u x y s s' w r h g. replace_found f t y s s' w r.1 (same_knows t x s r.0 h) g) (λ t u x y z ts r. r)
    operation_gives (Ascribe e) = one_part (Ascribe e) (λ t u r. r) (λ t u x s r h. (s, refl, same_knows t x s r h)) (λ t u x y ts r. r)
    operation_gives (Coerce e) = one_part (Coerce e) (λ t u r. r) (λ t u x s r h. (s, refl, same_knows t x s r h)) (λ t u x y ts r. r)
    operation_gives (Declared e) = one_part (Declared e) (λ t u r. r) (λ t u x s r h. (s, refl, same_knows t x s r h)) (λ t u x y ts r. r)
    operation_gives Assert = one_part Assert (λ t u r. r)
        (λ t u x s r h. let d = scalar_data K types.Bool in makes_data Assert t (more x none) (known_and s known_none) refl (same_data K t bool_ty r.1 d) (same_data K x bool_ty r.0 d, tt) (all_one x s h)) (λ t u x y ts r. r)
    operation_gives (Range stepped end) = range_gives stepped end
