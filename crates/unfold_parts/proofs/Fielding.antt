-- The fields of records, one after the other.
use Rattle.std.proofs.Common.{◌≡◌, ℕ, suc, Ok, Err, ◌+◌, ◌<◌, ◌≤◌, ◌++◌, List, [], ◌∷◌, map, length, get_or, set, drop, take, Option, Some, None, Bool, true, false, cond, refl, sym, ap, subst, ◌∙◌, append-nil, arith}
use Rattle.std.specs.Borrow.{Bor}
use Rattle.std.specs.Str.{bytes_eq}
use Rattle.std.specs.Cmp.{IsStrictWeakOrder}
use Rattle.std.specs.Cmp.Lexicographic.{nat_list_cmp_total}
use Rattle.std.specs.List.Sorted.{IsSortedBy, IsStableBy}
use Rattle.std.proofs.lemmas.List.{drop_all, take_all, take-set, drop-set, take-append-drop, get_or_default, map-append, length-map}
use Rattle.std.proofs.lemmas.List.Sorted.{ranks_by}
use Rattle.fut_ast.specs.Sorts.{Text}
use Rattle.fut_flat.specs.Erased.{texts}
use Rattle.fut_meaning.specs.Operations.{named_values, with_name}
use Rattle.fut_meaning.specs.Values.{is_before}
use Rattle.unfold.proofs.Mirror.{field_is, known_record}
use Rattle.unfold.specs.Held.{known_of, field_of, fields_known}
use Rattle.unfold.specs.Knowns.{Known, Record_known, Known_fields, no_known_field, known_field_and, field, fields, with_field, replaced}
use Rattle.unfold.specs.declared.known.Field.{Field}
use Rattle.unfold.specs.declared.known.Known.{Known as Held_known}
use Rattle.unfold.specs.declared.known.KnownForm.TheVariants as form
use Rattle.unfold_parts.specs.Parts.{is_record, Place_to, stands_at, stands_nowhere, Recorded_to, recorded_to, not_recorded}
use Rattle.unfold_parts.specs.Refused.{lost}
use Rattle.unfold_parts.specs.declared.refusal.Refusal.TheVariants.{Lost}
use Rattle.unfold_parts.proofs.Lists.{one_more, take_more}
use Rattle.unfold_parts.proofs.Sorting.{backward, put, in_order, stably}

abbrev pub pair_of : Field → Text × Known
pair_of f = (f.name.now, known_of f.known)

-- the fields from one on
module _ (fs : List Field) where
  abbrev pub Rest : ℕ → Known_fields
  Rest i = fields_known (map field_of (drop i fs))

  pub rest_step : (i : ℕ) (f : Field) → i < length fs → Rest i ≡ known_field_and (get_or fs i f).name.now (known_of (get_or fs i f).known) (Rest (i + 1))
  unfolding fields_known
  rest_step i f lt = ap (λ z. fields_known (map field_of z)) (one_more fs i f lt) ∙ ap (λ z. known_field_and z.0 z.1 (Rest (i + 1))) (field_is (get_or fs i f))

  pub rest_done : (i : ℕ) → length fs ≤ i → Rest i ≡ no_known_field
  unfolding fields_known
  rest_done i le = ap (λ z. fields_known (map field_of z)) (drop_all i fs le)

-- ---- the field of a name

module _ (name : Text) (fs : List Field) (i : ℕ) (f : Field) (o : Option Known) (lt : i < length fs) (e : o ≡ field name (Rest fs i)) where
  field_step : o ≡ cond (bytes_eq (get_or fs i f).name.now name) (Some (known_of (get_or fs i f).known)) (field name (Rest fs (i + 1)))
  field_step = e ∙ ap (field name) (rest_step fs i f lt)

  pub field_here : bytes_eq (get_or fs i f).name.now name ≡ true → Some (known_of (get_or fs i f).known) ≡ o
  field_here h = sym (field_step ∙ ap (λ z. cond z (Some (known_of (get_or fs i f).known)) (field name (Rest fs (i + 1)))) h)

  pub field_on : bytes_eq (get_or fs i f).name.now name ≡ false → o ≡ field name (Rest fs (i + 1))
  field_on h = field_step ∙ ap (λ z. cond z (Some (known_of (get_or fs i f).known)) (field name (Rest fs (i + 1)))) h

pub field_done : (name : Text) (fs : List Field) (i : ℕ) → length fs ≤ i → field name (Rest fs i) ≡ None
field_done name fs i le = ap (field name) (rest_done fs i le)

-- ---- fields before others

abbrev pub before : List (Text × Known) → Known_fields → Known_fields
before [] gs = gs
before (f ∷ fs) gs = known_field_and f.0 f.1 (before fs gs)

before_more : (fs hs : List (Text × Known)) (gs : Known_fields) → before (fs ++ hs) gs ≡ before fs (before hs gs)
before_more [] hs gs = refl
before_more (f ∷ fs) hs gs = ap (known_field_and f.0 f.1) (before_more fs hs gs)

before_is : (fs hs : List (Text × Known)) → fields_known (fs ++ hs) ≡ before fs (fields_known hs)
unfolding fields_known
before_is [] hs = refl
before_is (f ∷ fs) hs = ap (known_field_and f.0 f.1) (before_is fs hs)

behind_one : (fs : List Field) (f : Field) (gs : Known_fields) → before (map field_of (fs ++ f ∷ [])) gs ≡ before (map field_of fs) (known_field_and f.name.now (known_of f.known) gs)
behind_one fs f gs = ap (λ z. before z gs) (map-append field_of fs (f ∷ [])) ∙ before_more (map field_of fs) (field_of f ∷ []) gs ∙ ap (λ z. before (map field_of fs) (known_field_and z.0 z.1 gs)) (field_is f)

-- ---- a field that is replaced

module _ (name : Text) (fs : List Field) where
  -- no field before one has that name
  abbrev pub Ahead : ℕ → Type 0
  Ahead i = (s : Known) → replaced name s (Rest fs 0) ≡ before (map field_of (take i fs)) (replaced name s (Rest fs i))

  pub ahead_start : Ahead 0
  ahead_start s = refl

  -- the fields up to one, and that one with its name and what is known of it
  one_replaced : (i : ℕ) (f : Field) (b : Bool) → i < length fs → bytes_eq (get_or fs i f).name.now name ≡ b → Ahead i → (s : Known) → replaced name s (Rest fs 0) ≡ before (map field_of (take i fs)) (cond b (known_field_and (get_or fs i f).name.now s (Rest fs (i + 1))) (known_field_and (get_or fs i f).name.now (known_of (get_or fs i f).known) (replaced name s (Rest fs (i + 1)))))
  one_replaced i f b lt h a s =
      a s
      ∙ ap (λ z. before (map field_of (take i fs)) (replaced name s z)) (rest_step fs i f lt)
      ∙ ap (λ z. before (map field_of (take i fs)) (cond z (known_field_and (get_or fs i f).name.now s (Rest fs (i + 1))) (known_field_and (get_or fs i f).name.now (known_of (get_or fs i f).known) (replaced name s (Rest fs (i + 1)))))) h

  pub ahead_on : (i : ℕ) (f : Field) → i < length fs → bytes_eq (get_or fs i f).name.now name ≡ false → Ahead i → Ahead (i + 1)
  ahead_on i f lt h a s =
      one_replaced i f false lt h a s
      ∙ sym (behind_one (take i fs) (get_or fs i f) (replaced name s (Rest fs (i + 1))))
      ∙ ap (λ z. before (map field_of z) (replaced name s (Rest fs (i + 1)))) (sym (take_more fs i f lt))

  set_is : (i : ℕ) (g : Field) → i < length fs → fields_known (map field_of (set fs i g)) ≡ before (map field_of (take i fs)) (known_field_and g.name.now (known_of g.known) (Rest fs (i + 1)))
  unfolding fields_known
  set_is i g lt =
      ap (λ z. fields_known (map field_of z)) (sym (take-append-drop i (set fs i g)) ∙ ap (λ z. z ++ drop i (set fs i g)) (take-set fs i g) ∙ ap (λ z. take i fs ++ z) (drop-set fs i g lt))
      ∙ ap fields_known (map-append field_of (take i fs) (g ∷ drop (i + 1) fs))
      ∙ before_is (map field_of (take i fs)) (map field_of (g ∷ drop (i + 1) fs))
      ∙ ap (λ z. before (map field_of (take i fs)) (known_field_and z.0 z.1 (Rest fs (i + 1)))) (field_is g)

  pub ahead_here : (i at : ℕ) (f : Field) → i < length fs → at ≡ i → bytes_eq (get_or fs i f).name.now name ≡ true → Ahead i → Place_to name fs (Some at)
  ahead_here i at f lt e h a = subst (λ z. Place_to name fs (Some z)) (sym e) (stands_at (λ g n.
      set_is i g lt
      ∙ ap (λ z. before (map field_of (take i fs)) (known_field_and z (known_of g.known) (Rest fs (i + 1)))) (n ∙ ap (λ (z : Field). z.name.now) (get_or_default fs i g f lt))
      ∙ sym (one_replaced i f true lt h a (known_of g.known))))

  pub ahead_all : (i : ℕ) → length fs ≤ i → Ahead i → Place_to name fs None
  unfolding fields_known
  ahead_all i le a = stands_nowhere (λ s.
      a s
      ∙ ap (λ z. before (map field_of (take i fs)) (replaced name s z)) (rest_done fs i le)
      ∙ sym (before_is (map field_of (take i fs)) [])
      ∙ ap fields_known (append-nil (map field_of (take i fs)))
      ∙ ap (λ z. fields_known (map field_of z)) (take_all i fs le))

pub put_there : (name : Text) (s : Known) (fs made : List Field) (at : ℕ) (g d : Field) → Place_to name fs (Some at) → made ≡ fs → at < length fs → g.name.now ≡ (get_or fs at d).name.now → known_of g.known ≡ s → fields_known (map field_of (set made at g)) ≡ replaced name s (fields_known (map field_of fs))
put_there name s fs made at g d (stands_at p) e lt n k = ap (λ z. fields_known (map field_of (set z at g))) e ∙ p g (n ∙ ap (λ (z : Field). z.name.now) (get_or_default fs at d g lt)) ∙ ap (λ z. replaced name z (fields_known (map field_of fs))) k

pub put_nowhere : (name : Text) (s : Known) (fs made : List Field) → Place_to name fs None → made ≡ fs → fields_known (map field_of made) ≡ replaced name s (fields_known (map field_of fs))
put_nowhere name s fs made (stands_nowhere p) e = ap (λ z. fields_known (map field_of z)) e ∙ sym (p s)

-- ---- fields put in order

abbrev pub name_before : Field → Field → Bool
name_before f g = is_before f.name.now g.name.now

pub names_rank : IsStrictWeakOrder name_before
names_rank = ranks_by nat_list_cmp_total (λ (f : Field). f.name.now)

fields_put : (f : Field) (fs : List Field) → fields_known (map field_of (put name_before f fs)) ≡ with_field f.name.now (known_of f.known) (fields_known (map field_of fs))
unfolding fields_known
fields_put f [] = ap (λ z. known_field_and z.0 z.1 no_known_field) (field_is f)
fields_put f (g ∷ fs) =
    known (name_before f g) (fields_put f fs)
    ∙ ap (λ z. cond (is_before f.name.now z) (known_field_and f.name.now (known_of f.known) (fields_known (map field_of (g ∷ fs)))) (known_field_and (field_of g).0 (field_of g).1 (with_field f.name.now (known_of f.known) (fields_known (map field_of fs))))) (sym (ap (λ z. z.0) (field_is g)))
  where
    known : (b : Bool) → fields_known (map field_of (put name_before f fs)) ≡ with_field f.name.now (known_of f.known) (fields_known (map field_of fs)) → fields_known (map field_of (cond b (f ∷ g ∷ fs) (g ∷ put name_before f fs))) ≡ cond b (known_field_and f.name.now (known_of f.known) (fields_known (map field_of (g ∷ fs)))) (known_field_and (field_of g).0 (field_of g).1 (with_field f.name.now (known_of f.known) (fields_known (map field_of fs))))
    known true rest = ap (λ z. known_field_and z.0 z.1 (fields_known (map field_of (g ∷ fs)))) (field_is f)
    known false rest = ap (known_field_and (field_of g).0 (field_of g).1) rest

fields_ordered : (fs : List Field) → fields_known (map field_of (in_order name_before fs)) ≡ fields (map pair_of fs)
unfolding fields_known
fields_ordered [] = refl
fields_ordered (f ∷ fs) = fields_put f (in_order name_before fs) ∙ ap (with_field f.name.now (known_of f.known)) (fields_ordered fs)

-- ---- a record, from its last field on

abbrev pub paired : List Text → List Known → List (Text × Known)
paired [] ss = []
paired (f ∷ fs) [] = []
paired (f ∷ fs) (s ∷ ss) = (f, s) ∷ paired fs ss

abbrev zipped : List (Bor Text) → List Held_known → List Field
zipped [] ss = []
zipped (n ∷ ns) [] = []
zipped (n ∷ ns) (s ∷ ss) = record { name = n; known = s } ∷ zipped ns ss

pairs_are : (ns : List (Bor Text)) (ss : List Held_known) → map pair_of (zipped ns ss) ≡ paired (texts ns) (map known_of ss)
pairs_are [] ss = refl
pairs_are (n ∷ ns) [] = refl
pairs_are (n ∷ ns) (s ∷ ss) = ap (◌∷◌ (n.now, known_of s)) (pairs_are ns ss)

named_are : (names : List Text) (ss : List Known) → length names ≡ length ss → named_values names ss ≡ Some (paired names ss)
named_are [] [] e = refl
named_are [] (s ∷ ss) e = absurd (omega (arith, e))
named_are (f ∷ fs) [] e = absurd (omega (arith, e))
named_are (f ∷ fs) (s ∷ ss) e = ap (with_name f s) (named_are fs ss (omega (arith, e)))

named_many : (names : List Text) (ss : List Known) → (length names ≡ length ss → ⊥) → named_values names ss ≡ None
named_many [] [] h = absurd (h refl)
named_many [] (s ∷ ss) h = refl
named_many (f ∷ fs) [] h = refl
named_many (f ∷ fs) (s ∷ ss) h = ap (with_name f s) (named_many fs ss (λ e. h (ap suc e)))

module _ (names : List (Bor Text)) (parts : List Held_known) where
  -- there are not as many values as names
  pub recorded_many : (length names ≡ length parts → ⊥) → Recorded_to (texts names) (map known_of parts) (Err Lost)
  recorded_many h = not_recorded (lost (named_many (texts names) (map known_of parts) (λ e. h (sym (length-map names (λ (x : Bor Text). x.now)) ∙ e ∙ length-map parts known_of))))

  abbrev pub Recorded : List Field → ℕ → Type 0
  Recorded made i = made ≡ backward (zipped (drop i names) (drop i parts))

  pub recorded_start : (n : ℕ) → length names ≤ n → Recorded [] n
  recorded_start n le = sym (ap (λ z. backward (zipped z (drop n parts))) (drop_all n names le))

  -- one more field
  pub recorded_on : (i j : ℕ) (n : Bor Text) (d : Held_known) (made made' : List Field) → i < length names → i < length parts → j ≡ i + 1 → made' ≡ made ++ record { name = get_or names i n; known = get_or parts i d } ∷ [] → Recorded made j → Recorded made' i
  recorded_on i j n d made made' lt lt' ej p r =
      p
      ∙ ap (λ z. z ++ record { name = get_or names i n; known = get_or parts i d } ∷ []) r
      ∙ ap (λ z. backward (zipped (drop z names) (drop z parts)) ++ record { name = get_or names i n; known = get_or parts i d } ∷ []) ej
      ∙ ap (λ z. backward (zipped z (get_or parts i d ∷ drop (i + 1) parts))) (sym (one_more names i n lt))
      ∙ ap (λ z. backward (zipped (drop i names) z)) (sym (one_more parts i d lt'))

  pub recorded_end : (made made' : List Field) (j : ℕ) (row : Bor (List Field)) (s : Held_known) → length names ≡ length parts → j ≡ 0 → Recorded made j → IsSortedBy name_before made' → IsStableBy name_before made made' → row.now ≡ made' → s.form ≡ form.Record row → Recorded_to (texts names) (map known_of parts) (Ok s)
  recorded_end made made' j row s e ej r up stable q i = recorded_to (is_record (named_are (texts names) (map known_of parts) (length-map names (λ (x : Bor Text). x.now) ∙ e ∙ sym (length-map parts known_of))) (known_record s row i ∙ ap Record_known (ap (λ z. fields_known (map field_of z)) (q ∙ stably name_before names_rank (zipped names parts) made' up (subst (λ z. IsStableBy name_before z made') (r ∙ ap (λ z. backward (zipped (drop z names) (drop z parts))) ej) stable)) ∙ fields_ordered (zipped names parts) ∙ ap fields (pairs_are names parts))))
