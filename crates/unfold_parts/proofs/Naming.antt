-- New names for the components of data, one behind the other.
use Rattle.std.proofs.Common.{◌≡◌, ℕ, zero, suc, ◌+◌, ◌-◌, ◌<◌, ◌≤◌, ◌++◌, List, [], ◌∷◌, map, length, get_or, drop, Ok, Err, sym, ap, ◌∙◌, subst, append_assoc, append-nil, arith}
use Rattle.std.specs.Borrow.{Bor}
use Rattle.std.specs.Prelude.{IfOk, Result}
use Rattle.std.proofs.lemmas.List.{drop_all, map-append}
use Rattle.fut_ast.specs.Sorts.{Text}
use Rattle.fut_blocks.specs.Numbered.{Upward}
use Rattle.fut_blocks.specs.declared.block.Atom.{Atom}
use Rattle.fut_blocks.specs.declared.block.Atom.TheVariants as atom
use Rattle.unfold.proofs.Mirror.{known_scalar, known_tuple, known_record, field_is}
use Rattle.unfold.specs.Held.{known_of, field_of, fields_known}
use Rattle.unfold.specs.Knowns.{Known, knowns}
use Rattle.unfold.specs.Shapes.{Scalar_shape, Tuple_shape, Record_shape, Laid, laid_scalar, laid_tuple, laid_record, All_laid, laid_none, laid_more, Fields_laid, laid_no_field, laid_field}
use Rattle.unfold.specs.Unfolding.{names}
use Rattle.unfold.specs.declared.known.Field.{Field}
use Rattle.unfold.specs.declared.known.Known.{Known as Held_known}
use Rattle.unfold.specs.declared.known.KnownForm.TheVariants as form
use Rattle.unfold_parts.specs.Layouts.{shape_of, shapes_of, field_shapes_of, numbers_from, Has_names, has_names, Renewed, renewed, not_renewed}
use Rattle.unfold_parts.specs.Refused.{Refused}
use Rattle.unfold_parts.specs.declared.fresh.Fresh.{Fresh}
use Rattle.unfold_parts.specs.declared.refusal.Refusal.{Refusal}
use Rattle.unfold_parts.proofs.Lacking.{Not_laid_out, Not_all_laid, Not_fields_laid, parts_unlaid, fields_unlaid}
use Rattle.unfold_parts.proofs.Lists.{one_more}
use Rattle.unfold_parts.proofs.Refusing.{refused_as}
use Rattle.unfold_parts.proofs.Shapeless.{no_data, not_laid, part_unlaid, field_unlaid}

-- ---- numbers

last_number : (n k : ℕ) → numbers_from n (k + 1) ≡ numbers_from n k ++ (n + k) ∷ []
last_number n zero = let e : n ≡ n + 0 = omega arith in ap (λ z. z ∷ []) e
last_number n (suc k) = let e : suc n + k ≡ n + suc k = omega arith in let q : suc k + 1 ≡ suc (k + 1) = omega arith in ap (numbers_from n) q ∙ ap (λ z. n ∷ z) (last_number (suc n) k ∙ ap (λ z. numbers_from (suc n) k ++ z ∷ []) e)

pub number_more : (first name : ℕ) → first ≤ name → numbers_from first (name + 1 - first) ≡ numbers_from first (name - first) ++ name ∷ []
number_more first name le = let e : name + 1 - first ≡ (name - first) + 1 = omega (arith, le) in let q : first + (name - first) ≡ name = omega (arith, le) in ap (numbers_from first) e ∙ last_number first (name - first) ∙ ap (λ z. numbers_from first (name - first) ++ z ∷ []) q

numbers_more : (n j k : ℕ) → numbers_from n (j + k) ≡ numbers_from n j ++ numbers_from (n + j) k
numbers_more n zero k = let e : n ≡ n + 0 = omega arith in let q : 0 + k ≡ k = omega arith in ap (numbers_from n) q ∙ ap (λ z. numbers_from z k) e
numbers_more n (suc j) k = let e : suc n + j ≡ n + suc j = omega arith in let q : suc j + k ≡ suc (j + k) = omega arith in ap (numbers_from n) q ∙ ap (λ z. n ∷ z) (numbers_more (suc n) j k ∙ ap (λ z. numbers_from (suc n) j ++ numbers_from z k) e)

pub upward : (n k : ℕ) → Upward n (numbers_from n k) (n + k)
upward n zero = omega arith
upward n (suc k) = let e : suc n + k ≡ n + suc k = omega arith in (omega arith, subst (Upward (suc n) (numbers_from (suc n) k)) e (upward (suc n) k))

pub renewed_ok : (h : Known) (n next : ℕ) (r : Fresh) → Has_names (Laid (shape_of h) (known_of r.known)) n next → r.names.now ≡ numbers_from n (next - n) → Renewed h n next (Ok r)
renewed_ok h n next r (has_names k e f) q =
    let i : next - n ≡ k = omega (arith, e) in
    let all : r.names.now ≡ numbers_from n k = q ∙ ap (numbers_from n) i in
    renewed
    (subst (λ z. Upward n z next) (sym all) (subst (Upward n (numbers_from n k)) (sym e) (upward n k)))
    (subst (λ z. Laid (shape_of h) (known_of r.known) (names z) []) (sym all) (subst (λ z. Laid (shape_of h) (known_of r.known) z []) (append-nil (names (numbers_from n k))) (f [])))

pub renewed_err : (s : Known) (n next : ℕ) (r : Refusal) → Refused (Not_laid_out (shape_of s) s) r → Renewed s n next (Err r)
renewed_err s n next r h = not_renewed (refused_as (λ lacks. no_data s (not_laid (shape_of s) s lacks)) h)

-- ---- by form

pub scalar_named : (n next : ℕ) (s : Held_known) → s.form ≡ form.Scalar (atom.Name n) → next ≡ n + 1 → Has_names (Laid Scalar_shape (known_of s)) n next
scalar_named n next s i e = has_names 1 e (λ rest. subst (λ z. Laid Scalar_shape z (atom.Name n ∷ rest) rest) (sym (known_scalar s _ i)) laid_scalar)

pub scalar_like : (like : Held_known) (u : Atom) (n next : ℕ) (r : Result Held_known Refusal) → like.form ≡ form.Scalar u → IfOk r (λ (s : Held_known). Has_names (Laid Scalar_shape (known_of s)) n next) → IfOk r (λ (s : Held_known). Has_names (Laid (shape_of (known_of like)) (known_of s)) n next)
unfolding shape_of
scalar_like like u n next r i h = subst (λ z. IfOk r (λ (s : Held_known). Has_names (Laid (shape_of z) (known_of s)) n next)) (sym (known_scalar like u i)) h

module _ (like s : Held_known) (n next : ℕ) where
  pub tuple_named : (likes parts : Bor (List Held_known)) → like.form ≡ form.Tuple likes → s.form ≡ form.Tuple parts → Has_names (All_laid (shapes_of (knowns (map known_of likes.now))) (knowns (map known_of parts.now))) n next → Has_names (Laid (shape_of (known_of like)) (known_of s)) n next
  unfolding shape_of
  tuple_named likes parts i j (has_names k e f) = has_names k e (λ rest. subst (λ z. Laid (shape_of z) (known_of s) (names (numbers_from n k) ++ rest) rest) (sym (known_tuple like likes i)) (subst (λ z. Laid (Tuple_shape (shapes_of (knowns (map known_of likes.now)))) z (names (numbers_from n k) ++ rest) rest) (sym (known_tuple s parts j)) (laid_tuple (f rest))))

  pub record_named : (likes fields : Bor (List Field)) → like.form ≡ form.Record likes → s.form ≡ form.Record fields → Has_names (Fields_laid (field_shapes_of (fields_known (map field_of likes.now))) (fields_known (map field_of fields.now))) n next → Has_names (Laid (shape_of (known_of like)) (known_of s)) n next
  unfolding shape_of
  record_named likes fields i j (has_names k e f) = has_names k e (λ rest. subst (λ z. Laid (shape_of z) (known_of s) (names (numbers_from n k) ++ rest) rest) (sym (known_record like likes i)) (subst (λ z. Laid (Record_shape (field_shapes_of (fields_known (map field_of likes.now)))) z (names (numbers_from n k) ++ rest) rest) (sym (known_record s fields j)) (laid_record (f rest))))

-- ---- what has no components

module _ (like : Held_known) where
  abbrev pub Shapeless : Refusal → Type 0
  Shapeless = Refused (Not_laid_out (shape_of (known_of like)) (known_of like))

  pub tuple_unnamed : (likes : Bor (List Held_known)) (r : Refusal) → like.form ≡ form.Tuple likes → Refused (Not_all_laid (shapes_of (knowns (map known_of likes.now))) (knowns (map known_of likes.now))) r → Shapeless r
  unfolding shape_of
  tuple_unnamed likes r i h = refused_as (λ lacks. subst (λ z. Not_laid_out (shape_of z) z) (sym (known_tuple like likes i)) (parts_unlaid (shapes_of (knowns (map known_of likes.now))) (knowns (map known_of likes.now)) lacks)) h

  pub record_unnamed : (likes : Bor (List Field)) (r : Refusal) → like.form ≡ form.Record likes → Refused (Not_fields_laid (field_shapes_of (fields_known (map field_of likes.now))) (fields_known (map field_of likes.now))) r → Shapeless r
  unfolding shape_of
  record_unnamed likes r i h = refused_as (λ lacks. subst (λ z. Not_laid_out (shape_of z) z) (sym (known_record like likes i)) (fields_unlaid (field_shapes_of (fields_known (map field_of likes.now))) (fields_known (map field_of likes.now)) lacks)) h

pub all_unnamed : (likes : List Held_known) (i : ℕ) (d : Held_known) (r : Refusal) → i < length likes → Shapeless (get_or likes i d) r → Refused (Not_all_laid (shapes_of (knowns (map known_of likes))) (knowns (map known_of likes))) r
all_unnamed likes i d r lt h = refused_as (part_unlaid likes likes i d d lt lt) h

pub fields_unnamed : (likes : List Field) (i : ℕ) (d : Field) (r : Refusal) → i < length likes → Shapeless (get_or likes i d).known r → Refused (Not_fields_laid (field_shapes_of (fields_known (map field_of likes))) (fields_known (map field_of likes))) r
fields_unnamed likes i d r lt h = refused_as (field_unlaid likes likes i d d lt lt) h

-- ---- parts, one after the other

-- what is named of the parts from one on leads to all of them
pub data Names_lead {X : Type 0} (Is Then : List X → List Atom → List Atom → Type 0) (n next : ℕ) (made : List X) : Type 0 where
  names_lead : (k : ℕ) → next ≡ n + k → ((ts : List X) (ws rest : List Atom) → Then ts ws rest → Is (made ++ ts) (names (numbers_from n k) ++ ws) rest) → Names_lead Is Then n next made

module _ {X : Type 0} (Is Then : List X → List Atom → List Atom → Type 0) (n : ℕ) where
  lead_start : Names_lead Is Is n n []
  lead_start = names_lead 0 (omega arith) (λ ts ws rest h. h)

  lead_on : (Rest : List X → List Atom → List Atom → Type 0) (Part : List Atom → List Atom → Type 0) (mid next : ℕ) (made : List X) (x : X) → ((us ws rest : List Atom) (ts : List X) → Part us ws → Rest ts ws rest → Then (x ∷ ts) us rest) → Has_names Part mid next → Names_lead Is Then n mid made → Names_lead Is Rest n next (made ++ x ∷ [])
  lead_on Rest Part mid next made x g (has_names j q p) (names_lead k e f) = names_lead (k + j) (omega (arith, q, e)) all
    where
      split : (ws : List Atom) → names (numbers_from n k) ++ (names (numbers_from mid j) ++ ws) ≡ names (numbers_from n (k + j)) ++ ws
      split ws = ap (λ z. names (numbers_from n k) ++ (names (numbers_from z j) ++ ws)) e ∙ sym (append_assoc (names (numbers_from n k)) (names (numbers_from (n + k) j)) ws) ∙ ap (λ z. z ++ ws) (sym (map-append atom.Name (numbers_from n k) (numbers_from (n + k) j))) ∙ ap (λ z. names z ++ ws) (sym (numbers_more n k j))

      all : (ts : List X) (ws rest : List Atom) → Rest ts ws rest → Is ((made ++ x ∷ []) ++ ts) (names (numbers_from n (k + j)) ++ ws) rest
      all ts ws rest h = subst (λ z. Is z (names (numbers_from n (k + j)) ++ ws) rest) (sym (append_assoc made (x ∷ []) ts)) (subst (λ z. Is (made ++ x ∷ ts) z rest) (split ws) (f (x ∷ ts) (names (numbers_from mid j) ++ ws) rest (g _ ws rest ts (p ws) h)))

  lead_end : (next : ℕ) (made : List X) → ((rest : List Atom) → Then [] rest rest) → Names_lead Is Then n next made → Has_names (Is made) n next
  lead_end next made g (names_lead k e f) = has_names k e (λ rest. subst (λ z. Is z (names (numbers_from n k) ++ rest) rest) (append-nil made) (f [] rest rest (g rest)))

module _ (likes : List Held_known) where
  abbrev pub All_named : ℕ → List Known → List Atom → List Atom → Type 0
  All_named i ts us rest = All_laid (shapes_of (knowns (map known_of (drop i likes)))) (knowns ts) us rest

  pub all_named_start : (n : ℕ) → Names_lead (All_named 0) (All_named 0) n n (map known_of [])
  all_named_start n = lead_start (All_named 0) (All_named 0) n

  pub all_named_on : (i n mid next : ℕ) (d s : Held_known) (items items' : List Held_known) → i < length likes → Names_lead (All_named 0) (All_named i) n mid (map known_of items) → Has_names (Laid (shape_of (known_of (get_or likes i d))) (known_of s)) mid next → items' ≡ items ++ s ∷ [] → Names_lead (All_named 0) (All_named (i + 1)) n next (map known_of items')
  unfolding shapes_of
  all_named_on i n mid next d s items items' lt l h e = subst (Names_lead (All_named 0) (All_named (i + 1)) n next) (sym (ap (map known_of) e ∙ map-append known_of items (s ∷ []))) (lead_on (All_named 0) (All_named i) n (All_named (i + 1)) (Laid (shape_of (known_of (get_or likes i d))) (known_of s)) mid next (map known_of items) (known_of s) (λ us ws rest ts p q. subst (λ z. All_laid (shapes_of (knowns (map known_of z))) (knowns (known_of s ∷ ts)) us rest) (sym (one_more likes i d lt)) (laid_more p q)) h l)

  pub all_named_end : (i n next : ℕ) (items : List Held_known) (parts : Bor (List Held_known)) → length likes ≤ i → Names_lead (All_named 0) (All_named i) n next (map known_of items) → parts.now ≡ items → Has_names (All_laid (shapes_of (knowns (map known_of likes))) (knowns (map known_of parts.now))) n next
  unfolding shapes_of
  all_named_end i n next items parts le l e = subst (λ z. Has_names (All_laid (shapes_of (knowns (map known_of likes))) (knowns (map known_of z))) n next) (sym e) (lead_end (All_named 0) (All_named i) n next (map known_of items) (λ rest. subst (λ z. All_laid (shapes_of (knowns (map known_of z))) (knowns []) rest rest) (sym (drop_all i likes le)) laid_none) l)

module _ (likes : List Field) where
  abbrev pub Fields_named : ℕ → List (Text × Known) → List Atom → List Atom → Type 0
  Fields_named i ts us rest = Fields_laid (field_shapes_of (fields_known (map field_of (drop i likes)))) (fields_known ts) us rest

  pub fields_named_start : (n : ℕ) → Names_lead (Fields_named 0) (Fields_named 0) n n (map field_of [])
  fields_named_start n = lead_start (Fields_named 0) (Fields_named 0) n

  pub fields_named_on : (i n mid next : ℕ) (d : Field) (f : Field) (items items' : List Field) → i < length likes → f.name.now ≡ (get_or likes i d).name.now → Names_lead (Fields_named 0) (Fields_named i) n mid (map field_of items) → Has_names (Laid (shape_of (known_of (get_or likes i d).known)) (known_of f.known)) mid next → items' ≡ items ++ f ∷ [] → Names_lead (Fields_named 0) (Fields_named (i + 1)) n next (map field_of items')
  unfolding field_shapes_of fields_known
  fields_named_on i n mid next d f items items' lt same l h e = subst (Names_lead (Fields_named 0) (Fields_named (i + 1)) n next) (sym (ap (map field_of) e ∙ map-append field_of items (f ∷ []))) (lead_on (Fields_named 0) (Fields_named i) n (Fields_named (i + 1)) (Laid (shape_of (known_of (get_or likes i d).known)) (known_of f.known)) mid next (map field_of items) (field_of f) (λ us ws rest ts p q. subst (λ z. Fields_laid (field_shapes_of (fields_known (map field_of z))) (fields_known (field_of f ∷ ts)) us rest) (sym (one_more likes i d lt)) (one (get_or likes i d) same us ws rest ts p q)) h l)
    where
      one : (g : Field) → f.name.now ≡ g.name.now → (us ws rest : List Atom) (ts : List (Text × Known)) → Laid (shape_of (known_of g.known)) (known_of f.known) us ws → Fields_laid (field_shapes_of (fields_known (map field_of (drop (i + 1) likes)))) (fields_known ts) ws rest → Fields_laid (field_shapes_of (fields_known (map field_of (g ∷ drop (i + 1) likes)))) (fields_known (field_of f ∷ ts)) us rest
      one g same us ws rest ts p q = subst (λ z. Fields_laid (field_shapes_of (fields_known (z ∷ map field_of (drop (i + 1) likes)))) (fields_known (field_of f ∷ ts)) us rest) (sym (field_is g)) (subst (λ z. Fields_laid (field_shapes_of (fields_known ((g.name.now, known_of g.known) ∷ map field_of (drop (i + 1) likes)))) (fields_known (z ∷ ts)) us rest) (sym (field_is f ∙ ap (λ z. (z, known_of f.known)) same)) (laid_field p q))

  pub fields_named_end : (i n next : ℕ) (items : List Field) (fields : Bor (List Field)) → length likes ≤ i → Names_lead (Fields_named 0) (Fields_named i) n next (map field_of items) → fields.now ≡ items → Has_names (Fields_laid (field_shapes_of (fields_known (map field_of likes))) (fields_known (map field_of fields.now))) n next
  unfolding field_shapes_of fields_known
  fields_named_end i n next items fields le l e = subst (λ z. Has_names (Fields_laid (field_shapes_of (fields_known (map field_of likes))) (fields_known (map field_of z))) n next) (sym e) (lead_end (Fields_named 0) (Fields_named i) n next (map field_of items) (λ rest. subst (λ z. Fields_laid (field_shapes_of (fields_known (map field_of z))) (fields_known []) rest rest) (sym (drop_all i likes le)) laid_no_field) l)
