-- Data has one shape, that of what is known of it; and what is not laid out like something, by its parts.
use Rattle.std.proofs.Common.{◌≡◌, ◌≢◌, ℕ, zero, suc, ◌<◌, refl, sym, ap, ◌∙◌, subst, arith, List, [], ◌∷◌, map, length, get_or, true, false}
use Rattle.std.proofs.lemmas.Slice.Eq.{bytes_eq-Decides}
use Rattle.std.specs.Str.{bytes_eq}
use Rattle.fut_ast.specs.Sorts.{Text}
use Rattle.fut_blocks.specs.declared.block.Atom.{Atom}
use Rattle.unfold.proofs.Mirror.{field_is}
use Rattle.unfold.specs.Held.{known_of, field_of, fields_known}
use Rattle.unfold.specs.Knowns.{Known, Knowns, Known_fields, knowns}
use Rattle.unfold.specs.Shapes.{Shape, Tuple_shape, Record_shape, Shapes, shape_and, Field_shapes, field_shape_and, Laid, laid_scalar, laid_tuple, laid_record, All_laid, laid_none, laid_more, Fields_laid, laid_no_field, laid_field}
use Rattle.unfold.specs.Stuck.{Not_laid, No_data}
use Rattle.unfold.specs.declared.known.Field.{Field}
use Rattle.unfold.specs.declared.known.Known.{Known as Held_known}
use Rattle.unfold_parts.specs.Layouts.{shape_of, shapes_of, field_shapes_of}
use Rattle.unfold_parts.proofs.Lacking.{Not_laid_out, Not_all_laid, Not_fields_laid, first_unlaid, rest_unlaid, name_unlaid, first_field_unlaid, rest_fields_unlaid}

mutual
  unfolding shape_of shapes_of field_shapes_of

  pub laid_shape : (h : Shape) (s : Known) (us rest : List Atom) → Laid h s us rest → h ≡ shape_of s
  laid_shape _ _ _ _ laid_scalar = refl
  laid_shape _ _ us rest (laid_tuple {hs = hs} {ss = ss} l) = ap Tuple_shape (all_laid_shapes hs ss us rest l)
  laid_shape _ _ us rest (laid_record {hs = hs} {fs = fs} l) = ap Record_shape (fields_laid_shapes hs fs us rest l)

  all_laid_shapes : (hs : Shapes) (ss : Knowns) (us rest : List Atom) → All_laid hs ss us rest → hs ≡ shapes_of ss
  all_laid_shapes _ _ _ _ laid_none = refl
  all_laid_shapes _ _ us rest (laid_more {h = h} {hs = hs} {s = s} {ss = ss} {ws = ws} l ls) = ap (λ x. shape_and x hs) (laid_shape h s us ws l) ∙ ap (shape_and (shape_of s)) (all_laid_shapes hs ss ws rest ls)

  fields_laid_shapes : (hs : Field_shapes) (fs : Known_fields) (us rest : List Atom) → Fields_laid hs fs us rest → hs ≡ field_shapes_of fs
  fields_laid_shapes _ _ _ _ laid_no_field = refl
  fields_laid_shapes _ _ us rest (laid_field {f = f} {h = h} {hs = hs} {s = s} {fs = fs} {ws = ws} l ls) = ap (λ x. field_shape_and f x hs) (laid_shape h s us ws l) ∙ ap (field_shape_and f (shape_of s)) (fields_laid_shapes hs fs ws rest ls)

-- what is not laid out by its own shape has none
pub no_data : (s : Known) → Not_laid (shape_of s) s → No_data s
no_data s lacks h us l = lacks us (subst (λ x. Laid x s us []) (laid_shape h s us [] l) l)

-- of another shape, from one on
pub not_laid : (h : Shape) (s : Known) → Not_laid_out h s → Not_laid h s
not_laid h s lacks us l = lacks us [] l

-- ---- parts
-- there are not as many of both
pub many_unlaid : (hs ss : List Held_known) → (length hs ≡ length ss → ⊥) → Not_all_laid (shapes_of (knowns (map known_of hs))) (knowns (map known_of ss))
unfolding shapes_of
many_unlaid [] [] e us rest l = e refl
many_unlaid [] (s ∷ ss) e us rest l = elim l [ ]
many_unlaid (h ∷ hs) [] e us rest l = elim l [ ]
many_unlaid (h ∷ hs) (s ∷ ss) e us rest l = rest_unlaid (shape_of (known_of h)) (shapes_of (knowns (map known_of hs))) (known_of s) (knowns (map known_of ss)) (many_unlaid hs ss (λ q. e (ap suc q))) us rest l

pub part_unlaid : (hs ss : List Held_known) (i : ℕ) (h s : Held_known) → i < length hs → i < length ss → Not_laid_out (shape_of (known_of (get_or hs i h))) (known_of (get_or ss i s)) → Not_all_laid (shapes_of (knowns (map known_of hs))) (knowns (map known_of ss))
unfolding shapes_of
part_unlaid [] ss i h s lt lt' lacks = absurd (let z : i < 0 = lt in omega (arith, z))
part_unlaid (x ∷ hs) [] i h s lt lt' lacks = absurd (let z : i < 0 = lt' in omega (arith, z))
part_unlaid (x ∷ hs) (y ∷ ss) zero h s lt lt' lacks = first_unlaid (shape_of (known_of x)) (shapes_of (knowns (map known_of hs))) (known_of y) (knowns (map known_of ss)) lacks
part_unlaid (x ∷ hs) (y ∷ ss) (suc i) h s lt lt' lacks = rest_unlaid (shape_of (known_of x)) (shapes_of (knowns (map known_of hs))) (known_of y) (knowns (map known_of ss)) (part_unlaid hs ss i h s (omega (arith, lt)) (omega (arith, lt')) lacks)

-- ---- fields

other_text : (f g : Text) → bytes_eq f g ≡ false → f ≢ g
other_text f g h e = let z : false ≡ true = sym h ∙ (bytes_eq-Decides f g).1 e in cc

abbrev Field_rests : List Field → List Field → Type 0
Field_rests hs fs = Not_fields_laid (field_shapes_of (fields_known (map field_of hs))) (fields_known (map field_of fs))

rest_fields : (h f : Field) (hs fs : List Field) → Field_rests hs fs → Field_rests (h ∷ hs) (f ∷ fs)
unfolding field_shapes_of fields_known
rest_fields h f hs fs lacks = rest_fields_unlaid (field_of h).0 (field_of f).0 (shape_of (field_of h).1) (field_shapes_of (fields_known (map field_of hs))) (field_of f).1 (fields_known (map field_of fs)) lacks

pub many_fields_unlaid : (hs fs : List Field) → (length hs ≡ length fs → ⊥) → Not_fields_laid (field_shapes_of (fields_known (map field_of hs))) (fields_known (map field_of fs))
unfolding field_shapes_of fields_known
many_fields_unlaid [] [] e us rest l = e refl
many_fields_unlaid [] (f ∷ fs) e us rest l = elim l [ ]
many_fields_unlaid (h ∷ hs) [] e us rest l = elim l [ ]
many_fields_unlaid (h ∷ hs) (f ∷ fs) e us rest l = rest_fields h f hs fs (many_fields_unlaid hs fs (λ q. e (ap suc q))) us rest l

pub field_name_unlaid : (hs fs : List Field) (i : ℕ) (h f : Field) → i < length hs → i < length fs → bytes_eq (get_or hs i h).name.now (get_or fs i f).name.now ≡ false → Not_fields_laid (field_shapes_of (fields_known (map field_of hs))) (fields_known (map field_of fs))
unfolding field_shapes_of fields_known
field_name_unlaid [] fs i h f lt lt' ne = absurd (let z : i < 0 = lt in omega (arith, z))
field_name_unlaid (x ∷ hs) [] i h f lt lt' ne = absurd (let z : i < 0 = lt' in omega (arith, z))
field_name_unlaid (x ∷ hs) (y ∷ fs) zero h f lt lt' ne = name_unlaid (field_of x).0 (field_of y).0 (shape_of (field_of x).1) (field_shapes_of (fields_known (map field_of hs))) (field_of y).1 (fields_known (map field_of fs)) (λ e. other_text x.name.now y.name.now ne (sym (ap (λ z. z.0) (field_is x)) ∙ e ∙ ap (λ z. z.0) (field_is y)))
field_name_unlaid (x ∷ hs) (y ∷ fs) (suc i) h f lt lt' ne = rest_fields x y hs fs (field_name_unlaid hs fs i h f (omega (arith, lt)) (omega (arith, lt')) ne)

pub field_unlaid : (hs fs : List Field) (i : ℕ) (h f : Field) → i < length hs → i < length fs → Not_laid_out (shape_of (known_of (get_or hs i h).known)) (known_of (get_or fs i f).known) → Not_fields_laid (field_shapes_of (fields_known (map field_of hs))) (fields_known (map field_of fs))
unfolding field_shapes_of fields_known
field_unlaid [] fs i h f lt lt' lacks = absurd (let z : i < 0 = lt in omega (arith, z))
field_unlaid (x ∷ hs) [] i h f lt lt' lacks = absurd (let z : i < 0 = lt' in omega (arith, z))
field_unlaid (x ∷ hs) (y ∷ fs) zero h f lt lt' lacks = first_field_unlaid (field_of x).0 (field_of y).0 (shape_of (field_of x).1) (field_shapes_of (fields_known (map field_of hs))) (field_of y).1 (fields_known (map field_of fs)) (subst (λ z. Not_laid_out (shape_of z.1) (field_of y).1) (sym (field_is x)) (subst (λ z. Not_laid_out (shape_of (known_of x.known)) z.1) (sym (field_is y)) lacks))
field_unlaid (x ∷ hs) (y ∷ fs) (suc i) h f lt lt' lacks = rest_fields x y hs fs (field_unlaid hs fs i h f (omega (arith, lt)) (omega (arith, lt')) lacks)
