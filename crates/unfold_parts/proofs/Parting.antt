-- Parts of values, by how many there are.
use Rattle.std.proofs.Common.{◌≡◌, ℕ, List, [], ◌∷◌, map, length, get_or, Option, Some, None, refl, sym, ap, ◌∙◌, arith}
use Rattle.std.specs.Borrow.{Bor}
use Rattle.std.proofs.lemmas.List.{length-map}
use mathlib.Core.List.{head-eq_of_cons-eq, tail-eq_of_cons-eq}
use Rattle.fut_ast.specs.Sorts.{Text}
use Rattle.fut_blocks.specs.declared.block.Atom.{Atom}
use Rattle.fut_positions.specs.Positions.{Spelled}
use Rattle.fut_positions.proofs.Taken.{taken, none_taken}
use Rattle.unfold.proofs.Mirror.{known_scalar, known_tuple, known_record}
use Rattle.unfold.specs.Held.{known_of, field_of, fields_known}
use Rattle.unfold.specs.Knowns.{Known, Scalar_known, knowns, field, part, part_from}
use Rattle.unfold.specs.declared.known.Field.{Field}
use Rattle.unfold.specs.declared.known.Known.{Known as Held_known}
use Rattle.unfold.specs.declared.known.KnownForm.TheVariants as form
use Rattle.unfold_parts.specs.Parts.{Not_one, Is_scalar, a_scalar, no_scalar, Is_one_scalar, one_scalar, not_one_scalar, Is_two_scalars, two_scalars, not_two_scalars}
use Rattle.unfold_parts.specs.declared.parts.Scalars.{Scalars}
use Rattle.unfold_parts.specs.Held.{maybe_held}
use Rattle.unfold_parts.proofs.Forms.{by_form, form_no_scalar}

pub one_is : (ss : List Held_known) (d : Held_known) → length ss ≡ 1 → map known_of ss ≡ known_of (get_or ss 0 d) ∷ []
one_is [] d e = absurd (omega (arith, e))
one_is (x ∷ []) d e = refl
one_is (x ∷ y ∷ ss) d e = absurd (omega (arith, e))

pub not_one : (ss : List Held_known) → (length ss ≡ 1 → ⊥) → Not_one (map known_of ss)
not_one ss h s e = h (sym (length-map ss known_of) ∙ ap length e)

pub two_are : (ss : List Held_known) (d e : Held_known) → length ss ≡ 2 → map known_of ss ≡ known_of (get_or ss 0 d) ∷ known_of (get_or ss 1 e) ∷ []
two_are [] d e q = absurd (omega (arith, q))
two_are (x ∷ []) d e q = absurd (omega (arith, q))
two_are (x ∷ y ∷ []) d e q = refl
two_are (x ∷ y ∷ w ∷ ss) d e q = absurd (omega (arith, q))

pub scalar_ok : (s : Held_known) (u : Atom) → s.form ≡ form.Scalar u → Is_scalar (known_of s) (Some u)
scalar_ok s u e = a_scalar (known_scalar s u e)

pub scalar_none : (s : Held_known) → ((u : Atom) → s.form ≡ form.Scalar u → ⊥) → Is_scalar (known_of s) None
scalar_none s h = no_scalar (form_no_scalar s h)

pub one_scalar_is : (ss : List Held_known) (d : Held_known) (o : Option Atom) → length ss ≡ 1 → Is_scalar (known_of (get_or ss 0 d)) o → Is_one_scalar (map known_of ss) o
one_scalar_is ss d (Some u) i (a_scalar q) = one_scalar (one_is ss d i ∙ ap (λ z. z ∷ []) q)
one_scalar_is ss d None i (no_scalar lacks) = not_one_scalar (λ u q. lacks u (head-eq_of_cons-eq (sym (one_is ss d i) ∙ q)))

pub one_scalar_many : (ss : List Held_known) → (length ss ≡ 1 → ⊥) → Is_one_scalar (map known_of ss) None
one_scalar_many ss h = not_one_scalar (λ u e. h (sym (length-map ss known_of) ∙ ap length e))

pub two_scalars_ok : (ss : List Held_known) (d e : Held_known) (q : Scalars) → length ss ≡ 2 → Is_scalar (known_of (get_or ss 0 d)) (Some q.first) → Is_scalar (known_of (get_or ss 1 e)) (Some q.second) → Is_two_scalars (map known_of ss) (Some q)
two_scalars_ok ss d e q i (a_scalar f) (a_scalar g) = two_scalars (two_are ss d e i ∙ ap (λ z. z ∷ known_of (get_or ss 1 e) ∷ []) f ∙ ap (λ z. Scalar_known q.first ∷ z ∷ []) g)

-- another number of parts, or a part that is no scalar
module _ (ss : List Held_known) where
  pub two_scalars_many : (length ss ≡ 2 → ⊥) → Is_two_scalars (map known_of ss) None
  two_scalars_many h = not_two_scalars (λ u w e. h (sym (length-map ss known_of) ∙ ap length e))

  pub two_scalars_first : (d : Held_known) → length ss ≡ 2 → Is_scalar (known_of (get_or ss 0 d)) None → Is_two_scalars (map known_of ss) None
  two_scalars_first d i (no_scalar lacks) = not_two_scalars (λ u w q. lacks u (head-eq_of_cons-eq (sym (two_are ss d d i) ∙ q)))

  pub two_scalars_second : (d : Held_known) → length ss ≡ 2 → Is_scalar (known_of (get_or ss 1 d)) None → Is_two_scalars (map known_of ss) None
  two_scalars_second d i (no_scalar lacks) = not_two_scalars (λ u w q. lacks w (head-eq_of_cons-eq (tail-eq_of_cons-eq (sym (two_are ss d d i) ∙ q))))

-- ---- the parts of a tuple

pub part_tuple : (name : Text) (s : Held_known) (ss : Bor (List Held_known)) (o : Option (Bor Held_known)) → s.form ≡ form.Tuple ss → maybe_held o ≡ part_from 0 name (knowns (map known_of ss.now)) → maybe_held o ≡ part name (known_of s)
part_tuple name s ss o i h = h ∙ sym (ap (part name) (known_tuple s ss i))

pub part_record : (name : Text) (s : Held_known) (fs : Bor (List Field)) (o : Option (Bor Held_known)) → s.form ≡ form.Record fs → maybe_held o ≡ field name (fields_known (map field_of fs.now)) → maybe_held o ≡ part name (known_of s)
part_record name s fs o i h = h ∙ sym (ap (part name) (known_record s fs i))

-- what is no tuple and no record has no parts
pub part_none : (name : Text) (s : Held_known) → ((ss : Bor (List Held_known)) → s.form ≡ form.Tuple ss → ⊥) → ((fs : Bor (List Field)) → s.form ≡ form.Record fs → ⊥) → None ≡ part name (known_of s)
part_none name s t r = by_form s (λ k. None ≡ part name k) (λ u is. refl) (λ ss is. absurd (t ss is)) (λ fs is. absurd (r fs is)) (λ ps e lo sc. refl) (λ p at ss. refl)

module _ (name : Text) (ss : List Held_known) where
  abbrev parts_from : ℕ → List Held_known → Option Known
  parts_from k held = part_from k name (knowns (map known_of held))

  pub part_there : (at : ℕ) (d : Held_known) → Spelled name (length ss) (Some at) → Some (known_of (get_or ss at d)) ≡ parts_from 0 ss
  part_there at d s = sym (taken name known_of parts_from (λ k. refl) (λ k x xs. refl) at ss d s)

  pub part_nowhere : Spelled name (length ss) None → None ≡ parts_from 0 ss
  part_nowhere s = sym (none_taken name known_of parts_from (λ k. refl) (λ k x xs. refl) ss s)
