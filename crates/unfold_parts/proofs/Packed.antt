-- Known data as one component, by its form.
use Rattle.std.proofs.Common.{◌≡◌, ℕ, ◌≤◌, List, [], ◌∷◌, map, length, take, Ok, Err, refl, sym, ap, ◌∙◌, subst, append-nil, le_refl}
use Rattle.std.specs.Borrow.{Bor}
use Rattle.std.specs.Prelude.{Result}
use Rattle.std.proofs.lemmas.List.{take_all}
use Rattle.fut_scalar.specs.declared.place.Place.{Place}
use Rattle.fut_ast.specs.Sorts.{Text}
use Rattle.fut_flat.specs.Erased.{texts}
use Rattle.fut_blocks.proofs.Layers.{action_of-Make}
use Rattle.fut_blocks.specs.declared.block.Act.TheVariants as act
use Rattle.fut_blocks.specs.declared.block.Atom.{Atom}
use Rattle.fut_blocks.specs.declared.block.Making.TheVariants as make
use Rattle.fut_blocks.specs.Plain.{Tuple, Read, Record_with, action_of, making_form}
use Rattle.unfold.proofs.Mirror.{known_scalar, known_tuple, known_record, field_is}
use Rattle.unfold.specs.Held.{known_of, field_of, fields_known}
use Rattle.unfold.specs.Knowns.{Known_fields, knowns}
use Rattle.unfold.specs.Unfolding.{field_names, field_knowns, Packs, Packs_all, p_atom, p_tuple, p_record}
use Rattle.unfold.specs.Unfolding.{Bindings}
use Rattle.unfold.specs.declared.known.Field.{Field}
use Rattle.unfold.specs.declared.known.Known.{Known as Held_known}
use Rattle.unfold.specs.declared.known.KnownForm.TheVariants as form
use Rattle.unfold_parts.specs.Answers.{answered, unanswered, Computed, Packed_to, All_packed_to, Record_packed_to}
use Rattle.unfold_parts.specs.Refused.{lost, Not_packed, Not_all_packed}
use Rattle.unfold_parts.specs.declared.refusal.Refusal.{Refusal}
use Rattle.unfold_parts.specs.declared.refusal.Refusal.TheVariants.{Lost}
use Rattle.unfold_parts.proofs.Forms.{by_form}
use Rattle.unfold_parts.proofs.Packs.{listed_knowns, tuple_unpacked, record_unpacked, stepped_on}
use Rattle.unfold_parts.proofs.Refusing.{refused_as}

module _ (s : Held_known) (n : ℕ) (before : Bindings) where
  pub atom_packed : (u : Atom) → s.form ≡ form.Scalar u → Packed_to (known_of s) n before before n (Ok u)
  atom_packed u is = answered [] (sym (append-nil before)) (subst (λ z. Packs z n [] u n) (sym (known_scalar s u is)) p_atom)

  pub tuple_packed : (ss : Bor (List Held_known)) (us : Bor (List Atom)) (at : Place) (mid next : ℕ) (between after : Bindings) (r : Result Atom Refusal) → s.form ≡ form.Tuple ss → All_packed_to (map known_of ss.now) n before between mid (Ok us) → Computed (action_of (act.Make make.Tuple at us)) mid between after next r → Packed_to (known_of s) n before after next r
  unfolding making_form
  tuple_packed ss us at mid next between after r is h k = subst (λ z. Packed_to z n before after next r) (sym (known_tuple s ss is))
      (stepped_on Tuple (map known_of ss.now) n mid next before between after us r (λ bs p. p_tuple (subst (λ z. Packs_all z n bs us.now mid) (sym (listed_knowns (map known_of ss.now))) p) (le_refl mid)) h (subst (λ z. Computed z mid between after next r) (action_of-Make make.Tuple at us) k))

  pub tuple_not_packed : (ss : Bor (List Held_known)) (mid next : ℕ) (between after : Bindings) (r : Refusal) → s.form ≡ form.Tuple ss → All_packed_to (map known_of ss.now) n before between mid (Err r) → Packed_to (known_of s) n before after next (Err r)
  tuple_not_packed ss mid next between after r is (unanswered h) = subst (λ z. Packed_to z n before after next (Err r)) (sym (known_tuple s ss is)) (unanswered (refused_as (λ lacks. tuple_unpacked (knowns (map known_of ss.now)) (subst Not_all_packed (sym (listed_knowns (map known_of ss.now))) lacks)) h))

  pub record_packed : (fs : Bor (List Field)) (next : ℕ) (after : Bindings) (r : Result Atom Refusal) → s.form ≡ form.Record fs → Record_packed_to (fields_known (map field_of fs.now)) n before after next r → Packed_to (known_of s) n before after next r
  record_packed fs next after r is h = subst (λ z. Packed_to z n before after next r) (sym (known_record s fs is)) h

  pub function_not_packed : (next : ℕ) (after : Bindings) → ((u : Atom) → s.form ≡ form.Scalar u → ⊥) → ((ss : Bor (List Held_known)) → s.form ≡ form.Tuple ss → ⊥) → ((fs : Bor (List Field)) → s.form ≡ form.Record fs → ⊥) → Packed_to (known_of s) n before after next (Err Lost)
  function_not_packed next after c t f = unanswered (lost (by_form s Not_packed (λ u is. absurd (c u is)) (λ ss is. absurd (t ss is)) (λ fs is. absurd (f fs is)) (λ ps e lo sc m m' bs u p. elim p [ ]) (λ p at ss m m' bs u q. elim q [ ])))

module _ (fs : Known_fields) (n : ℕ) (before : Bindings) where
  pub record_of : (names : Bor (List (Bor Text))) (parts : List Held_known) (us : Bor (List Atom)) (at : Place) (mid next : ℕ) (between after : Bindings) (r : Result Atom Refusal) → texts names.now ≡ field_names fs → map known_of parts ≡ field_knowns fs → All_packed_to (map known_of parts) n before between mid (Ok us) → Computed (action_of (act.Make (make.Record names) at us)) mid between after next r → Record_packed_to fs n before after next r
  unfolding making_form
  record_of names parts us at mid next between after r e f h k =
      stepped_on (λ us. Read (Record_with (field_names fs)) us) (map known_of parts) n mid next before between after us r (λ bs p. p_record (subst (λ z. Packs_all z n bs us.now mid) f p) (le_refl mid)) h (subst (λ z. Computed z mid between after next r) (action_of-Make (make.Record names) at us ∙ ap (λ z. Read (Record_with z) us.now) e) k)

  pub record_err : (parts : List Held_known) (mid next : ℕ) (between after : Bindings) (r : Refusal) → map known_of parts ≡ field_knowns fs → All_packed_to (map known_of parts) n before between mid (Err r) → Record_packed_to fs n before after next (Err r)
  record_err parts mid next between after r f (unanswered h) = unanswered (refused_as (λ lacks. record_unpacked fs (subst Not_all_packed f lacks)) h)

-- ---- the names and the values of fields

fields_names : (fs : List Field) → texts (map (λ (f : Field). f.name) fs) ≡ field_names (fields_known (map field_of fs))
unfolding fields_known
fields_names [] = refl
fields_names (f ∷ fs) = ap (λ z. f.name.now ∷ z) (fields_names fs) ∙ ap (λ z. z.0 ∷ field_names (fields_known (map field_of fs))) (sym (field_is f))

fields_values : (fs : List Field) → map known_of (map (λ (f : Field). f.known) fs) ≡ field_knowns (fields_known (map field_of fs))
unfolding fields_known
fields_values [] = refl
fields_values (f ∷ fs) = ap (λ z. known_of f.known ∷ z) (fields_values fs) ∙ ap (λ z. z.1 ∷ field_knowns (fields_known (map field_of fs))) (sym (field_is f))

pub names_are : (fs : List Field) (i : ℕ) (items : List (Bor Text)) (row : Bor (List (Bor Text))) → length fs ≤ i → items ≡ map (λ (f : Field). f.name) (take i fs) → row.now ≡ items → texts row.now ≡ field_names (fields_known (map field_of fs))
names_are fs i items row le e q = ap texts (q ∙ e ∙ ap (map (λ (f : Field). f.name)) (take_all i fs le)) ∙ fields_names fs

pub values_are : (fs : List Field) (i : ℕ) (items : List Held_known) (row : Bor (List Held_known)) → length fs ≤ i → items ≡ map (λ (f : Field). f.known) (take i fs) → row.now ≡ items → map known_of row.now ≡ field_knowns (fields_known (map field_of fs))
values_are fs i items row le e q = ap (map known_of) (q ∙ e ∙ ap (map (λ (f : Field). f.known)) (take_all i fs le)) ∙ fields_values fs
