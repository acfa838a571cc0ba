-- The components of parameters that have no star, form by form.
use Rattle.std.proofs.Common.{◌≡◌, ℕ, zero, suc, ◌+◌, ◌<◌, ◌≤◌, ◌^◌, List, [], ◌∷◌, ◌++◌, map, length, get_or, drop, min, true, Option, Some, None, refl, sym, ap, ◌∙◌, arith}
use Rattle.std.specs.Borrow.{Bor}
use Rattle.fut_ast.specs.Sorts.{Text}
use Rattle.fut_scalar.specs.declared.place.BindId.{BindId}
use Rattle.fut_flat.specs.declared.pat.Pat.{Pat}
use Rattle.fut_flat.specs.declared.pat.PatField.{PatField}
use Rattle.fut_flat.specs.declared.pat.PatForm.TheVariants as form
use Rattle.fut_flat.specs.declared.prim.Ref.{Ref}
use Rattle.fut_flat.specs.declared.ty.TypeExp.{TypeExp}
use Rattle.fut_flat.specs.Terms.{Bound_pattern, Wild_pattern, Tuple_pattern, Record_pattern, Typed_pattern, Patterns, no_pattern, pattern_and}
use Rattle.fut_flat.specs.Erased.{FlatPattern, FlatType, pattern_of, patterns, type_of as written_type}
use Rattle.fut_flat.specs.Numbers.{pattern_numbers}
use Rattle.fut_flat.proofs.ErasedPatterns.{pattern_bound, pattern_wild, pattern_tuple, pattern_typed}
use Rattle.fut_types.specs.declared.Head.{Head}
use Rattle.fut_types.specs.Types.{Sub, Kinds}
use Rattle.fut_types.specs.Shapes.{Tells_position, place}
use Rattle.fut_typing.specs.Names.{Names}
use Rattle.flat_numbers.specs.Fields.{field_patterns}
use Rattle.fut_aliases.specs.Aliases.{Naming, Set, union}
use Rattle.fut_aliases.specs.Looking.{all_kept as parameters_kept, parameter_value}
use Rattle.fut_aliases.specs.Patterns.{kept, all_kept, fields_kept, pattern_stars}
use Rattle.fut_aliases.specs.Stars.{Stars, Leaf, Arrow, Row, StarRow, star_and, no_star, star_at}
use Rattle.fut_aliases.specs.Values.{Value, Scalar, Array, Function, Parts, Values, no_value, all_of, left, named, part_named}
use Rattle.alias_values.specs.Components.{onto}
use Rattle.alias_values.specs.declared.trees.StarTree.{StarTree}
use Rattle.alias_values.specs.declared.trees.ValueTree.{ValueTree}
use Rattle.alias_values.specs.Trees.{row_of, stars_of, value_of, values_of}
use Rattle.alias_values.proofs.Rows.{drop_past, one_more, stars_at, stars_end, values_at, values_end}
use Rattle.alias_parts.proofs.PartForms.{star_past}
use Rattle.alias_patterns.specs.Fields.{field_names}
use Rattle.alias_patterns.specs.Heads.{Row_parts}
use Rattle.alias_patterns.specs.Placing.{sets_of}
use Rattle.alias_patterns.specs.declared.forms.RowParts.{RowParts}
use Rattle.alias_patterns.proofs.Fields.{names_at, names_end, patterns_at, patterns_end, record_pattern}

-- ---- sets one after another

onto_none : (ss : List Set) → onto ss [] ≡ all_of ss
onto_none [] = refl
onto_none (s ∷ ss) = ap (union s) (onto_none ss)

onto_more : (ss : List (Bor Set)) (s : Bor Set) (t : Set) → onto (sets_of (ss ++ s ∷ [])) t ≡ onto (sets_of ss) (union s.now t)
onto_more [] s t = refl
onto_more (r ∷ ss) s t = ap (union r.now) (onto_more ss s t)

module _ (ss : List (Bor Set)) where
  abbrev pub Sets_from : ℕ → Set → Type 0
  Sets_from i all = all ≡ all_of (sets_of (drop i ss))

  pub sets_none : (i : ℕ) (all : Set) → length ss ≤ i → all ≡ [] → Sets_from i all
  sets_none i all l e = e ∙ sym (ap (λ z. all_of (sets_of z)) (drop_past ss i l))

  pub sets_more : (i j : ℕ) (all next : Set) (s : Bor Set) → i ≡ j + 1 → i ≤ length ss → Sets_from i all → next ≡ union (get_or ss j s).now all → Sets_from j next
  sets_more i j all next s ij l h e = e ∙ ap (union (get_or ss j s).now) (h ∙ ap (λ z. all_of (sets_of (drop z ss))) ij) ∙ sym (ap (λ z. all_of (sets_of z)) (one_more ss j s (omega (arith, ij, l))))

module _ (naming : Naming) (N : Names) (types : Sub) where
  name_kept : (b : BindId) (q : ℕ) (u : Stars) (v : Value) → left u (named naming true q b 0 v) ≡ kept naming N types (Bound_pattern b) q u v
  unfolding kept
  name_kept b q u v = refl

  none_kept : (q : ℕ) (u : Stars) (v : Value) → [] ≡ kept naming N types Wild_pattern q u v
  unfolding kept
  none_kept q u v = refl

  tuple_kept : (ps : Patterns Ref BindId) (q : ℕ) (us : StarRow) (h : Head) (vs : Values) → all_kept naming N types ps (1 + q) us vs ≡ kept naming N types (Tuple_pattern ps) q (Row us) (Parts h vs)
  unfolding kept all_kept
  tuple_kept ps q us h vs = refl

  record_kept : (fs : List Text) (ps : Patterns Ref BindId) (q : ℕ) (us : StarRow) (h : Head) (vs : Values) → fields_kept naming N types fs ps (1 + q) h us vs ≡ kept naming N types (Record_pattern fs ps) q (Row us) (Parts h vs)
  unfolding kept fields_kept
  record_kept fs ps q us h vs = refl

  no_tuple_kept : (ps : Patterns Ref BindId) (q : ℕ) (u : Stars) (v : Value) → Row_parts u v None → [] ≡ kept naming N types (Tuple_pattern ps) q u v
  unfolding kept
  no_tuple_kept ps q (Leaf b) v n = refl
  no_tuple_kept ps q (Arrow b p r) v n = refl
  no_tuple_kept ps q (Row us) Scalar n = refl
  no_tuple_kept ps q (Row us) (Array s) n = refl
  no_tuple_kept ps q (Row us) (Function s u) n = refl
  no_tuple_kept ps q (Row us) (Parts h vs) n = absurd (n us h vs refl refl)

  no_record_kept : (fs : List Text) (ps : Patterns Ref BindId) (q : ℕ) (u : Stars) (v : Value) → Row_parts u v None → [] ≡ kept naming N types (Record_pattern fs ps) q u v
  unfolding kept
  no_record_kept fs ps q (Leaf b) v n = refl
  no_record_kept fs ps q (Arrow b p r) v n = refl
  no_record_kept fs ps q (Row us) Scalar n = refl
  no_record_kept fs ps q (Row us) (Array s) n = refl
  no_record_kept fs ps q (Row us) (Function s u) n = refl
  no_record_kept fs ps q (Row us) (Parts h vs) n = absurd (n us h vs refl refl)

  typed_kept : (p : FlatPattern) (e : FlatType) (q : ℕ) (u : Stars) (v : Value) → kept naming N types p q u v ≡ kept naming N types (Typed_pattern p e) q u v
  unfolding kept
  typed_kept p e q u v = refl

  -- ---- one pattern

  module _ (p : Pat) (q : ℕ) (u : Stars) (v : Value) (all : Set) where
    abbrev pub Keeps : Type 0
    Keeps = all ≡ kept naming N types (pattern_of p) q u v

    by_form : (o : FlatPattern) → pattern_of p ≡ o → all ≡ kept naming N types o q u v → Keeps
    by_form o e h = h ∙ sym (ap (λ z. kept naming N types z q u v) e)

    by_parts : (o : FlatPattern) (w : Stars) (x : Value) → pattern_of p ≡ o → u ≡ w → v ≡ x → all ≡ kept naming N types o q w x → Keeps
    by_parts o w x e i j h = by_form o e (h ∙ sym (ap (λ z. kept naming N types o q z x) i) ∙ sym (ap (λ z. kept naming N types o q u z) j))

    pub keeps_name : (b : BindId) (own : Value) → p.form ≡ form.Bound b → own ≡ named naming true q b 0 v → all ≡ left u own → Keeps
    keeps_name b own is o e = by_form _ (pattern_bound p b is) (e ∙ ap (left u) o ∙ name_kept b q u v)

    pub keeps_none : p.form ≡ form.Wild → all ≡ [] → Keeps
    keeps_none is e = by_form _ (pattern_wild p is) (e ∙ none_kept q u v)

    pub keeps_parts : (ps : Bor (List Pat)) (r : RowParts) (first : ℕ) → p.form ≡ form.Tuple ps → Row_parts u v (Some r) → first ≡ q + 1 → all ≡ all_kept naming N types (patterns (map pattern_of ps.now)) first (row_of r.row.now) (values_of r.values.now) → Keeps
    keeps_parts ps r first is a one e =
        let o : first ≡ 1 + q = omega (arith, one) in
        by_parts _ _ _ (pattern_tuple p ps is) a.0 a.1 (e ∙ ap (λ z. all_kept naming N types (patterns (map pattern_of ps.now)) z (row_of r.row.now) (values_of r.values.now)) o ∙ tuple_kept (patterns (map pattern_of ps.now)) q (row_of r.row.now) r.head (values_of r.values.now))

    pub keeps_no_parts : (ps : Bor (List Pat)) → p.form ≡ form.Tuple ps → Row_parts u v None → all ≡ [] → Keeps
    keeps_no_parts ps is n e = by_form _ (pattern_tuple p ps is) (e ∙ no_tuple_kept (patterns (map pattern_of ps.now)) q u v n)

    pub keeps_fields : (fs : Bor (List PatField)) (r : RowParts) (first : ℕ) → p.form ≡ form.Record fs → Row_parts u v (Some r) → first ≡ q + 1
        → ((vs : Values) → v ≡ Parts r.head vs → all ≡ fields_kept naming N types (field_names fs.now) (field_patterns fs.now) first r.head (row_of r.row.now) vs) → Keeps
    keeps_fields fs r first is a one e =
        let o : first ≡ 1 + q = omega (arith, one) in
        by_parts _ _ _ (record_pattern p fs is) a.0 a.1 (e (values_of r.values.now) a.1 ∙ ap (λ z. fields_kept naming N types (field_names fs.now) (field_patterns fs.now) z r.head (row_of r.row.now) (values_of r.values.now)) o
        ∙ record_kept (field_names fs.now) (field_patterns fs.now) q (row_of r.row.now) r.head (values_of r.values.now))

    pub keeps_no_fields : (fs : Bor (List PatField)) → p.form ≡ form.Record fs → Row_parts u v None → all ≡ [] → Keeps
    keeps_no_fields fs is n e = by_form _ (record_pattern p fs is) (e ∙ no_record_kept (field_names fs.now) (field_patterns fs.now) q u v n)

    pub keeps_typed : (o : Bor Pat) (e : Bor TypeExp) → p.form ≡ form.Typed o e → all ≡ kept naming N types (pattern_of o.now) q u v → Keeps
    keeps_typed o e is h = by_form _ (pattern_typed p o e is) (h ∙ typed_kept (pattern_of o.now) (written_type e.now) q u v)

  -- ---- a tuple's parts

  no_row : (qs : Patterns Ref BindId) (at : ℕ) (vs : Values) → all_kept naming N types qs at no_star vs ≡ []
  unfolding all_kept
  no_row no_pattern at vs = refl
  no_row (pattern_and p qs) at vs = refl

  no_values : (qs : Patterns Ref BindId) (at : ℕ) (us : StarRow) → all_kept naming N types qs at us no_value ≡ []
  unfolding all_kept
  no_values no_pattern at us = refl
  no_values (pattern_and p qs) at no_star = refl
  no_values (pattern_and p qs) at (star_and u us) = refl

  no_more : (ps : List Pat) (us : List StarTree) (vs : List ValueTree) (i at : ℕ) → min (min (length ps) (length us)) (length vs) ≤ i → all_kept naming N types (patterns (map pattern_of (drop i ps))) at (row_of (drop i us)) (values_of (drop i vs)) ≡ []
  unfolding all_kept patterns
  no_more [] us vs i at l = ap (λ z. all_kept naming N types (patterns (map pattern_of z)) at (row_of (drop i us)) (values_of (drop i vs))) (drop_past [] i (omega arith))
  no_more (p ∷ ps) [] vs i at l = ap (λ z. all_kept naming N types (patterns (map pattern_of (drop i (p ∷ ps)))) at z (values_of (drop i vs))) (stars_end [] i (omega arith)) ∙ no_row (patterns (map pattern_of (drop i (p ∷ ps)))) at (values_of (drop i vs))
  no_more (p ∷ ps) (u ∷ us) [] i at l = ap (all_kept naming N types (patterns (map pattern_of (drop i (p ∷ ps)))) at (row_of (drop i (u ∷ us)))) (values_end [] i (omega arith)) ∙ no_values (patterns (map pattern_of (drop i (p ∷ ps)))) at (row_of (drop i (u ∷ us)))
  no_more (p ∷ ps) (u ∷ us) (v ∷ vs) zero at l = absurd (omega (arith, l))
  no_more (p ∷ ps) (u ∷ us) (v ∷ vs) (suc i) at l = no_more ps us vs i at (omega (arith, l))

  module _ (ps : List Pat) (us : List StarTree) (vs : List ValueTree) (q : ℕ) where
    abbrev pub Parts_kept : ℕ → ℕ → List (Bor Set) → Type 0
    Parts_kept i at sets = all_kept naming N types (patterns (map pattern_of ps)) q (row_of us) (values_of vs) ≡ onto (sets_of sets) (all_kept naming N types (patterns (map pattern_of (drop i ps))) at (row_of (drop i us)) (values_of (drop i vs)))

    module _ (i at : ℕ) (sets : List (Bor Set)) (h : Parts_kept i at sets) where
      pub parts_more : (p : Pat) (u : StarTree) (v : ValueTree) (next : ℕ) (s : Bor Set) (longer : List (Bor Set)) → i < length ps → i < length us → i < length vs → u ≡ get_or us i u → v ≡ get_or vs i v
          → s.now ≡ kept naming N types (pattern_of (get_or ps i p)) at (stars_of u) (value_of v) → longer ≡ sets ++ s ∷ [] → next ≡ at + pattern_numbers (pattern_of (get_or ps i p)) → Parts_kept (i + 1) next longer
      unfolding all_kept
      parts_more p u v next s longer l k m x y e c n =
          h ∙ ap (onto (sets_of sets)) (ap (λ z. all_kept naming N types z at (row_of (drop i us)) (values_of (drop i vs))) (patterns_at pattern_of ps i p l)
          ∙ ap (λ z. all_kept naming N types (pattern_and (pattern_of (get_or ps i p)) (patterns (map pattern_of (drop (i + 1) ps)))) at z (values_of (drop i vs))) (stars_at us i u k)
          ∙ ap (all_kept naming N types (pattern_and (pattern_of (get_or ps i p)) (patterns (map pattern_of (drop (i + 1) ps)))) at (star_and (stars_of (get_or us i u)) (row_of (drop (i + 1) us)))) (values_at vs i v m)
          ∙ ap (λ z. union z (all_kept naming N types (patterns (map pattern_of (drop (i + 1) ps))) (at + pattern_numbers (pattern_of (get_or ps i p))) (row_of (drop (i + 1) us)) (values_of (drop (i + 1) vs)))) (sym (e ∙ ap (λ z. kept naming N types (pattern_of (get_or ps i p)) at (stars_of z) (value_of v)) x ∙ ap (λ z. kept naming N types (pattern_of (get_or ps i p)) at (stars_of (get_or us i u)) (value_of z)) y))
          ∙ ap (λ z. union s.now (all_kept naming N types (patterns (map pattern_of (drop (i + 1) ps))) z (row_of (drop (i + 1) us)) (values_of (drop (i + 1) vs)))) (sym n))
          ∙ sym (onto_more sets s (all_kept naming N types (patterns (map pattern_of (drop (i + 1) ps))) next (row_of (drop (i + 1) us)) (values_of (drop (i + 1) vs))))
          ∙ ap (λ z. onto (sets_of z) (all_kept naming N types (patterns (map pattern_of (drop (i + 1) ps))) next (row_of (drop (i + 1) us)) (values_of (drop (i + 1) vs)))) (sym c)

      none_left : (all : Set) → all ≡ all_of (sets_of sets) → all_kept naming N types (patterns (map pattern_of (drop i ps))) at (row_of (drop i us)) (values_of (drop i vs)) ≡ [] → all ≡ all_kept naming N types (patterns (map pattern_of ps)) q (row_of us) (values_of vs)
      none_left all a e = a ∙ sym (h ∙ ap (onto (sets_of sets)) e ∙ onto_none (sets_of sets))

      pub parts_end : (all : Set) (n : ℕ) → n ≡ min (min (length ps) (length us)) (length vs) → n ≤ i → all ≡ all_of (sets_of sets) → all ≡ all_kept naming N types (patterns (map pattern_of ps)) q (row_of us) (values_of vs)
      parts_end all n e l a = none_left all a (no_more ps us vs i at (omega (arith, e, l)))

  -- ---- a record's fields

  module _ (fs : List PatField) (h : Head) (us : StarRow) (vs : Values) (q : ℕ) where
    abbrev pub Fields_kept : ℕ → ℕ → List (Bor Set) → Type 0
    Fields_kept i at sets = fields_kept naming N types (field_names fs) (field_patterns fs) q h us vs ≡ onto (sets_of sets) (fields_kept naming N types (field_names (drop i fs)) (field_patterns (drop i fs)) at h us vs)

    module _ (i at : ℕ) (sets : List (Bor Set)) (k : Fields_kept i at sets) where
      pub fields_more : (f : PatField) (u : Stars) (part : Value) (next : ℕ) (s : Bor Set) (longer : List (Bor Set)) → i < length fs → u ≡ star_at (place N.shapes (N.label (get_or fs i f).name.now) h) us → part ≡ part_named N (get_or fs i f).name.now (Parts h vs)
          → s.now ≡ kept naming N types (pattern_of (get_or fs i f).pat) at u part → longer ≡ sets ++ s ∷ [] → next ≡ at + pattern_numbers (pattern_of (get_or fs i f).pat) → Fields_kept (i + 1) next longer
      unfolding fields_kept
      fields_more f u part next s longer l w x e c n =
          k ∙ ap (onto (sets_of sets)) (ap (λ z. fields_kept naming N types z (field_patterns (drop i fs)) at h us vs) (names_at (λ (f : PatField). f.name.now) fs i f l)
          ∙ ap (λ z. fields_kept naming N types ((get_or fs i f).name.now ∷ field_names (drop (i + 1) fs)) z at h us vs) (patterns_at (λ (f : PatField). pattern_of f.pat) fs i f l)
          ∙ ap (λ z. union z (fields_kept naming N types (field_names (drop (i + 1) fs)) (field_patterns (drop (i + 1) fs)) (at + pattern_numbers (pattern_of (get_or fs i f).pat)) h us vs))
          (sym (e ∙ ap (λ z. kept naming N types (pattern_of (get_or fs i f).pat) at z part) w ∙ ap (kept naming N types (pattern_of (get_or fs i f).pat) at (star_at (place N.shapes (N.label (get_or fs i f).name.now) h) us)) x))
          ∙ ap (λ z. union s.now (fields_kept naming N types (field_names (drop (i + 1) fs)) (field_patterns (drop (i + 1) fs)) z h us vs)) (sym n))
          ∙ sym (onto_more sets s (fields_kept naming N types (field_names (drop (i + 1) fs)) (field_patterns (drop (i + 1) fs)) next h us vs))
          ∙ ap (λ z. onto (sets_of z) (fields_kept naming N types (field_names (drop (i + 1) fs)) (field_patterns (drop (i + 1) fs)) next h us vs)) (sym c)

      pub fields_end : (all : Set) → length fs ≤ i → all ≡ all_of (sets_of sets) → all ≡ fields_kept naming N types (field_names fs) (field_patterns fs) q h us vs
      unfolding fields_kept
      fields_end all l a = a ∙ sym (k ∙ ap (onto (sets_of sets)) (ap (λ z. fields_kept naming N types z (field_patterns (drop i fs)) at h us vs) (names_end (λ (f : PatField). f.name.now) fs i l)) ∙ onto_none (sets_of sets))

-- ---- a star at a told place

star_told : (o p : Option ℕ) (us : List StarTree) → Tells_position o p → length us < 2 ^ 32 → star_at o (row_of us) ≡ star_at p (row_of us)
star_told (Some i) p us t l = ap (λ z. star_at z (row_of us)) (sym t)
star_told None None us t l = refl
star_told None (Some i) us t l = let h : 2 ^ 32 ≤ i = t i refl in star_past us i (omega (arith, h, l))

pub star_found : (u : Stars) (o p : Option ℕ) (us : List StarTree) → u ≡ star_at o (row_of us) → Tells_position o p → length us < 2 ^ 32 → u ≡ star_at p (row_of us)
star_found u o p us e t l = e ∙ star_told o p us t l

-- ---- parameters

module _ (naming : Naming) (N : Names) (K : Kinds) (types : Sub) (ps : List Pat) (q : ℕ) where
  abbrev pub Parameters_kept : ℕ → ℕ → List (Bor Set) → Type 0
  Parameters_kept i at sets = parameters_kept naming N K types (patterns (map pattern_of ps)) q ≡ onto (sets_of sets) (parameters_kept naming N K types (patterns (map pattern_of (drop i ps))) at)

  module _ (i at : ℕ) (sets : List (Bor Set)) (h : Parameters_kept i at sets) where
    pub parameters_more : (p : Pat) (u : Stars) (v : Value) (next : ℕ) (s : Bor Set) (longer : List (Bor Set)) → i < length ps → u ≡ pattern_stars N types (pattern_of (get_or ps i p)) at → v ≡ parameter_value naming N K types (pattern_of (get_or ps i p)) at
        → s.now ≡ kept naming N types (pattern_of (get_or ps i p)) at u v → longer ≡ sets ++ s ∷ [] → next ≡ at + pattern_numbers (pattern_of (get_or ps i p)) → Parameters_kept (i + 1) next longer
    parameters_more p u v next s longer l w x e c n =
        h ∙ ap (onto (sets_of sets)) (ap (λ z. parameters_kept naming N K types z at) (patterns_at pattern_of ps i p l)
        ∙ ap (λ z. union z (parameters_kept naming N K types (patterns (map pattern_of (drop (i + 1) ps))) (at + pattern_numbers (pattern_of (get_or ps i p)))))
        (sym (e ∙ ap (λ z. kept naming N types (pattern_of (get_or ps i p)) at z v) w ∙ ap (kept naming N types (pattern_of (get_or ps i p)) at (pattern_stars N types (pattern_of (get_or ps i p)) at)) x))
        ∙ ap (λ z. union s.now (parameters_kept naming N K types (patterns (map pattern_of (drop (i + 1) ps))) z)) (sym n))
        ∙ sym (onto_more sets s (parameters_kept naming N K types (patterns (map pattern_of (drop (i + 1) ps))) next))
        ∙ ap (λ z. onto (sets_of z) (parameters_kept naming N K types (patterns (map pattern_of (drop (i + 1) ps))) next)) (sym c)

    pub parameters_end : (all : Set) → length ps ≤ i → all ≡ all_of (sets_of sets) → all ≡ parameters_kept naming N K types (patterns (map pattern_of ps)) q
    parameters_end all l a = a ∙ sym (h ∙ ap (λ z. onto (sets_of sets) (parameters_kept naming N K types z at)) (patterns_end pattern_of ps i l) ∙ onto_none (sets_of sets))
