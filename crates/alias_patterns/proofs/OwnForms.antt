-- The own names of what a pattern binds, form by form.
use Rattle.std.proofs.Common.{◌≡◌, ℕ, zero, suc, ◌+◌, ◌<◌, ◌≤◌, List, [], ◌∷◌, ◌++◌, map, length, get_or, drop, min, true, refl, sym, ap, ◌∙◌, arith}
use Rattle.std.specs.Borrow.{Bor}
use Rattle.fut_ast.specs.Sorts.{Text}
use Rattle.fut_scalar.specs.declared.place.BindId.{BindId}
use Rattle.fut_flat.specs.declared.pat.Pat.{Pat}
use Rattle.fut_flat.specs.declared.pat.PatField.{PatField}
use Rattle.fut_flat.specs.declared.pat.PatForm.TheVariants as form
use Rattle.fut_flat.specs.declared.prim.Ref.{Ref}
use Rattle.fut_flat.specs.declared.ty.TypeExp.{TypeExp}
use Rattle.fut_flat.specs.Terms.{Bound_pattern, Wild_pattern, Tuple_pattern, Record_pattern, Typed_pattern, Patterns, no_pattern, pattern_and}
use Rattle.fut_flat.specs.Erased.{FlatPattern, FlatType, pattern_of, patterns, type_of as written_type}
use Rattle.fut_flat.specs.Numbers.{pattern_numbers}
use Rattle.fut_flat.proofs.ErasedPatterns.{pattern_bound, pattern_wild, pattern_tuple, pattern_typed}
use Rattle.fut_types.specs.declared.Head.{Head}
use Rattle.fut_typing.specs.Names.{Names}
use Rattle.flat_numbers.specs.Fields.{field_patterns}
use Rattle.fut_aliases.specs.Aliases.{Naming, Set}
use Rattle.fut_aliases.specs.Loops.{own_names, all_own_names, fields_own_names}
use Rattle.fut_aliases.specs.Stars.{Stars}
use Rattle.fut_aliases.specs.Values.{Value, Scalar, Array, Function, Parts, Values, value_and, no_value, named, part_named, with_part_named}
use Rattle.alias_values.specs.declared.trees.StarTree.{StarTree}
use Rattle.alias_values.specs.declared.trees.ValueTree.{ValueTree}
use Rattle.alias_values.specs.declared.trees.ValueTree.TheVariants as value
use Rattle.alias_values.specs.Trees.{stars_of, value_of, values, values_of}
use Rattle.alias_values.proofs.Forms.{value_scalar, value_array, value_function, value_parts}
use Rattle.alias_values.proofs.Rows.{values_at, values_before, values_before_more}
use Rattle.alias_patterns.specs.Fields.{field_names}
use Rattle.alias_patterns.proofs.Fields.{names_at, names_end, patterns_at, record_pattern}

-- the rest of a row behind these
behind : (made vs : List ValueTree) → values_before made (values_of vs) ≡ values_of (made ++ vs)
unfolding values_of values
behind [] vs = refl
behind (v ∷ made) vs = ap (value_and (value_of v)) (behind made vs)

module _ (naming : Naming) (N : Names) where
  name_owns : (b : BindId) (q : ℕ) (v : Value) → named naming true q b 0 v ≡ own_names naming N (Bound_pattern b) q v
  unfolding own_names
  name_owns b q v = refl

  none_owns : (q : ℕ) (v : Value) → v ≡ own_names naming N Wild_pattern q v
  unfolding own_names
  none_owns q v = refl

  tuple_owns : (ps : Patterns Ref BindId) (q : ℕ) (h : Head) (vs : Values) → Parts h (all_own_names naming N ps (1 + q) vs) ≡ own_names naming N (Tuple_pattern ps) q (Parts h vs)
  unfolding own_names all_own_names
  tuple_owns ps q h vs = refl

  scalar_owns : (ps : Patterns Ref BindId) (q : ℕ) → Scalar ≡ own_names naming N (Tuple_pattern ps) q Scalar
  unfolding own_names
  scalar_owns ps q = refl

  array_owns : (ps : Patterns Ref BindId) (q : ℕ) (x : Set) → Array x ≡ own_names naming N (Tuple_pattern ps) q (Array x)
  unfolding own_names
  array_owns ps q x = refl

  function_owns : (ps : Patterns Ref BindId) (q : ℕ) (x : Set) (u : Stars) → Function x u ≡ own_names naming N (Tuple_pattern ps) q (Function x u)
  unfolding own_names
  function_owns ps q x u = refl

  record_owns : (fs : List Text) (ps : Patterns Ref BindId) (q : ℕ) (v : Value) → fields_own_names naming N fs ps (1 + q) v v ≡ own_names naming N (Record_pattern fs ps) q v
  unfolding own_names fields_own_names
  record_owns fs ps q v = refl

  typed_owns : (p : FlatPattern) (e : FlatType) (q : ℕ) (v : Value) → own_names naming N p q v ≡ own_names naming N (Typed_pattern p e) q v
  unfolding own_names
  typed_owns p e q v = refl

  -- ---- one pattern

  module _ (p : Pat) (q : ℕ) (v : ValueTree) where
    abbrev pub Owns : Value → Type 0
    Owns made = made ≡ own_names naming N (pattern_of p) q (value_of v)

    by_form : (made : Value) (o : FlatPattern) (w : Value) → pattern_of p ≡ o → value_of v ≡ w → made ≡ own_names naming N o q w → Owns made
    by_form made o w e i h = h ∙ sym (ap (λ z. own_names naming N z q w) e) ∙ sym (ap (own_names naming N (pattern_of p) q) i)

    pub owns_name : (made : Value) (b : BindId) → p.form ≡ form.Bound b → made ≡ named naming true q b 0 (value_of v) → Owns made
    owns_name made b is e = by_form made _ _ (pattern_bound p b is) refl (e ∙ name_owns b q (value_of v))

    pub owns_none : p.form ≡ form.Wild → Owns (value_of v)
    owns_none is = by_form _ _ _ (pattern_wild p is) refl (none_owns q (value_of v))

    module _ (ps : Bor (List Pat)) (is : p.form ≡ form.Tuple ps) where
      pub owns_parts : (made : Value) (h : Head) (vs : Bor (List ValueTree)) (first : ℕ) (all : Values) → v ≡ value.Parts h vs → first ≡ q + 1 → all ≡ all_own_names naming N (patterns (map pattern_of ps.now)) first (values_of vs.now) → made ≡ Parts h all → Owns made
      owns_parts made h vs first all i one a e =
          let o : first ≡ 1 + q = omega (arith, one) in
          by_form made _ _ (pattern_tuple p ps is) (ap value_of i ∙ value_parts h vs) (e ∙ ap (Parts h) (a ∙ ap (λ z. all_own_names naming N (patterns (map pattern_of ps.now)) z (values_of vs.now)) o) ∙ tuple_owns (patterns (map pattern_of ps.now)) q h (values_of vs.now))

      same_value : (w : Value) → value_of v ≡ w → w ≡ own_names naming N (Tuple_pattern (patterns (map pattern_of ps.now))) q w → Owns (value_of v)
      same_value w i h = by_form _ _ w (pattern_tuple p ps is) i (i ∙ h)

      pub owns_scalar : v ≡ value.Scalar → Owns (value_of v)
      owns_scalar i = same_value _ (ap value_of i ∙ value_scalar) (scalar_owns _ q)

      pub owns_array : (x : Bor Set) → v ≡ value.Array x → Owns (value_of v)
      owns_array x i = same_value _ (ap value_of i ∙ value_array x) (array_owns _ q x.now)

      pub owns_function : (x : Bor Set) (u : Bor StarTree) → v ≡ value.Function x u → Owns (value_of v)
      owns_function x u i = same_value _ (ap value_of i ∙ value_function x u) (function_owns _ q x.now (stars_of u.now))

    pub owns_fields : (made : Value) (fs : Bor (List PatField)) (first : ℕ) → p.form ≡ form.Record fs → first ≡ q + 1 → made ≡ fields_own_names naming N (field_names fs.now) (field_patterns fs.now) first (value_of v) (value_of v) → Owns made
    owns_fields made fs first is one e =
        let o : first ≡ 1 + q = omega (arith, one) in
        by_form made _ _ (record_pattern p fs is) refl (e ∙ ap (λ z. fields_own_names naming N (field_names fs.now) (field_patterns fs.now) z (value_of v) (value_of v)) o ∙ record_owns (field_names fs.now) (field_patterns fs.now) q (value_of v))

    pub owns_typed : (made : Value) (o : Bor Pat) (e : Bor TypeExp) → p.form ≡ form.Typed o e → made ≡ own_names naming N (pattern_of o.now) q (value_of v) → Owns made
    owns_typed made o e is h = by_form made _ _ (pattern_typed p o e is) refl (h ∙ typed_owns (pattern_of o.now) (written_type e.now) q (value_of v))

  -- ---- a tuple's parts

  no_values : (qs : Patterns Ref BindId) (at : ℕ) → all_own_names naming N qs at no_value ≡ no_value
  unfolding all_own_names
  no_values no_pattern at = refl
  no_values (pattern_and p qs) at = refl

  rest_owns : (ps : List Pat) (vs : List ValueTree) (n at : ℕ) → n ≡ min (length ps) (length vs) → all_own_names naming N (patterns (map pattern_of (drop n ps))) at (values_of (drop n vs)) ≡ values_of (drop n vs)
  unfolding all_own_names patterns values_of values
  rest_owns [] vs zero at e = refl
  rest_owns [] vs (suc n) at e = absurd (omega (arith, e))
  rest_owns (p ∷ ps) [] zero at e = refl
  rest_owns (p ∷ ps) [] (suc n) at e = absurd (omega (arith, e))
  rest_owns (p ∷ ps) (v ∷ vs) zero at e = absurd (omega (arith, e))
  rest_owns (p ∷ ps) (v ∷ vs) (suc n) at e = rest_owns ps vs n at (omega (arith, e))

  module _ (ps : List Pat) (vs : List ValueTree) (q : ℕ) where
    abbrev pub Parts_own : ℕ → ℕ → List ValueTree → Type 0
    Parts_own i at made = all_own_names naming N (patterns (map pattern_of ps)) q (values_of vs) ≡ values_before made (all_own_names naming N (patterns (map pattern_of (drop i ps))) at (values_of (drop i vs)))

    module _ (i at : ℕ) (made : List ValueTree) (h : Parts_own i at made) where
      pub parts_more : (p : Pat) (v w : ValueTree) (longer : List ValueTree) (next : ℕ) → i < length ps → i < length vs → v ≡ get_or vs i v → value_of w ≡ own_names naming N (pattern_of (get_or ps i p)) at (value_of v) → longer ≡ made ++ w ∷ []
          → next ≡ at + pattern_numbers (pattern_of (get_or ps i p)) → Parts_own (i + 1) next longer
      unfolding all_own_names
      parts_more p v w longer next l k x e c n =
          h ∙ ap (values_before made) (ap (λ z. all_own_names naming N z at (values_of (drop i vs))) (patterns_at pattern_of ps i p l)
          ∙ ap (all_own_names naming N (pattern_and (pattern_of (get_or ps i p)) (patterns (map pattern_of (drop (i + 1) ps)))) at) (values_at vs i v k)
          ∙ ap (λ z. value_and z (all_own_names naming N (patterns (map pattern_of (drop (i + 1) ps))) (at + pattern_numbers (pattern_of (get_or ps i p))) (values_of (drop (i + 1) vs)))) (sym (e ∙ ap (λ z. own_names naming N (pattern_of (get_or ps i p)) at (value_of z)) x))
          ∙ ap (λ z. value_and (value_of w) (all_own_names naming N (patterns (map pattern_of (drop (i + 1) ps))) z (values_of (drop (i + 1) vs)))) (sym n))
          ∙ sym (values_before_more made w (all_own_names naming N (patterns (map pattern_of (drop (i + 1) ps))) next (values_of (drop (i + 1) vs))))
          ∙ ap (λ z. values_before z (all_own_names naming N (patterns (map pattern_of (drop (i + 1) ps))) next (values_of (drop (i + 1) vs)))) (sym c)

      pub parts_end : (n : ℕ) (rest all : List ValueTree) → n ≡ min (length ps) (length vs) → i ≤ n → n ≤ i → rest ≡ drop n vs → all ≡ made ++ rest → values_of all ≡ all_own_names naming N (patterns (map pattern_of ps)) q (values_of vs)
      parts_end n rest all e l m r a =
          let o : n ≡ i = omega (arith, l, m) in
          sym (h ∙ ap (λ z. values_before made (all_own_names naming N (patterns (map pattern_of (drop z ps))) at (values_of (drop z vs)))) (sym o) ∙ ap (values_before made) (rest_owns ps vs n at e) ∙ behind made (drop n vs) ∙ ap (λ z. values_of (made ++ z)) (sym r) ∙ ap values_of (sym a))

  -- ---- a record's fields

  module _ (fs : List PatField) (q : ℕ) (v : Value) where
    abbrev pub Fields_own : ℕ → ℕ → Value → Type 0
    Fields_own i at made = fields_own_names naming N (field_names fs) (field_patterns fs) q v v ≡ fields_own_names naming N (field_names (drop i fs)) (field_patterns (drop i fs)) at v made

    module _ (i at : ℕ) (made : Value) (h : Fields_own i at made) where
      pub fields_more : (f : PatField) (part own next_value : Value) (next : ℕ) → i < length fs → part ≡ part_named N (get_or fs i f).name.now v → own ≡ own_names naming N (pattern_of (get_or fs i f).pat) at part → next_value ≡ with_part_named N (get_or fs i f).name.now own made
          → next ≡ at + pattern_numbers (pattern_of (get_or fs i f).pat) → Fields_own (i + 1) next next_value
      unfolding fields_own_names
      fields_more f part own next_value next l w o e n =
          h ∙ ap (λ z. fields_own_names naming N z (field_patterns (drop i fs)) at v made) (names_at (λ (f : PatField). f.name.now) fs i f l)
          ∙ ap (λ z. fields_own_names naming N ((get_or fs i f).name.now ∷ field_names (drop (i + 1) fs)) z at v made) (patterns_at (λ (f : PatField). pattern_of f.pat) fs i f l)
          ∙ ap (λ z. fields_own_names naming N (field_names (drop (i + 1) fs)) (field_patterns (drop (i + 1) fs)) z v (with_part_named N (get_or fs i f).name.now (own_names naming N (pattern_of (get_or fs i f).pat) at (part_named N (get_or fs i f).name.now v)) made)) (sym n)
          ∙ ap (fields_own_names naming N (field_names (drop (i + 1) fs)) (field_patterns (drop (i + 1) fs)) next v)
          (sym (e ∙ ap (λ z. with_part_named N (get_or fs i f).name.now z made) (o ∙ ap (own_names naming N (pattern_of (get_or fs i f).pat) at) w)))

      pub fields_end : length fs ≤ i → made ≡ fields_own_names naming N (field_names fs) (field_patterns fs) q v v
      unfolding fields_own_names
      fields_end l = sym (h ∙ ap (λ z. fields_own_names naming N z (field_patterns (drop i fs)) at v made) (names_end (λ (f : PatField). f.name.now) fs i l))
