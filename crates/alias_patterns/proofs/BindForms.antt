-- What patterns bind, form by form.
use Rattle.std.proofs.Common.{◌≡◌, ℕ, ◌+◌, ◌<◌, ◌≤◌, List, ◌∷◌, map, length, get_or, drop, Bool, true, false, refl, sym, ap, ◌∙◌, arith}
use Rattle.std.specs.Borrow.{Bor}
use Rattle.fut_ast.specs.Sorts.{Text}
use Rattle.fut_scalar.specs.declared.place.BindId.{BindId}
use Rattle.fut_flat.specs.declared.pat.Pat.{Pat}
use Rattle.fut_flat.specs.declared.pat.PatField.{PatField}
use Rattle.fut_flat.specs.declared.pat.PatForm.TheVariants as form
use Rattle.fut_flat.specs.declared.prim.Ref.{Ref}
use Rattle.fut_flat.specs.declared.ty.TypeExp.{TypeExp}
use Rattle.fut_flat.specs.Terms.{Bound_pattern, Wild_pattern, Tuple_pattern, Record_pattern, Typed_pattern, Patterns, no_pattern, pattern_and}
use Rattle.fut_flat.specs.Erased.{FlatPattern, FlatType, pattern_of, patterns, type_of as written_type}
use Rattle.fut_flat.specs.Numbers.{pattern_numbers}
use Rattle.fut_flat.proofs.ErasedPatterns.{pattern_bound, pattern_wild, pattern_tuple, pattern_typed}
use Rattle.fut_types.specs.declared.Head.{Head}
use Rattle.fut_types.specs.Types.{Sub, Kinds}
use Rattle.fut_typing.specs.Names.{Names}
use Rattle.flat_numbers.specs.Fields.{field_patterns}
use Rattle.fut_aliases.specs.Aliases.{Naming, Set}
use Rattle.fut_aliases.specs.Looking.{with_parameters, parameter_value}
use Rattle.fut_aliases.specs.Patterns.{Scope, with_value, bound, all_bound, fields_bound}
use Rattle.fut_aliases.specs.Stars.{Stars, written_stars}
use Rattle.fut_aliases.specs.Values.{Value, Scalar, Array, Function, Parts, Values, no_value, named, ascribed, part_named}
use Rattle.alias_values.specs.declared.trees.StarTree.{StarTree}
use Rattle.alias_values.specs.declared.trees.ValueTree.{ValueTree}
use Rattle.alias_values.specs.declared.trees.ValueTree.TheVariants as value
use Rattle.alias_values.specs.Trees.{stars_of, value_of, values_of}
use Rattle.alias_values.proofs.Forms.{value_scalar, value_array, value_function, value_parts}
use Rattle.alias_values.proofs.Rows.{values_at, values_end}
use Rattle.alias_patterns.specs.Fields.{field_names}
use Rattle.alias_patterns.proofs.Fields.{names_at, names_end, patterns_at, patterns_end, record_pattern}

module _ (naming : Naming) (N : Names) (types : Sub) (parameter : Bool) where
  name_bound : (b : BindId) (q : ℕ) (v : Value) (s : Scope) → with_value b.0 (named naming parameter q b 0 v) s ≡ bound naming N types parameter (Bound_pattern b) q v s
  unfolding bound
  name_bound b q v s = refl

  none_bound : (q : ℕ) (v : Value) (s : Scope) → s ≡ bound naming N types parameter Wild_pattern q v s
  unfolding bound
  none_bound q v s = refl

  tuple_bound : (ps : Patterns Ref BindId) (q : ℕ) (h : Head) (vs : Values) (s : Scope) → all_bound naming N types parameter ps (1 + q) vs s ≡ bound naming N types parameter (Tuple_pattern ps) q (Parts h vs) s
  unfolding bound all_bound
  tuple_bound ps q h vs s = refl

  scalar_unbound : (ps : Patterns Ref BindId) (q : ℕ) (s : Scope) → s ≡ bound naming N types parameter (Tuple_pattern ps) q Scalar s
  unfolding bound
  scalar_unbound ps q s = refl

  array_unbound : (ps : Patterns Ref BindId) (q : ℕ) (x : Set) (s : Scope) → s ≡ bound naming N types parameter (Tuple_pattern ps) q (Array x) s
  unfolding bound
  array_unbound ps q x s = refl

  function_unbound : (ps : Patterns Ref BindId) (q : ℕ) (x : Set) (u : Stars) (s : Scope) → s ≡ bound naming N types parameter (Tuple_pattern ps) q (Function x u) s
  unfolding bound
  function_unbound ps q x u s = refl

  record_bound : (fs : List Text) (ps : Patterns Ref BindId) (q : ℕ) (v : Value) (s : Scope) → fields_bound naming N types parameter fs ps (1 + q) v s ≡ bound naming N types parameter (Record_pattern fs ps) q v s
  unfolding bound fields_bound
  record_bound fs ps q v s = refl

  typed_bound : (p : FlatPattern) (e : FlatType) (q : ℕ) (v : Value) (s : Scope) → bound naming N types parameter p q (ascribed (written_stars N false e (types q)) v) s ≡ bound naming N types parameter (Typed_pattern p e) q v s
  unfolding bound
  typed_bound p e q v s = refl

  -- ---- one pattern, whose scope is s and which makes the scope t

  module _ (p : Pat) (q : ℕ) (v : ValueTree) (s t : Scope) where
    abbrev pub Binds : Type 0
    Binds = t ≡ bound naming N types parameter (pattern_of p) q (value_of v) s

    by_form : (o : FlatPattern) (w : Value) → pattern_of p ≡ o → value_of v ≡ w → t ≡ bound naming N types parameter o q w s → Binds
    by_form o w e i h = h ∙ sym (ap (λ z. bound naming N types parameter z q w s) e) ∙ sym (ap (λ z. bound naming N types parameter (pattern_of p) q z s) i)

    pub binds_name : (b : BindId) (own : Value) → p.form ≡ form.Bound b → own ≡ named naming parameter q b 0 (value_of v) → t ≡ with_value b.0 own s → Binds
    binds_name b own is o e = by_form _ _ (pattern_bound p b is) refl (e ∙ ap (λ z. with_value b.0 z s) o ∙ name_bound b q (value_of v) s)

    pub binds_none : p.form ≡ form.Wild → t ≡ s → Binds
    binds_none is e = by_form _ _ (pattern_wild p is) refl (e ∙ none_bound q (value_of v) s)

    module _ (ps : Bor (List Pat)) (is : p.form ≡ form.Tuple ps) where
      pub binds_parts : (h : Head) (vs : Bor (List ValueTree)) (first : ℕ) → v ≡ value.Parts h vs → first ≡ q + 1 → t ≡ all_bound naming N types parameter (patterns (map pattern_of ps.now)) first (values_of vs.now) s → Binds
      binds_parts h vs first i one e =
          let o : first ≡ 1 + q = omega (arith, one) in
          by_form _ _ (pattern_tuple p ps is) (ap value_of i ∙ value_parts h vs) (e ∙ ap (λ z. all_bound naming N types parameter (patterns (map pattern_of ps.now)) z (values_of vs.now) s) o ∙ tuple_bound (patterns (map pattern_of ps.now)) q h (values_of vs.now) s)

      pub binds_scalar : v ≡ value.Scalar → t ≡ s → Binds
      binds_scalar i e = by_form _ _ (pattern_tuple p ps is) (ap value_of i ∙ value_scalar) (e ∙ scalar_unbound (patterns (map pattern_of ps.now)) q s)

      pub binds_array : (x : Bor Set) → v ≡ value.Array x → t ≡ s → Binds
      binds_array x i e = by_form _ _ (pattern_tuple p ps is) (ap value_of i ∙ value_array x) (e ∙ array_unbound (patterns (map pattern_of ps.now)) q x.now s)

      pub binds_function : (x : Bor Set) (u : Bor StarTree) → v ≡ value.Function x u → t ≡ s → Binds
      binds_function x u i e = by_form _ _ (pattern_tuple p ps is) (ap value_of i ∙ value_function x u) (e ∙ function_unbound (patterns (map pattern_of ps.now)) q x.now (stars_of u.now) s)

    pub binds_fields : (fs : Bor (List PatField)) (first : ℕ) → p.form ≡ form.Record fs → first ≡ q + 1 → t ≡ fields_bound naming N types parameter (field_names fs.now) (field_patterns fs.now) first (value_of v) s → Binds
    binds_fields fs first is one e =
        let o : first ≡ 1 + q = omega (arith, one) in
        by_form _ _ (record_pattern p fs is) refl (e ∙ ap (λ z. fields_bound naming N types parameter (field_names fs.now) (field_patterns fs.now) z (value_of v) s) o ∙ record_bound (field_names fs.now) (field_patterns fs.now) q (value_of v) s)

    pub binds_typed : (o : Bor Pat) (e : Bor TypeExp) (u : Stars) (same : Value) → p.form ≡ form.Typed o e → u ≡ written_stars N false (written_type e.now) (types q) → same ≡ ascribed u (value_of v) → t ≡ bound naming N types parameter (pattern_of o.now) q same s → Binds
    binds_typed o e u same is w a h =
        by_form _ _ (pattern_typed p o e is) refl (h ∙ ap (λ z. bound naming N types parameter (pattern_of o.now) q z s) (a ∙ ap (λ z. ascribed z (value_of v)) w) ∙ typed_bound (pattern_of o.now) (written_type e.now) q (value_of v) s)

  -- ---- a tuple's parts

  no_values : (ps : Patterns Ref BindId) (q : ℕ) (s : Scope) → all_bound naming N types parameter ps q no_value s ≡ s
  unfolding all_bound
  no_values no_pattern q s = refl
  no_values (pattern_and p ps) q s = refl

  module _ (ps : List Pat) (vs : List ValueTree) (q : ℕ) (s : Scope) where
    abbrev pub Parts_bound : ℕ → ℕ → Scope → Type 0
    Parts_bound i at t = all_bound naming N types parameter (patterns (map pattern_of ps)) q (values_of vs) s ≡ all_bound naming N types parameter (patterns (map pattern_of (drop i ps))) at (values_of (drop i vs)) t

    module _ (i at : ℕ) (t : Scope) (h : Parts_bound i at t) where
      pub parts_more : (p : Pat) (v : ValueTree) (next : ℕ) (inside : Scope) → i < length ps → i < length vs → v ≡ get_or vs i v → inside ≡ bound naming N types parameter (pattern_of (get_or ps i p)) at (value_of v) t → next ≡ at + pattern_numbers (pattern_of (get_or ps i p)) → Parts_bound (i + 1) next inside
      unfolding all_bound
      parts_more p v next inside l k x e n =
          h ∙ ap (λ z. all_bound naming N types parameter z at (values_of (drop i vs)) t) (patterns_at pattern_of ps i p l)
          ∙ ap (λ z. all_bound naming N types parameter (pattern_and (pattern_of (get_or ps i p)) (patterns (map pattern_of (drop (i + 1) ps)))) at z t) (values_at vs i v k)
          ∙ ap (λ z. all_bound naming N types parameter (patterns (map pattern_of (drop (i + 1) ps))) z (values_of (drop (i + 1) vs)) (bound naming N types parameter (pattern_of (get_or ps i p)) at (value_of (get_or vs i v)) t)) (sym n)
          ∙ ap (all_bound naming N types parameter (patterns (map pattern_of (drop (i + 1) ps))) next (values_of (drop (i + 1) vs))) (sym (e ∙ ap (λ z. bound naming N types parameter (pattern_of (get_or ps i p)) at (value_of z) t) x))

      pub parts_end : length ps ≤ i → t ≡ all_bound naming N types parameter (patterns (map pattern_of ps)) q (values_of vs) s
      unfolding all_bound
      parts_end l = sym (h ∙ ap (λ z. all_bound naming N types parameter z at (values_of (drop i vs)) t) (patterns_end pattern_of ps i l))

      pub parts_short : length vs ≤ i → t ≡ all_bound naming N types parameter (patterns (map pattern_of ps)) q (values_of vs) s
      parts_short k = sym (h ∙ ap (λ z. all_bound naming N types parameter (patterns (map pattern_of (drop i ps))) at z t) (values_end vs i k) ∙ no_values (patterns (map pattern_of (drop i ps))) at t)

  -- ---- a record's fields

  module _ (fs : List PatField) (v : Value) (q : ℕ) (s : Scope) where
    abbrev pub Fields_bound : ℕ → ℕ → Scope → Type 0
    Fields_bound i at t = fields_bound naming N types parameter (field_names fs) (field_patterns fs) q v s ≡ fields_bound naming N types parameter (field_names (drop i fs)) (field_patterns (drop i fs)) at v t

    module _ (i at : ℕ) (t : Scope) (h : Fields_bound i at t) where
      pub fields_more : (f : PatField) (part : Value) (next : ℕ) (inside : Scope) → i < length fs → part ≡ part_named N (get_or fs i f).name.now v → inside ≡ bound naming N types parameter (pattern_of (get_or fs i f).pat) at part t → next ≡ at + pattern_numbers (pattern_of (get_or fs i f).pat) → Fields_bound (i + 1) next inside
      unfolding fields_bound
      fields_more f part next inside l w e n =
          h ∙ ap (λ z. fields_bound naming N types parameter z (field_patterns (drop i fs)) at v t) (names_at (λ (f : PatField). f.name.now) fs i f l)
          ∙ ap (λ z. fields_bound naming N types parameter ((get_or fs i f).name.now ∷ field_names (drop (i + 1) fs)) z at v t) (patterns_at (λ (f : PatField). pattern_of f.pat) fs i f l)
          ∙ ap (λ z. fields_bound naming N types parameter (field_names (drop (i + 1) fs)) (field_patterns (drop (i + 1) fs)) z v (bound naming N types parameter (pattern_of (get_or fs i f).pat) at (part_named N (get_or fs i f).name.now v) t)) (sym n)
          ∙ ap (λ z. fields_bound naming N types parameter (field_names (drop (i + 1) fs)) (field_patterns (drop (i + 1) fs)) next v (bound naming N types parameter (pattern_of (get_or fs i f).pat) at z t)) (sym w)
          ∙ ap (fields_bound naming N types parameter (field_names (drop (i + 1) fs)) (field_patterns (drop (i + 1) fs)) next v) (sym e)

      pub fields_end : length fs ≤ i → t ≡ fields_bound naming N types parameter (field_names fs) (field_patterns fs) q v s
      unfolding fields_bound
      fields_end l = sym (h ∙ ap (λ z. fields_bound naming N types parameter z (field_patterns (drop i fs)) at v t) (names_end (λ (f : PatField). f.name.now) fs i l))

-- ---- parameters

module _ (naming : Naming) (N : Names) (K : Kinds) (types : Sub) (ps : List Pat) (q : ℕ) (s : Scope) where
  abbrev pub Parameters_bound : ℕ → ℕ → Scope → Type 0
  Parameters_bound i at t = with_parameters naming N K types (patterns (map pattern_of ps)) q s ≡ with_parameters naming N K types (patterns (map pattern_of (drop i ps))) at t

  module _ (i at : ℕ) (t : Scope) (h : Parameters_bound i at t) where
    pub parameters_more : (p : Pat) (v : Value) (next : ℕ) (inside : Scope) → i < length ps → v ≡ parameter_value naming N K types (pattern_of (get_or ps i p)) at → inside ≡ bound naming N types true (pattern_of (get_or ps i p)) at v t → next ≡ at + pattern_numbers (pattern_of (get_or ps i p)) → Parameters_bound (i + 1) next inside
    parameters_more p v next inside l w e n =
        h ∙ ap (λ z. with_parameters naming N K types z at t) (patterns_at pattern_of ps i p l)
        ∙ ap (λ z. with_parameters naming N K types (patterns (map pattern_of (drop (i + 1) ps))) z (bound naming N types true (pattern_of (get_or ps i p)) at (parameter_value naming N K types (pattern_of (get_or ps i p)) at) t)) (sym n)
        ∙ ap (λ z. with_parameters naming N K types (patterns (map pattern_of (drop (i + 1) ps))) next (bound naming N types true (pattern_of (get_or ps i p)) at z t)) (sym w)
        ∙ ap (with_parameters naming N K types (patterns (map pattern_of (drop (i + 1) ps))) next) (sym e)

    pub parameters_end : length ps ≤ i → t ≡ with_parameters naming N K types (patterns (map pattern_of ps)) q s
    parameters_end l = sym (h ∙ ap (λ z. with_parameters naming N K types z at t) (patterns_end pattern_of ps i l))
