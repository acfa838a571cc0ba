-- Whether a value fits the functions that a pattern takes, form by form.
use Rattle.std.proofs.Common.{◌≡◌, ℕ, ◌+◌, ◌<◌, ◌≤◌, List, ◌∷◌, map, length, get_or, drop, true, false, is_some, Option, Some, None, Ok, Err, refl, sym, ap, ◌∙◌, arith}
use Rattle.std.specs.Borrow.{Bor}
use Rattle.fut_ast.specs.Sorts.{Text}
use Rattle.fut_scalar.specs.declared.place.BindId.{BindId}
use Rattle.fut_flat.specs.declared.pat.Pat.{Pat}
use Rattle.fut_flat.specs.declared.pat.PatField.{PatField}
use Rattle.fut_flat.specs.declared.pat.PatForm.TheVariants as form
use Rattle.fut_flat.specs.declared.prim.Ref.{Ref}
use Rattle.fut_flat.specs.declared.ty.TypeExp.{TypeExp}
use Rattle.fut_flat.specs.Terms.{Bound_pattern, Wild_pattern, Tuple_pattern, Record_pattern, Typed_pattern, Patterns, no_pattern, pattern_and}
use Rattle.fut_flat.specs.Erased.{FlatPattern, FlatType, pattern_of, patterns, type_of as written_type}
use Rattle.fut_flat.specs.Numbers.{pattern_numbers}
use Rattle.fut_flat.proofs.ErasedPatterns.{pattern_bound, pattern_wild, pattern_tuple, pattern_typed}
use Rattle.fut_types.specs.declared.Head.{Head}
use Rattle.fut_types.specs.Types.{Sub, Kinds}
use Rattle.fut_typing.specs.Names.{Names}
use Rattle.flat_numbers.specs.Fields.{field_patterns}
use Rattle.fut_aliases.specs.declared.refusals.Broken.{Broken}
use Rattle.fut_aliases.specs.Aliases.{Naming, Set}
use Rattle.fut_aliases.specs.Calls.{Here, Held, too_hungry, too_shared}
use Rattle.fut_aliases.specs.Looking.{let_fits, misfit, all_misfit, fields_misfit, values_of as parts_in}
use Rattle.fut_aliases.specs.Stars.{Stars, written_stars}
use Rattle.fut_aliases.specs.Steps.{Answer, Done, Losses, and_then, demand, or_else}
use Rattle.fut_aliases.specs.Values.{Value, no_value, part_named}
use Rattle.alias_values.specs.declared.trees.StarTree.{StarTree}
use Rattle.alias_values.specs.declared.trees.ValueTree.{ValueTree}
use Rattle.alias_values.specs.declared.trees.ValueTree.TheVariants as value
use Rattle.alias_values.specs.Trees.{value_of, values_of}
use Rattle.alias_values.proofs.Forms.{value_scalar, value_array, value_function, value_parts}
use Rattle.alias_values.proofs.Rows.{values_at, values_end}
use Rattle.uniqueness.specs.Answers.{Stepped, stepped, refused}
use Rattle.uniqueness.specs.declared.held.Stop.TheVariants as stop
use Rattle.uniqueness.proofs.Growing.{grows_not}
use Rattle.alias_patterns.specs.Ruled.{held_with}
use Rattle.alias_patterns.specs.Fields.{field_names}
use Rattle.alias_patterns.proofs.Fields.{names_at, names_end, patterns_at, patterns_end, record_pattern}

-- ---- both rules, one after the other

module _ (naming : Naming) (N : Names) (K : Kinds) (types : Sub) (h : Here) (p : FlatPattern) (q : ℕ) (a : Held) (ls : Losses) where
  abbrev asked_both : Option Broken → Answer (Done (Unit {0}))
  asked_both (Some b) = Err b
  asked_both None = Ok (record { result = tt; losses = ls })

  two_demands : (r s : Option Broken) → and_then (demand true r) (λ z. demand true s) ls ≡ asked_both (or_else r s)
  two_demands (Some b) s = refl
  two_demands None (Some b) = refl
  two_demands None None = refl

  abbrev both : Option Broken
  both = or_else (misfit naming N K types too_hungry p q a) (misfit naming N K types too_shared p q a)

  fits_asked : h.asked ≡ true → let_fits naming N K types h p q a ls ≡ asked_both both
  fits_asked t = ap (λ b. and_then (demand b (misfit naming N K types too_hungry p q a)) (λ z. demand b (misfit naming N K types too_shared p q a)) ls) t ∙ two_demands (misfit naming N K types too_hungry p q a) (misfit naming N K types too_shared p q a)

  pub fits_not_asked : h.asked ≡ false → Stepped (λ (u : Unit {0}). tt) (let_fits naming N K types h p q a) ls ls (Ok tt)
  fits_not_asked t = stepped (ap (λ b. and_then (demand b (misfit naming N K types too_hungry p q a)) (λ z. demand b (misfit naming N K types too_shared p q a)) ls) t) (grows_not ls)

  module _ (r s : Option Broken) (hungry : r ≡ misfit naming N K types too_hungry p q a) (shared : s ≡ misfit naming N K types too_shared p q a) (t : h.asked ≡ true) where
    rules_are : or_else r s ≡ both
    rules_are = ap (λ z. or_else z s) hungry ∙ ap (or_else (misfit naming N K types too_hungry p q a)) shared

    pub fits_refused : (b : Broken) → Some b ≡ or_else r s → Stepped (λ (u : Unit {0}). tt) (let_fits naming N K types h p q a) ls ls (Err (stop.Refused b))
    fits_refused b e = refused (fits_asked t ∙ ap asked_both (sym (e ∙ rules_are)))

    pub fits_done : None ≡ or_else r s → Stepped (λ (u : Unit {0}). tt) (let_fits naming N K types h p q a) ls ls (Ok tt)
    fits_done e = stepped (fits_asked t ∙ ap asked_both (sym (e ∙ rules_are))) (grows_not ls)

module _ (naming : Naming) (N : Names) (K : Kinds) (types : Sub) (rule : Stars → Held → Option Broken) where
  name_fits : (b : BindId) (q : ℕ) (a : Held) → None ≡ misfit naming N K types rule (Bound_pattern b) q a
  unfolding misfit
  name_fits b q a = refl

  none_fits : (q : ℕ) (a : Held) → None ≡ misfit naming N K types rule Wild_pattern q a
  unfolding misfit
  none_fits q a = refl

  tuple_fits : (ps : Patterns Ref BindId) (q : ℕ) (a : Held) → all_misfit naming N K types rule ps (1 + q) a (parts_in a.value) ≡ misfit naming N K types rule (Tuple_pattern ps) q a
  unfolding misfit all_misfit
  tuple_fits ps q a = refl

  no_parts : (ps : Patterns Ref BindId) (q : ℕ) (a : Held) → None ≡ all_misfit naming N K types rule ps q a no_value
  unfolding all_misfit
  no_parts no_pattern q a = refl
  no_parts (pattern_and p ps) q a = refl

  record_fits : (fs : List Text) (ps : Patterns Ref BindId) (q : ℕ) (a : Held) → fields_misfit naming N K types rule fs ps (1 + q) a ≡ misfit naming N K types rule (Record_pattern fs ps) q a
  unfolding misfit fields_misfit
  record_fits fs ps q a = refl

  typed_fits : (p : FlatPattern) (e : FlatType) (q : ℕ) (a : Held) → rule (written_stars N false e (types q)) a ≡ misfit naming N K types rule (Typed_pattern p e) q a
  unfolding misfit
  typed_fits p e q a = refl

  -- ---- one pattern

  module _ (p : Pat) (q : ℕ) (a : Held) (r : Option Broken) where
    abbrev pub Fits : Type 0
    Fits = r ≡ misfit naming N K types rule (pattern_of p) q a

    by_form : (o : FlatPattern) → pattern_of p ≡ o → r ≡ misfit naming N K types rule o q a → Fits
    by_form o e h = h ∙ sym (ap (λ z. misfit naming N K types rule z q a) e)

    pub fits_name : (b : BindId) → p.form ≡ form.Bound b → r ≡ None → Fits
    fits_name b is e = by_form _ (pattern_bound p b is) (e ∙ name_fits b q a)

    pub fits_none : p.form ≡ form.Wild → r ≡ None → Fits
    fits_none is e = by_form _ (pattern_wild p is) (e ∙ none_fits q a)

    module _ (ps : Bor (List Pat)) (is : p.form ≡ form.Tuple ps) (v : ValueTree) (value_is : a.value ≡ value_of v) where
      by_parts : (w : Value) → value_of v ≡ w → r ≡ all_misfit naming N K types rule (patterns (map pattern_of ps.now)) (1 + q) a (parts_in w) → Fits
      by_parts w i h = by_form _ (pattern_tuple p ps is) (h ∙ sym (ap (λ z. all_misfit naming N K types rule (patterns (map pattern_of ps.now)) (1 + q) a (parts_in z)) (value_is ∙ i)) ∙ tuple_fits (patterns (map pattern_of ps.now)) q a)

      pub fits_parts : (h : Head) (vs : Bor (List ValueTree)) (first : ℕ) → v ≡ value.Parts h vs → first ≡ q + 1 → r ≡ all_misfit naming N K types rule (patterns (map pattern_of ps.now)) first a (values_of vs.now) → Fits
      fits_parts h vs first i one e =
          let o : first ≡ 1 + q = omega (arith, one) in
          by_parts _ (ap value_of i ∙ value_parts h vs) (e ∙ ap (λ z. all_misfit naming N K types rule (patterns (map pattern_of ps.now)) z a (values_of vs.now)) o)

      pub fits_scalar : v ≡ value.Scalar → r ≡ None → Fits
      fits_scalar i e = by_parts _ (ap value_of i ∙ value_scalar) (e ∙ no_parts _ (1 + q) a)

      pub fits_array : (x : Bor Set) → v ≡ value.Array x → r ≡ None → Fits
      fits_array x i e = by_parts _ (ap value_of i ∙ value_array x) (e ∙ no_parts _ (1 + q) a)

      pub fits_function : (x : Bor Set) (u : Bor StarTree) → v ≡ value.Function x u → r ≡ None → Fits
      fits_function x u i e = by_parts _ (ap value_of i ∙ value_function x u) (e ∙ no_parts _ (1 + q) a)

    pub fits_fields : (fs : Bor (List PatField)) (first : ℕ) → p.form ≡ form.Record fs → first ≡ q + 1 → r ≡ fields_misfit naming N K types rule (field_names fs.now) (field_patterns fs.now) first a → Fits
    fits_fields fs first is one e =
        let o : first ≡ 1 + q = omega (arith, one) in
        by_form _ (record_pattern p fs is) (e ∙ ap (λ z. fields_misfit naming N K types rule (field_names fs.now) (field_patterns fs.now) z a) o ∙ record_fits (field_names fs.now) (field_patterns fs.now) q a)

    pub fits_typed : (o : Bor Pat) (e : Bor TypeExp) (u : Stars) → p.form ≡ form.Typed o e → u ≡ written_stars N false (written_type e.now) (types q) → r ≡ rule u a → Fits
    fits_typed o e u is w h = by_form _ (pattern_typed p o e is) (h ∙ ap (λ z. rule z a) w ∙ typed_fits (pattern_of o.now) (written_type e.now) q a)

  -- ---- a tuple's parts

  module _ (ps : List Pat) (vs : List ValueTree) (q : ℕ) (a : Held) where
    abbrev pub Parts_fit : ℕ → ℕ → Type 0
    Parts_fit i at = all_misfit naming N K types rule (patterns (map pattern_of ps)) q a (values_of vs) ≡ all_misfit naming N K types rule (patterns (map pattern_of (drop i ps))) at a (values_of (drop i vs))

    module _ (i at : ℕ) (h : Parts_fit i at) where
      part_at : (p : Pat) (v : ValueTree) → i < length ps → i < length vs
          → all_misfit naming N K types rule (patterns (map pattern_of ps)) q a (values_of vs) ≡ or_else (misfit naming N K types rule (pattern_of (get_or ps i p)) at (held_with (value_of (get_or vs i v)) a)) (all_misfit naming N K types rule (patterns (map pattern_of (drop (i + 1) ps))) (at + pattern_numbers (pattern_of (get_or ps i p))) a (values_of (drop (i + 1) vs)))
      unfolding all_misfit
      part_at p v l k =
          h ∙ ap (λ z. all_misfit naming N K types rule z at a (values_of (drop i vs))) (patterns_at pattern_of ps i p l)
          ∙ ap (all_misfit naming N K types rule (pattern_and (pattern_of (get_or ps i p)) (patterns (map pattern_of (drop (i + 1) ps)))) at a) (values_at vs i v k)

      pub parts_more : (p : Pat) (v : ValueTree) (r : Option Broken) (w : Held) (next : ℕ) → i < length ps → i < length vs → v ≡ get_or vs i v → w ≡ held_with (value_of v) a → r ≡ misfit naming N K types rule (pattern_of (get_or ps i p)) at w → false ≡ is_some r
          → next ≡ at + pattern_numbers (pattern_of (get_or ps i p)) → Parts_fit (i + 1) next
      parts_more p v None w next l k y x e s n =
          part_at p v l k ∙ ap (λ z. or_else z (all_misfit naming N K types rule (patterns (map pattern_of (drop (i + 1) ps))) (at + pattern_numbers (pattern_of (get_or ps i p))) a (values_of (drop (i + 1) vs)))) (sym (e ∙ ap (misfit naming N K types rule (pattern_of (get_or ps i p)) at) (x ∙ ap (λ z. held_with (value_of z) a) y)))
          ∙ ap (λ z. all_misfit naming N K types rule (patterns (map pattern_of (drop (i + 1) ps))) z a (values_of (drop (i + 1) vs))) (sym n)
      parts_more p v (Some b) w next l k y x e s n = cc

      pub parts_here : (p : Pat) (v : ValueTree) (r : Option Broken) (w : Held) → i < length ps → i < length vs → v ≡ get_or vs i v → w ≡ held_with (value_of v) a → r ≡ misfit naming N K types rule (pattern_of (get_or ps i p)) at w → true ≡ is_some r
          → r ≡ all_misfit naming N K types rule (patterns (map pattern_of ps)) q a (values_of vs)
      parts_here p v None w l k y x e s = cc
      parts_here p v (Some b) w l k y x e s =
          sym (part_at p v l k ∙ ap (λ z. or_else z (all_misfit naming N K types rule (patterns (map pattern_of (drop (i + 1) ps))) (at + pattern_numbers (pattern_of (get_or ps i p))) a (values_of (drop (i + 1) vs)))) (sym (e ∙ ap (misfit naming N K types rule (pattern_of (get_or ps i p)) at) (x ∙ ap (λ z. held_with (value_of z) a) y))))

      pub parts_end : length ps ≤ i → None ≡ all_misfit naming N K types rule (patterns (map pattern_of ps)) q a (values_of vs)
      unfolding all_misfit
      parts_end l = sym (h ∙ ap (λ z. all_misfit naming N K types rule z at a (values_of (drop i vs))) (patterns_end pattern_of ps i l))

      pub parts_short : length vs ≤ i → None ≡ all_misfit naming N K types rule (patterns (map pattern_of ps)) q a (values_of vs)
      parts_short l = no_parts (patterns (map pattern_of (drop i ps))) at a ∙ sym (h ∙ ap (all_misfit naming N K types rule (patterns (map pattern_of (drop i ps))) at a) (values_end vs i l))

  -- ---- a record's fields

  module _ (fs : List PatField) (q : ℕ) (a : Held) where
    abbrev pub Fields_fit : ℕ → ℕ → Type 0
    Fields_fit i at = fields_misfit naming N K types rule (field_names fs) (field_patterns fs) q a ≡ fields_misfit naming N K types rule (field_names (drop i fs)) (field_patterns (drop i fs)) at a

    module _ (i at : ℕ) (h : Fields_fit i at) where
      abbrev rest_fits : ℕ → Option Broken
      rest_fits n = fields_misfit naming N K types rule (field_names (drop (i + 1) fs)) (field_patterns (drop (i + 1) fs)) n a

      field_at : (f : PatField) → i < length fs → fields_misfit naming N K types rule (field_names fs) (field_patterns fs) q a
          ≡ or_else (misfit naming N K types rule (pattern_of (get_or fs i f).pat) at (held_with (part_named N (get_or fs i f).name.now a.value) a)) (rest_fits (at + pattern_numbers (pattern_of (get_or fs i f).pat)))
      unfolding fields_misfit
      field_at f l =
          h ∙ ap (λ z. fields_misfit naming N K types rule z (field_patterns (drop i fs)) at a) (names_at (λ (f : PatField). f.name.now) fs i f l)
          ∙ ap (λ z. fields_misfit naming N K types rule ((get_or fs i f).name.now ∷ field_names (drop (i + 1) fs)) z at a) (patterns_at (λ (f : PatField). pattern_of f.pat) fs i f l)

      module _ (f : PatField) (r : Option Broken) (v : Value) (w : Held) (l : i < length fs) (part : v ≡ part_named N (get_or fs i f).name.now a.value) (x : w ≡ held_with v a) (e : r ≡ misfit naming N K types rule (pattern_of (get_or fs i f).pat) at w) where
        field_is : fields_misfit naming N K types rule (field_names fs) (field_patterns fs) q a ≡ or_else r (rest_fits (at + pattern_numbers (pattern_of (get_or fs i f).pat)))
        field_is = field_at f l ∙ ap (λ z. or_else z (rest_fits (at + pattern_numbers (pattern_of (get_or fs i f).pat)))) (sym (e ∙ ap (misfit naming N K types rule (pattern_of (get_or fs i f).pat) at) (x ∙ ap (λ z. held_with z a) part)))

        pub fields_more : (next : ℕ) → false ≡ is_some r → next ≡ at + pattern_numbers (pattern_of (get_or fs i f).pat) → Fields_fit (i + 1) next
        fields_more next s n = field_is ∙ no_rule r s ∙ ap rest_fits (sym n)
          where
            no_rule : (o : Option Broken) → false ≡ is_some o → or_else o (rest_fits (at + pattern_numbers (pattern_of (get_or fs i f).pat))) ≡ rest_fits (at + pattern_numbers (pattern_of (get_or fs i f).pat))
            no_rule None s = refl
            no_rule (Some b) s = cc

        pub fields_here : true ≡ is_some r → r ≡ fields_misfit naming N K types rule (field_names fs) (field_patterns fs) q a
        fields_here s = a_rule r s ∙ sym field_is
          where
            a_rule : (o : Option Broken) → true ≡ is_some o → o ≡ or_else o (rest_fits (at + pattern_numbers (pattern_of (get_or fs i f).pat)))
            a_rule None s = cc
            a_rule (Some b) s = refl

      pub fields_end : length fs ≤ i → None ≡ fields_misfit naming N K types rule (field_names fs) (field_patterns fs) q a
      unfolding fields_misfit
      fields_end l = sym (h ∙ ap (λ z. fields_misfit naming N K types rule z (field_patterns (drop i fs)) at a) (names_end (λ (f : PatField). f.name.now) fs i l))
