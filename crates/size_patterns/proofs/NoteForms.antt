-- The sized types of a pattern's nodes, form by form.
use Rattle.std.proofs.Common.{◌≡◌, ℕ, ◌+◌, ◌<◌, ◌≤◌, List, ◌∷◌, map, length, get_or, drop, false, Some, None, Result, Ok, Err, refl, sym, ap, ◌∙◌, subst}
use Rattle.std.specs.Borrow.{Bor}
use Rattle.fut_ast.specs.Sorts.{Text}
use Rattle.fut_scalar.specs.declared.place.BindId.{BindId}
use Rattle.fut_flat.specs.declared.pat.Pat.{Pat}
use Rattle.fut_flat.specs.declared.pat.PatField.{PatField}
use Rattle.fut_flat.specs.declared.pat.PatForm.TheVariants as form
use Rattle.fut_flat.specs.declared.prim.Ref.{Ref}
use Rattle.fut_flat.specs.declared.ty.TypeExp.{TypeExp}
use Rattle.fut_flat.specs.Terms.{Bound_pattern, Wild_pattern, Tuple_pattern, Record_pattern, Typed_pattern, Patterns, no_pattern, pattern_and}
use Rattle.fut_flat.specs.Erased.{FlatPattern, FlatType, pattern_of, patterns, type_of}
use Rattle.fut_flat.specs.Numbers.{pattern_numbers}
use Rattle.fut_flat.proofs.ErasedPatterns.{pattern_bound, pattern_wild, pattern_tuple, pattern_typed}
use Rattle.fut_types.specs.declared.Head.{Head}
use Rattle.fut_types.specs.Types.{Sub}
use Rattle.fut_typing.specs.Names.{Names}
use Rattle.flat_numbers.specs.Fields.{field_patterns}
use Rattle.sized_types.specs.Sizes.{Size, Hole, Open, Level, Built, Fun, Sizes, no_size}
use Rattle.fut_sizes.specs.Sizing.{field_noted, fields_noted, parameters_noted, pattern_noted, patterns_noted}
use Rattle.fut_sizes.specs.Steps.{State, Step, give, and_then, note}
use Rattle.fut_sizes.specs.WrittenSizes.{coerced, part_of}
use Rattle.size_arena.specs.declared.agreeing.SizeErr.{SizeErr}
use Rattle.size_arena.specs.declared.trees.SizeTree.{SizeTree}
use Rattle.size_arena.specs.Trees.{size_of, sizes_of}
use Rattle.size_arena.proofs.Parts.{drop_past, parts_at, parts_end}
use Rattle.size_functions.specs.declared.takings.Taking.{Taking}
use Rattle.size_functions.specs.Takings.{takings_of}
use Rattle.size_program.specs.declared.tables.Tables.{Tables}
use Rattle.size_program.specs.Answers.{Steps}
use Rattle.size_program.proofs.StepLaws.{given, steps_stop, steps_then}
use Rattle.size_patterns.specs.declared.rows.Row.{Row}
use Rattle.size_patterns.specs.Fields.{field_names}
use Rattle.size_patterns.specs.Heads.{Done}
use Rattle.size_patterns.specs.Rows.{is_row, Is_row, a_row, no_row}
use Rattle.size_patterns.specs.Written.{one_noted}
use Rattle.size_patterns.proofs.Chains.{Goes, goes_end, goes_more, goes_stop}
use Rattle.size_patterns.proofs.PatternForms.{names_at, names_end, one_more, patterns_at, patterns_end, record_pattern}

abbrev pub Told : Type 0
Told = Result (Unit {0}) SizeErr

abbrev pub Is_size : Size → Unit {0} → Size → Type 0
Is_size t u y = y ≡ t

module _ (N : Names) (types : Sub) where
  -- ---- one form after another

  name_noted : (b : BindId) (q : ℕ) (t : Size) → pattern_noted N types (Bound_pattern b) q t ≡ and_then (note q t) (λ z. give tt)
  unfolding pattern_noted
  name_noted b q t = refl

  none_noted : (q : ℕ) (t : Size) → pattern_noted N types Wild_pattern q t ≡ and_then (note q t) (λ z. give tt)
  unfolding pattern_noted
  none_noted q t = refl

  parts_noted : (ps : Patterns Ref BindId) (q : ℕ) (h : Head) (ts : Sizes) → pattern_noted N types (Tuple_pattern ps) q (Built h ts) ≡ and_then (note q (Built h ts)) (λ z. patterns_noted N types ps (1 + q) ts)
  unfolding pattern_noted patterns_noted
  parts_noted ps q h ts = refl

  no_parts_noted : (ps : Patterns Ref BindId) (q : ℕ) (t : Size) → is_row t ≡ false → pattern_noted N types (Tuple_pattern ps) q t ≡ and_then (note q t) (λ z. give tt)
  unfolding pattern_noted
  no_parts_noted ps q (Hole v) e = refl
  no_parts_noted ps q (Open n v u) e = refl
  no_parts_noted ps q (Level d t) e = refl
  no_parts_noted ps q (Built h ts) e = cc
  no_parts_noted ps q (Fun k p r) e = refl

  record_noted : (fs : List Text) (ps : Patterns Ref BindId) (q : ℕ) (t : Size) → pattern_noted N types (Record_pattern fs ps) q t ≡ and_then (note q t) (λ z. fields_noted N types fs ps (1 + q) t)
  unfolding pattern_noted fields_noted
  record_noted fs ps q t = refl

  typed_noted : (p : FlatPattern) (e : FlatType) (q : ℕ) (t : Size) → pattern_noted N types (Typed_pattern p e) q t ≡ pattern_noted N types p q (coerced N e t)
  unfolding pattern_noted
  typed_noted p e q t = refl

  -- ---- one pattern

  module _ (p : Pat) (q : ℕ) (t : Size) (f : Tables) where
    abbrev pub Notes : Tables → Told → Type 0
    Notes h r = Steps Done (pattern_noted N types (pattern_of p) q t) f h r

    by_form : (o : FlatPattern) (u : Size) (step : Step (Unit {0})) (h : Tables) (r : Told) → pattern_of p ≡ o → t ≡ u → pattern_noted N types o q u ≡ step → Steps Done step f h r → Notes h r
    by_form o u step h r e i same done = subst (λ z. Steps Done z f h r) (sym (ap (λ z. pattern_noted N types z q t) e ∙ ap (pattern_noted N types o q) i ∙ same)) done

    module _ (g : Tables) (k : Told) (first : Steps (λ (u : Unit {0}) (y : Size). y ≡ t) (note q t) f g k) where
      note_alone : Steps Done (and_then (note q t) (λ z. give tt)) f g k
      note_alone = by_answer k refl first
        where
          by_answer : (r : Told) → k ≡ r → Steps (λ (u : Unit {0}) (y : Size). y ≡ t) (note q t) f g r → Steps Done (and_then (note q t) (λ z. give tt)) f g r
          by_answer (Ok u) e h = steps_then (Is_size t) Done (note q t) (λ z. give tt) f g g (Ok u) u (Ok u) refl h (λ y s. given Done u tt g refl)
          by_answer (Err x) e h = steps_stop (Is_size t) Done (note q t) (λ z. give tt) f g g (Err x) x refl h

      pub notes_name : (b : BindId) → p.form ≡ form.Bound b → Notes g k
      notes_name b is = by_form _ _ _ _ _ (pattern_bound p b is) refl (name_noted b q t) note_alone

      pub notes_none : p.form ≡ form.Wild → Notes g k
      notes_none is = by_form _ _ _ _ _ (pattern_wild p is) refl (none_noted q t) note_alone

      module _ (ps : Bor (List Pat)) (is : p.form ≡ form.Tuple ps) where
        pub notes_no_parts : (u : Unit {0}) → k ≡ Ok u → Is_row t None → Notes g (Ok tt)
        notes_no_parts u ok (no_row e) = by_form _ _ _ _ _ (pattern_tuple p ps is) refl (no_parts_noted (patterns (map pattern_of ps.now)) q t e)
            (steps_then (Is_size t) Done (note q t) (λ z. give tt) f g g k u (Ok tt) ok first (λ y s. given Done tt tt g refl))

        pub notes_parts : (u : Unit {0}) (row : Row) (h : Tables) (r : Told) → k ≡ Ok u → Is_row t (Some row) → Steps Done (patterns_noted N types (patterns (map pattern_of ps.now)) (1 + q) (sizes_of row.parts.now)) g h r → Notes h r
        notes_parts u row h r ok (a_row e) rest = by_form _ _ _ _ _ (pattern_tuple p ps is) e (parts_noted (patterns (map pattern_of ps.now)) q row.head (sizes_of row.parts.now))
            (steps_then (Is_size (Built row.head (sizes_of row.parts.now))) Done (note q (Built row.head (sizes_of row.parts.now))) (λ z. patterns_noted N types (patterns (map pattern_of ps.now)) (1 + q) (sizes_of row.parts.now)) f g h k u r ok
            (subst (λ (z : Size). Steps (Is_size z) (note q z) f g k) e first) (λ y s. rest))

        pub notes_tuple_not : (x : SizeErr) → k ≡ Err x → Notes g (Err x)
        notes_tuple_not x err = by_size t refl
          where
            none : is_row t ≡ false → Notes g (Err x)
            none e = by_form _ _ _ _ _ (pattern_tuple p ps is) refl (no_parts_noted (patterns (map pattern_of ps.now)) q t e) (steps_stop (Is_size t) Done (note q t) (λ z. give tt) f g g k x err first)

            by_size : (u : Size) → t ≡ u → Notes g (Err x)
            by_size (Hole v) e = none (ap is_row e)
            by_size (Open n v u) e = none (ap is_row e)
            by_size (Level d u) e = none (ap is_row e)
            by_size (Built h ts) e = by_form _ _ _ _ _ (pattern_tuple p ps is) e (parts_noted (patterns (map pattern_of ps.now)) q h ts)
                (steps_stop (Is_size (Built h ts)) Done (note q (Built h ts)) (λ z. patterns_noted N types (patterns (map pattern_of ps.now)) (1 + q) ts) f g g k x err (subst (λ (z : Size). Steps (Is_size z) (note q z) f g k) e first))
            by_size (Fun i u r) e = none (ap is_row e)

      module _ (fs : Bor (List PatField)) (is : p.form ≡ form.Record fs) where
        abbrev fields_after : Size → Step (Unit {0})
        fields_after z = fields_noted N types (field_names fs.now) (field_patterns fs.now) (1 + q) t

        pub notes_fields : (u : Unit {0}) (h : Tables) (r : Told) → k ≡ Ok u → Steps Done (fields_noted N types (field_names fs.now) (field_patterns fs.now) (1 + q) t) g h r → Notes h r
        notes_fields u h r ok rest = by_form _ _ _ _ _ (record_pattern p fs is) refl (record_noted (field_names fs.now) (field_patterns fs.now) q t) (steps_then (Is_size t) Done (note q t) fields_after f g h k u r ok first (λ y s. rest))

        pub notes_record_not : (x : SizeErr) → k ≡ Err x → Notes g (Err x)
        notes_record_not x err = by_form _ _ _ _ _ (record_pattern p fs is) refl (record_noted (field_names fs.now) (field_patterns fs.now) q t) (steps_stop (Is_size t) Done (note q t) fields_after f g g k x err first)

    pub notes_typed : (o : Bor Pat) (e : Bor TypeExp) (same : Size) (h : Tables) (r : Told) → p.form ≡ form.Typed o e → same ≡ coerced N (type_of e.now) t → Steps Done (pattern_noted N types (pattern_of o.now) q same) f h r → Notes h r
    notes_typed o e same h r is w done = by_form _ _ _ _ _ (pattern_typed p o e is) refl (typed_noted (pattern_of o.now) (type_of e.now) q t) (subst (λ z. Steps Done (pattern_noted N types (pattern_of o.now) q z) f h r) w done)

  -- ---- a tuple's parts

  abbrev pub parts_from : List Pat → List SizeTree → ℕ → ℕ → Step (Unit {0})
  parts_from ps ts i q = patterns_noted N types (patterns (map pattern_of (drop i ps))) q (sizes_of (drop i ts))

  module _ (ps : List Pat) (ts : List SizeTree) (i q : ℕ) where
    parts_next : (p : Pat) (t : SizeTree) → i < length ps → i < length ts → parts_from ps ts i q ≡ and_then (pattern_noted N types (pattern_of (get_or ps i p)) q (size_of (get_or ts i t))) (λ z. parts_from ps ts (i + 1) (q + pattern_numbers (pattern_of (get_or ps i p))))
    unfolding patterns_noted
    parts_next p t l m = ap (λ z. patterns_noted N types z q (sizes_of (drop i ts))) (patterns_at pattern_of ps i p l) ∙ ap (patterns_noted N types (pattern_and (pattern_of (get_or ps i p)) (patterns (map pattern_of (drop (i + 1) ps)))) q) (parts_at ts i t m)

    parts_done : length ps ≤ i → parts_from ps ts i q ≡ give tt
    unfolding patterns_noted
    parts_done l = ap (λ z. patterns_noted N types z q (sizes_of (drop i ts))) (patterns_end pattern_of ps i l)

    no_sizes : (qs : Patterns Ref BindId) → patterns_noted N types qs q no_size ≡ give tt
    unfolding patterns_noted
    no_sizes no_pattern = refl
    no_sizes (pattern_and o qs) = refl

    parts_short : length ts ≤ i → parts_from ps ts i q ≡ give tt
    parts_short m = ap (patterns_noted N types (patterns (map pattern_of (drop i ps))) q) (parts_end ts i m) ∙ no_sizes (patterns (map pattern_of (drop i ps)))

    module _ (f g : Tables) (whole : Step (Unit {0})) (reached : Goes f g whole (parts_from ps ts i q)) where
      pub notes_end : (u : Unit {0}) → length ps ≤ i → Steps Done whole f g (Ok u)
      notes_end u l = goes_end Done f g whole (parts_from ps ts i q) u tt reached (λ s. ap (λ (z : Step (Unit {0})). z s) (parts_done l)) refl

      pub notes_short : (u : Unit {0}) → length ts ≤ i → Steps Done whole f g (Ok u)
      notes_short u m = goes_end Done f g whole (parts_from ps ts i q) u tt reached (λ s. ap (λ (z : Step (Unit {0})). z s) (parts_short m)) refl

      module _ (h : Tables) (k : Told) (p : Pat) (t : SizeTree) (here : t ≡ get_or ts i t) (l : i < length ps) (m : i < length ts) (first : Steps Done (pattern_noted N types (pattern_of (get_or ps i p)) q (size_of t)) g h k) where
        first_part : Steps Done (pattern_noted N types (pattern_of (get_or ps i p)) q (size_of (get_or ts i t))) g h k
        first_part = subst (λ z. Steps Done (pattern_noted N types (pattern_of (get_or ps i p)) q (size_of z)) g h k) here first

        pub notes_more : (u : Unit {0}) (next : ℕ) → k ≡ Ok u → next ≡ q + pattern_numbers (pattern_of (get_or ps i p)) → Goes f h whole (parts_from ps ts (i + 1) next)
        notes_more u next is n = subst (λ z. Goes f h whole (parts_from ps ts (i + 1) z)) (sym n)
            (goes_more Done f g h whole (parts_from ps ts i q) (parts_from ps ts (i + 1) (q + pattern_numbers (pattern_of (get_or ps i p)))) (pattern_noted N types (pattern_of (get_or ps i p)) q (size_of (get_or ts i t))) k reached first_part (λ s. ap (λ (z : Step (Unit {0})). z s) (parts_next p t l m)) u is)

        pub notes_stop : (x : SizeErr) → k ≡ Err x → Steps Done whole f h (Err x)
        notes_stop x is = goes_stop Done f g h whole (parts_from ps ts i q) (parts_from ps ts (i + 1) (q + pattern_numbers (pattern_of (get_or ps i p)))) (pattern_noted N types (pattern_of (get_or ps i p)) q (size_of (get_or ts i t))) k reached first_part (λ s. ap (λ (z : Step (Unit {0})). z s) (parts_next p t l m)) Done x is

  -- ---- a record's fields

  abbrev pub fields_from : List PatField → Size → ℕ → ℕ → Step (Unit {0})
  fields_from fs t i q = fields_noted N types (field_names (drop i fs)) (field_patterns (drop i fs)) q t

  module _ (fs : List PatField) (t : Size) (i q : ℕ) where
    fields_next : (d : PatField) → i < length fs → fields_from fs t i q ≡ and_then (one_noted N types (get_or fs i d).name.now (pattern_of (get_or fs i d).pat) q t) (λ z. fields_from fs t (i + 1) (q + pattern_numbers (pattern_of (get_or fs i d).pat)))
    unfolding fields_noted
    fields_next d l = ap (λ z. fields_noted N types z (field_patterns (drop i fs)) q t) (names_at fs i d l) ∙ ap (λ z. fields_noted N types ((get_or fs i d).name.now ∷ field_names (drop (i + 1) fs)) z q t) (patterns_at (λ (d : PatField). pattern_of d.pat) fs i d l)

    fields_done : length fs ≤ i → fields_from fs t i q ≡ give tt
    unfolding fields_noted
    fields_done l = ap (λ z. fields_noted N types z (field_patterns (drop i fs)) q t) (names_end fs i l)

    module _ (f g : Tables) (whole : Step (Unit {0})) (reached : Goes f g whole (fields_from fs t i q)) where
      pub fields_end : (u : Unit {0}) → length fs ≤ i → Steps Done whole f g (Ok u)
      fields_end u l = goes_end Done f g whole (fields_from fs t i q) u tt reached (λ s. ap (λ (z : Step (Unit {0})). z s) (fields_done l)) refl

      module _ (h : Tables) (k : Told) (d : PatField) (l : i < length fs) (first : Steps Done (one_noted N types (get_or fs i d).name.now (pattern_of (get_or fs i d).pat) q t) g h k) where
        pub fields_more : (u : Unit {0}) (next : ℕ) → k ≡ Ok u → next ≡ q + pattern_numbers (pattern_of (get_or fs i d).pat) → Goes f h whole (fields_from fs t (i + 1) next)
        fields_more u next is n = subst (λ z. Goes f h whole (fields_from fs t (i + 1) z)) (sym n)
            (goes_more Done f g h whole (fields_from fs t i q) (fields_from fs t (i + 1) (q + pattern_numbers (pattern_of (get_or fs i d).pat))) (one_noted N types (get_or fs i d).name.now (pattern_of (get_or fs i d).pat) q t) k reached first (λ s. ap (λ (z : Step (Unit {0})). z s) (fields_next d l)) u is)

        pub fields_stop : (x : SizeErr) → k ≡ Err x → Steps Done whole f h (Err x)
        fields_stop x is = goes_stop Done f g h whole (fields_from fs t i q) (fields_from fs t (i + 1) (q + pattern_numbers (pattern_of (get_or fs i d).pat))) (one_noted N types (get_or fs i d).name.now (pattern_of (get_or fs i d).pat) q t) k reached first (λ s. ap (λ (z : Step (Unit {0})). z s) (fields_next d l)) Done x is

  -- one of them
  module _ (f : Text) (p : FlatPattern) (q : ℕ) (t : Size) (g h : Tables) (r : Told) where
    pub field_notes : (u : Bor SizeTree) → Some (size_of u.now) ≡ part_of N f t → Steps Done (pattern_noted N types p q (size_of u.now)) g h r → Steps Done (one_noted N types f p q t) g h r
    field_notes u e done = subst (λ z. Steps Done (field_noted z (pattern_noted N types p q)) g h r) e done

    pub field_none : None ≡ part_of N f t → Steps Done (give tt) g h r → Steps Done (one_noted N types f p q t) g h r
    field_none e done = subst (λ z. Steps Done (field_noted z (pattern_noted N types p q)) g h r) e done

  -- ---- parameters

  abbrev pub parameters_from : List Taking → ℕ → Step (Unit {0})
  parameters_from ps i = parameters_noted N types (takings_of (drop i ps))

  module _ (ps : List Taking) (i : ℕ) (f g : Tables) (whole : Step (Unit {0})) (reached : Goes f g whole (parameters_from ps i)) where
    pub parameters_end : (u : Unit {0}) → length ps ≤ i → Steps Done whole f g (Ok u)
    parameters_end u l = goes_end Done f g whole (parameters_from ps i) u tt reached (λ s. ap (λ z. parameters_noted N types (takings_of z) s) (drop_past ps i l)) refl

    module _ (h : Tables) (k : Told) (p : Taking) (l : i < length ps) (first : Steps Done (pattern_noted N types (pattern_of (get_or ps i p).pattern.now) (get_or ps i p).node (size_of (get_or ps i p).size.now)) g h k) where
      parameters_next : (s : State) → parameters_from ps i s ≡ and_then (pattern_noted N types (pattern_of (get_or ps i p).pattern.now) (get_or ps i p).node (size_of (get_or ps i p).size.now)) (λ z. parameters_from ps (i + 1)) s
      parameters_next s = ap (λ z. parameters_noted N types (takings_of z) s) (one_more ps i p l)

      pub parameters_more : (u : Unit {0}) → k ≡ Ok u → Goes f h whole (parameters_from ps (i + 1))
      parameters_more u is = goes_more Done f g h whole (parameters_from ps i) (parameters_from ps (i + 1)) (pattern_noted N types (pattern_of (get_or ps i p).pattern.now) (get_or ps i p).node (size_of (get_or ps i p).size.now)) k reached first parameters_next u is

      pub parameters_stop : (x : SizeErr) → k ≡ Err x → Steps Done whole f h (Err x)
      parameters_stop x is = goes_stop Done f g h whole (parameters_from ps i) (parameters_from ps (i + 1)) (pattern_noted N types (pattern_of (get_or ps i p).pattern.now) (get_or ps i p).node (size_of (get_or ps i p).size.now)) k reached first parameters_next Done x is
