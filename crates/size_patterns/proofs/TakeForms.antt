-- A pattern takes a value, form by form.
use Rattle.std.proofs.Common.{◌≡◌, ℕ, ◌+◌, ◌<◌, ◌≤◌, List, ◌∷◌, map, length, get_or, drop, true, false, Some, None, Result, Ok, Err, refl, sym, ap, ◌∙◌, subst}
use Rattle.std.specs.Borrow.{Bor}
use Rattle.fut_ast.specs.Sorts.{Text}
use Rattle.fut_scalar.specs.declared.place.BindId.{BindId}
use Rattle.fut_flat.specs.declared.pat.Pat.{Pat}
use Rattle.fut_flat.specs.declared.pat.PatField.{PatField}
use Rattle.fut_flat.specs.declared.pat.PatForm.TheVariants as form
use Rattle.fut_flat.specs.declared.prim.Ref.{Ref}
use Rattle.fut_flat.specs.declared.ty.TypeExp.{TypeExp}
use Rattle.fut_flat.specs.Terms.{Bound_pattern, Wild_pattern, Tuple_pattern, Record_pattern, Typed_pattern, Patterns, no_pattern, pattern_and}
use Rattle.fut_flat.specs.Erased.{FlatPattern, FlatType, pattern_of, patterns, type_of}
use Rattle.fut_flat.proofs.ErasedPatterns.{pattern_bound, pattern_wild, pattern_tuple, pattern_typed}
use Rattle.fut_types.specs.declared.Head.{Head}
use Rattle.fut_typing.specs.Names.{Names}
use Rattle.flat_numbers.specs.Fields.{field_patterns}
use Rattle.sized_types.specs.Sizes.{Size, Hole, Open, Level, Built, Fun, Sizes, no_size}
use Rattle.fut_sizes.specs.Agreeing.{Answer, then_do}
use Rattle.fut_sizes.specs.Matching as matching
use Rattle.fut_sizes.specs.Scopes.{Taken, all_taken, fields_taken, some_part, taken, with_name}
use Rattle.fut_sizes.specs.WrittenSizes.{coerced, has_sizes, part_of}
use Rattle.size_arena.specs.declared.agreeing.SizeErr.{SizeErr}
use Rattle.size_arena.specs.declared.trees.SizeTree.{SizeTree}
use Rattle.size_arena.specs.Trees.{size_of, sizes_of}
use Rattle.size_arena.proofs.Parts.{parts_at, parts_end}
use Rattle.size_program.specs.declared.maps.NumberMap.{NumberMap}
use Rattle.size_program.specs.Answers.{Answers, answers}
use Rattle.size_program.specs.Tables.{In_scope}
use Rattle.size_program.proofs.StepLaws.{answered_not, answers_then}
use Rattle.size_slots.specs.declared.slots.Found.{Found}
use Rattle.size_slots.specs.Held.{Holds}
use Rattle.size_patterns.specs.declared.rows.Row.{Row}
use Rattle.size_patterns.specs.Bound.{Taken_in}
use Rattle.size_patterns.specs.Fields.{field_names}
use Rattle.size_patterns.specs.Rows.{is_row, Is_row, a_row, no_row}
use Rattle.size_patterns.specs.Written.{Written_in, field_taken, written_taken}
use Rattle.size_patterns.proofs.Chains.{Reaches, reach_more, reach_stop}
use Rattle.size_patterns.proofs.PatternForms.{patterns_at, patterns_end, names_at, names_end, record_pattern}

abbrev pub Names_given : Type 0
Names_given = Result (Bor NumberMap) SizeErr

-- ---- one form after another

module _ (N : Names) (bs : List BindId) (at : ℕ) where
  name_taken : (b : BindId) (t : Size) (k : Taken) → taken N bs at (Bound_pattern b) t k ≡ Ok (record { scope = with_name b.0 t k.scope; found = k.found })
  unfolding taken
  name_taken b t k = refl

  none_taken : (t : Size) (k : Taken) → taken N bs at Wild_pattern t k ≡ Ok k
  unfolding taken
  none_taken t k = refl

  parts_taken : (ps : Patterns Ref BindId) (h : Head) (ts : Sizes) (k : Taken) → taken N bs at (Tuple_pattern ps) (Built h ts) k ≡ all_taken N bs at ps ts k
  unfolding taken all_taken
  parts_taken ps h ts k = refl

  no_parts_taken : (ps : Patterns Ref BindId) (t : Size) (k : Taken) → is_row t ≡ false → taken N bs at (Tuple_pattern ps) t k ≡ Ok k
  unfolding taken
  no_parts_taken ps (Hole v) k e = refl
  no_parts_taken ps (Open n v u) k e = refl
  no_parts_taken ps (Level d t) k e = refl
  no_parts_taken ps (Built h ts) k e = cc
  no_parts_taken ps (Fun i p r) k e = refl

  fields_are_taken : (fs : List Text) (ps : Patterns Ref BindId) (t : Size) (k : Taken) → taken N bs at (Record_pattern fs ps) t k ≡ fields_taken N bs at fs ps t k
  unfolding taken fields_taken
  fields_are_taken fs ps t k = refl

  abbrev typed_next : FlatPattern → FlatType → Size → Taken → matching.Found → Answer Taken
  typed_next p e t k found = taken N bs at p (coerced N e t) (record { scope = k.scope; found = found })

  typed_taken : (p : FlatPattern) (e : FlatType) (t : Size) (k : Taken) → taken N bs at (Typed_pattern p e) t k ≡ then_do (written_taken N bs at e t k.found) (typed_next p e t k)
  unfolding taken
  typed_taken p e t k = by_met (matching.meet at matching.data_way at matching.none_opened _ matching.none_opened t k.found)
    where
      by_sizes : (a : Answer (Unit {0})) (found : matching.Found) → then_do a (λ z. typed_next p e t k found) ≡ then_do (then_do a (λ z. Ok found)) (typed_next p e t k)
      by_sizes (Ok u) found = refl
      by_sizes (Err x) found = refl

      by_met : (a : Answer matching.Found) → then_do a (λ found. then_do (has_sizes N true at e (coerced N e t)) (λ z. typed_next p e t k found))
          ≡ then_do (then_do a (λ found. then_do (has_sizes N true at e (coerced N e t)) (λ z. Ok found))) (typed_next p e t k)
      by_met (Ok found) = by_sizes (has_sizes N true at e (coerced N e t)) found
      by_met (Err x) = refl

  -- ---- one pattern, whose table is f in the end

  module _ (p : Pat) (t : SizeTree) (k : Taken) (f : Found) where
    abbrev pub Takes_so : Names_given → Type 0
    Takes_so r = Answers (Taken_in f) (taken N bs at (pattern_of p) (size_of t) k) r

    by_form : (o : FlatPattern) (u : Size) (a : Answer Taken) (r : Names_given) → pattern_of p ≡ o → size_of t ≡ u → taken N bs at o u k ≡ a → Answers (Taken_in f) a r → Takes_so r
    by_form o u a r e i same h = subst (λ z. Answers (Taken_in f) z r) (sym (ap (λ z. taken N bs at z (size_of t) k) e ∙ ap (λ z. taken N bs at o z k) i ∙ same)) h

    pub takes_name : (b : BindId) (made : Bor NumberMap) → p.form ≡ form.Bound b → In_scope made.now (with_name b.0 (size_of t) k.scope) → Holds f k.found → Takes_so (Ok made)
    takes_name b made is scope found = by_form _ _ _ _ (pattern_bound p b is) refl (name_taken b (size_of t) k) (answers refl (record { scope = scope; found = found }))

    module _ (names : Bor NumberMap) (scope : In_scope names.now k.scope) (found : Holds f k.found) where
      pub takes_none : p.form ≡ form.Wild → Takes_so (Ok names)
      takes_none is = by_form _ _ _ _ (pattern_wild p is) refl (none_taken (size_of t) k) (answers refl (record { scope = scope; found = found }))

      pub takes_no_parts : (ps : Bor (List Pat)) → p.form ≡ form.Tuple ps → Is_row (size_of t) None → Takes_so (Ok names)
      takes_no_parts ps is (no_row e) = by_form _ _ _ _ (pattern_tuple p ps is) refl (no_parts_taken (patterns (map pattern_of ps.now)) (size_of t) k e) (answers refl (record { scope = scope; found = found }))

    module _ (r : Names_given) where
      pub takes_parts : (ps : Bor (List Pat)) (row : Row) → p.form ≡ form.Tuple ps → Is_row (size_of t) (Some row) → Answers (Taken_in f) (all_taken N bs at (patterns (map pattern_of ps.now)) (sizes_of row.parts.now) k) r → Takes_so r
      takes_parts ps row is (a_row e) h = by_form _ _ _ _ (pattern_tuple p ps is) e (parts_taken (patterns (map pattern_of ps.now)) row.head (sizes_of row.parts.now) k) h

      pub takes_fields : (fs : Bor (List PatField)) → p.form ≡ form.Record fs → Answers (Taken_in f) (fields_taken N bs at (field_names fs.now) (field_patterns fs.now) (size_of t) k) r → Takes_so r
      takes_fields fs is h = by_form _ _ _ _ (record_pattern p fs is) refl (fields_are_taken (field_names fs.now) (field_patterns fs.now) (size_of t) k) h

    module _ (q : Bor Pat) (e : Bor TypeExp) (is : p.form ≡ form.Typed q e) (g : Found) (m : Result (Bor SizeTree) SizeErr) (first : Answers (Written_in g N (type_of e.now) (size_of t)) (written_taken N bs at (type_of e.now) (size_of t) k.found) m) where
      typed_is : taken N bs at (pattern_of p) (size_of t) k ≡ then_do (written_taken N bs at (type_of e.now) (size_of t) k.found) (typed_next (pattern_of q.now) (type_of e.now) (size_of t) k)
      typed_is = ap (λ z. taken N bs at z (size_of t) k) (pattern_typed p q e is) ∙ typed_taken (pattern_of q.now) (type_of e.now) (size_of t) k

      pub takes_typed : (same : Bor SizeTree) (r : Names_given) → m ≡ Ok same → ((σ : matching.Found) → Holds g σ → Answers (Taken_in f) (taken N bs at (pattern_of q.now) (size_of same.now) (record { scope = k.scope; found = σ })) r) → Takes_so r
      takes_typed same r ok rest = subst (λ z. Answers (Taken_in f) z r) (sym typed_is)
          (answers_then (Written_in g N (type_of e.now) (size_of t)) (Taken_in f) (typed_next (pattern_of q.now) (type_of e.now) (size_of t) k) (written_taken N bs at (type_of e.now) (size_of t) k.found) m same r ok first
          (λ σ w. subst (λ z. Answers (Taken_in f) (taken N bs at (pattern_of q.now) z (record { scope = k.scope; found = σ })) r) w.size (rest σ w.found)))

      pub takes_refused : (x : SizeErr) → m ≡ Err x → Takes_so (Err x)
      takes_refused x err = subst (λ z. Answers (Taken_in f) z (Err x)) (sym typed_is)
          (answered_not (Written_in g N (type_of e.now) (size_of t)) (written_taken N bs at (type_of e.now) (size_of t) k.found) m first (Taken_in f) (typed_next (pattern_of q.now) (type_of e.now) (size_of t) k) x err)

  -- ---- a tuple's parts

  abbrev pub parts_from : List Pat → List SizeTree → ℕ → Taken → Answer Taken
  parts_from ps ts i a = all_taken N bs at (patterns (map pattern_of (drop i ps))) (sizes_of (drop i ts)) a

  module _ (ps : List Pat) (ts : List SizeTree) (i : ℕ) (a : Taken) where
    pub parts_next : (p : Pat) (t : SizeTree) → i < length ps → i < length ts → parts_from ps ts i a ≡ then_do (taken N bs at (pattern_of (get_or ps i p)) (size_of (get_or ts i t)) a) (parts_from ps ts (i + 1))
    unfolding all_taken
    parts_next p t l m = ap (λ z. all_taken N bs at z (sizes_of (drop i ts)) a) (patterns_at pattern_of ps i p l) ∙ ap (λ z. all_taken N bs at (pattern_and (pattern_of (get_or ps i p)) (patterns (map pattern_of (drop (i + 1) ps)))) z a) (parts_at ts i t m)

    pub parts_done : length ps ≤ i → parts_from ps ts i a ≡ Ok a
    unfolding all_taken
    parts_done l = ap (λ z. all_taken N bs at z (sizes_of (drop i ts)) a) (patterns_end pattern_of ps i l)

    no_sizes : (qs : Patterns Ref BindId) → all_taken N bs at qs no_size a ≡ Ok a
    unfolding all_taken
    no_sizes no_pattern = refl
    no_sizes (pattern_and q qs) = refl

    pub parts_short : length ts ≤ i → parts_from ps ts i a ≡ Ok a
    parts_short m = ap (λ z. all_taken N bs at (patterns (map pattern_of (drop i ps))) z a) (parts_end ts i m) ∙ no_sizes (patterns (map pattern_of (drop i ps)))

  module _ (ps : List Pat) (ts : List SizeTree) (i : ℕ) (so : Taken → Type 0) (whole : Answer Taken) (reached : Reaches so whole (parts_from ps ts i)) (f : Found) (k : Names_given) (p : Pat) (t : SizeTree) (here : t ≡ get_or ts i t) (l : i < length ps) (m : i < length ts)
      (first : (a : Taken) → so a → Answers (Taken_in f) (taken N bs at (pattern_of (get_or ps i p)) (size_of t) a) k) where
    first_part : (a : Taken) → so a → Answers (Taken_in f) (taken N bs at (pattern_of (get_or ps i p)) (size_of (get_or ts i t)) a) k
    first_part a h = subst (λ z. Answers (Taken_in f) (taken N bs at (pattern_of (get_or ps i p)) (size_of z) a) k) here (first a h)

    pub parts_more : (names : Bor NumberMap) → k ≡ Ok names → Reaches (Taken_in f names) whole (parts_from ps ts (i + 1))
    parts_more names is = reach_more so whole (parts_from ps ts i) (λ a. taken N bs at (pattern_of (get_or ps i p)) (size_of (get_or ts i t)) a) (parts_from ps ts (i + 1)) (Taken_in f) k reached first_part (λ a h. parts_next ps ts i a p t l m) names is

    pub parts_stop : (x : SizeErr) → k ≡ Err x → Answers (Taken_in f) whole (Err x)
    parts_stop x is = reach_stop so whole (parts_from ps ts i) (λ a. taken N bs at (pattern_of (get_or ps i p)) (size_of (get_or ts i t)) a) (parts_from ps ts (i + 1)) (Taken_in f) k reached first_part (λ a h. parts_next ps ts i a p t l m) (Taken_in f) x is

  -- ---- a record's fields

  abbrev pub fields_from : List PatField → Size → ℕ → Taken → Answer Taken
  fields_from fs t i a = fields_taken N bs at (field_names (drop i fs)) (field_patterns (drop i fs)) t a

  module _ (fs : List PatField) (t : Size) (i : ℕ) (a : Taken) where
    pub fields_next : (f : PatField) → i < length fs → fields_from fs t i a ≡ then_do (field_taken N bs at (get_or fs i f).name.now (pattern_of (get_or fs i f).pat) t a) (fields_from fs t (i + 1))
    unfolding fields_taken
    fields_next f l = ap (λ z. fields_taken N bs at z (field_patterns (drop i fs)) t a) (names_at fs i f l) ∙ ap (λ z. fields_taken N bs at ((get_or fs i f).name.now ∷ field_names (drop (i + 1) fs)) z t a) (patterns_at (λ (f : PatField). pattern_of f.pat) fs i f l)

    pub fields_done : length fs ≤ i → fields_from fs t i a ≡ Ok a
    unfolding fields_taken
    fields_done l = ap (λ z. fields_taken N bs at z (field_patterns (drop i fs)) t a) (names_end fs i l)

  -- one of them
  module _ (f : Text) (p : FlatPattern) (t : Size) (k : Taken) (g : Found) (r : Names_given) where
    pub field_takes : (u : Bor SizeTree) → Some (size_of u.now) ≡ part_of N f t → Answers (Taken_in g) (taken N bs at p (size_of u.now) k) r → Answers (Taken_in g) (field_taken N bs at f p t k) r
    field_takes u e h = subst (λ z. Answers (Taken_in g) (some_part z (λ u. taken N bs at p u k) k) r) e h

    pub field_none : None ≡ part_of N f t → Answers (Taken_in g) (Ok k) r → Answers (Taken_in g) (field_taken N bs at f p t k) r
    field_none e h = subst (λ z. Answers (Taken_in g) (some_part z (λ u. taken N bs at p u k) k) r) e h

-- a name is known behind what is known
pub still_taken : (f : Found) (names : Bor NumberMap) (k : Taken) → In_scope names.now k.scope → Holds f k.found → Answers (Taken_in f) (Ok k) (Ok names)
still_taken f names k scope found = answers refl (record { scope = scope; found = found })
