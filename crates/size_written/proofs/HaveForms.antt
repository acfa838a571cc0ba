-- Whether what is found has the sizes that are written, form by form.
use Rattle.std.proofs.Common.{◌≡◌, ℕ, ◌+◌, ◌<◌, ◌≤◌, List, [], ◌∷◌, map, length, get_or, drop, Bool, true, false, cond, Option, Some, None, Result, Ok, Err, refl, sym, ap, ◌∙◌, subst}
use Rattle.std.specs.Borrow.{Bor}
use Rattle.fut_ast.specs.Sorts.{Text}
use Rattle.fut_scalar.specs.declared.place.BindId.{BindId}
use Rattle.fut_flat.specs.declared.prim.Ref.{Ref}
use Rattle.fut_flat.specs.declared.ty.Size.{Size as SizeWritten}
use Rattle.fut_flat.specs.declared.ty.TypeArg.{TypeArg}
use Rattle.fut_flat.specs.declared.ty.TypeExp.{TypeExp}
use Rattle.fut_flat.specs.declared.ty.TypeField.{TypeField}
use Rattle.fut_flat.specs.declared.ty.TypeForm.TheVariants as form
use Rattle.fut_flat.specs.Terms.{Size_term, Type_use, Array_type, Unique_type, Arrow_type, Tuple_type, Record_type, Type_args, Type_terms, no_type, type_and}
use Rattle.fut_flat.specs.Erased.{FlatType, size_of as size_written, type_of, types}
use Rattle.fut_flat.proofs.ErasedPatterns.{type_use, type_array, type_unique, type_arrow, type_tuple}
use Rattle.fut_types.specs.declared.Head.{Head}
use Rattle.fut_typing.specs.Names.{Names}
use Rattle.sized_types.specs.Sizes.{Dim, Size, Hole, Open, Level, Built, Fun, Sizes, no_size, is_dim, opened}
use Rattle.fut_sizes.specs.Agreeing.{Answer, then_do}
use Rattle.fut_sizes.specs.WrittenSizes.{all_have_sizes, fields_have_sizes, has_sizes, has_written, if_there, inside, part_of, written_dim}
use Rattle.size_arena.specs.declared.agreeing.Refusal.TheVariants as refusal
use Rattle.size_arena.specs.declared.agreeing.SizeErr.{SizeErr}
use Rattle.size_arena.specs.declared.agreeing.SizeErr.TheVariants as size_err
use Rattle.size_arena.specs.declared.dims.Dim as dims
use Rattle.size_arena.specs.declared.trees.SizeTree.{SizeTree}
use Rattle.size_arena.specs.Trees.{dim_of, size_of, sizes_of}
use Rattle.size_arena.proofs.Parts.{parts_at, parts_end}
use Rattle.size_program.specs.Answers.{answers, refuses}
use Rattle.size_program.proofs.StepLaws.{answered, answered_not, answers_then}
use Rattle.size_written.specs.declared.heads.ArrayParts.{ArrayParts}
use Rattle.size_written.specs.declared.heads.FunctionParts.{FunctionParts}
use Rattle.size_written.specs.declared.heads.Row.{Row}
use Rattle.size_written.specs.Answers.{Tested, held}
use Rattle.size_written.specs.Fields.{field_types, type_names}
use Rattle.size_written.specs.Heads.{Array_parts, Function_parts, Row_of, is_array, is_built, is_function}
use Rattle.size_written.proofs.Fields.{names_at, names_end, record_type, written_at, written_end}

abbrev pub Tests : Type 0
Tests = Result (Unit {0}) SizeErr

abbrev any : Unit {0} → Unit {0} → Type 0
any u v = Unit {0}

pub passes : Tested (Ok tt) (Ok tt)
passes = answers refl tt

-- a test, then another
module _ (a b : Answer (Unit {0})) (k : Tests) where
  pub then_test : (x : Unit {0}) (r : Tests) → k ≡ Ok x → Tested a k → Tested b r → Tested (then_do a (λ z. b)) r
  then_test x r is first rest = answers_then any any (λ z. b) a k x r is first (λ y u. rest)

  pub then_stop : (x : SizeErr) → k ≡ Err x → Tested a k → Tested (then_do a (λ z. b)) (Err x)
  then_stop x is first = answered_not any a k first any (λ z. b) x is

-- ---- one size

module _ (b : Bool) (at : ℕ) (s : SizeWritten) (d : dims.Dim) where
  abbrev pub Level_tested : Tests → Type 0
  Level_tested r = Tested (cond b (has_written at (written_dim (size_written s)) (dim_of d)) (Ok tt)) r

  pub not_asked : false ≡ b → Level_tested (Ok tt)
  not_asked h = subst (λ z. Tested (cond z (has_written at (written_dim (size_written s)) (dim_of d)) (Ok tt)) (Ok tt)) h passes

  module _ (asked : true ≡ b) where
    asks : (r : Tests) → Tested (has_written at (written_dim (size_written s)) (dim_of d)) r → Level_tested r
    asks r h = subst (λ z. Tested (cond z (has_written at (written_dim (size_written s)) (dim_of d)) (Ok tt)) r) asked h

    pub none_written : None ≡ written_dim (size_written s) → Level_tested (Ok tt)
    none_written h = asks (Ok tt) (subst (λ z. Tested (has_written at z (dim_of d)) (Ok tt)) h passes)

    module _ (w : dims.Dim) (h : Some (dim_of w) ≡ written_dim (size_written s)) where
      pub same_written : true ≡ is_dim (dim_of w) (dim_of d) → Level_tested (Ok tt)
      same_written e = asks (Ok tt) (subst (λ z. Tested (has_written at z (dim_of d)) (Ok tt)) h (answers {y = tt} (rw (sym e) refl) tt))

      pub other_written : false ≡ is_dim (dim_of w) (dim_of d) → Level_tested (Err (size_err.Refused (refusal.Mismatch at w d)))
      other_written e = asks _ (subst (λ z. Tested (has_written at z (dim_of d)) (Err (size_err.Refused (refusal.Mismatch at w d)))) h (refuses (rw (sym e) refl)))

-- ---- one written type

module _ (N : Names) (b : Bool) (at : ℕ) where
  has_use : (x : Ref) (given : Type_args Ref BindId) (t : Size) → Ok tt ≡ has_sizes N b at (Type_use x given) t
  unfolding has_sizes
  has_use x given t = refl

  has_array : (s : Size_term Ref BindId) (e : FlatType) (d : Dim) (t : Size) → has_sizes N b at (Array_type s e) (Level d t) ≡ then_do (cond b (has_written at (written_dim s) d) (Ok tt)) (λ z. has_sizes N b at e t)
  unfolding has_sizes
  has_array s e d t = refl

  no_array : (s : Size_term Ref BindId) (e : FlatType) (t : Size) → is_array t ≡ false → Ok tt ≡ has_sizes N b at (Array_type s e) t
  unfolding has_sizes
  no_array s e (Hole v) off = refl
  no_array s e (Open n v u) off = refl
  no_array s e (Level d t) off = cc
  no_array s e (Built h ts) off = refl
  no_array s e (Fun k p r) off = refl

  has_unique : (e : FlatType) (t : Size) → has_sizes N b at (Unique_type e) t ≡ has_sizes N b at e t
  unfolding has_sizes
  has_unique e t = refl

  has_arrow : (x : Option BindId) (e f : FlatType) (k : ℕ) (p r : Size) → has_sizes N b at (Arrow_type x e f) (Fun k p r) ≡ then_do (has_sizes N true at e (opened (inside at k x) p)) (λ z. has_sizes N true at f (opened (inside at k x) r))
  unfolding has_sizes
  has_arrow x e f k p r = refl

  no_arrow : (x : Option BindId) (e f : FlatType) (t : Size) → is_function t ≡ false → Ok tt ≡ has_sizes N b at (Arrow_type x e f) t
  unfolding has_sizes
  no_arrow x e f (Hole v) off = refl
  no_arrow x e f (Open n v u) off = refl
  no_arrow x e f (Level d t) off = refl
  no_arrow x e f (Built h ts) off = refl
  no_arrow x e f (Fun k p r) off = cc

  has_tuple : (es : Type_terms Ref BindId) (h : Head) (ts : Sizes) → has_sizes N b at (Tuple_type es) (Built h ts) ≡ all_have_sizes N b at es ts
  unfolding has_sizes all_have_sizes
  has_tuple es h ts = refl

  no_tuple : (es : Type_terms Ref BindId) (t : Size) → is_built t ≡ false → Ok tt ≡ has_sizes N b at (Tuple_type es) t
  unfolding has_sizes
  no_tuple es (Hole v) off = refl
  no_tuple es (Open n v u) off = refl
  no_tuple es (Level d t) off = refl
  no_tuple es (Built h ts) off = cc
  no_tuple es (Fun k p r) off = refl

  has_record : (fs : List Text) (es : Type_terms Ref BindId) (t : Size) → has_sizes N b at (Record_type fs es) t ≡ fields_have_sizes N b at fs es t
  unfolding has_sizes fields_have_sizes
  has_record fs es t = refl

  -- ---- of a tree

  module _ (t : TypeExp) (u : SizeTree) where
    abbrev pub Has : Tests → Type 0
    Has r = Tested (has_sizes N b at (type_of t) (size_of u)) r

    as_told : (e : FlatType) (v : Size) (a : Answer (Unit {0})) (r : Tests) → type_of t ≡ e → size_of u ≡ v → has_sizes N b at e v ≡ a → Tested a r → Has r
    as_told e v a r is of same h = subst (λ z. Tested z r) (sym (ap (λ z. has_sizes N b at z (size_of u)) is ∙ ap (has_sizes N b at e) of ∙ same)) h

    pub use_has : (x : Ref) (given : Bor (List TypeArg)) → t.form ≡ form.Use x given → Has (Ok tt)
    use_has x given is = as_told _ (size_of u) (Ok tt) (Ok tt) (type_use t x given is) refl (sym (has_use x _ (size_of u))) passes

    module _ (s : SizeWritten) (e : Bor TypeExp) (is : t.form ≡ form.Array s e) where
      module _ (a : ArrayParts) (of : Array_parts (size_of u) (Some a)) (k : Tests) (level : Level_tested b at s a.size k) where
        pub array_has : (x : Unit {0}) (r : Tests) → k ≡ Ok x → Tested (has_sizes N b at (type_of e.now) (size_of a.row.now)) r → Has r
        array_has x r o rest = as_told _ _ _ r (type_array t s e is) of (has_array (size_written s) (type_of e.now) (dim_of a.size) (size_of a.row.now)) (then_test _ _ k x r o level rest)

        pub array_stops : (x : SizeErr) → k ≡ Err x → Has (Err x)
        array_stops x o = as_told _ _ _ (Err x) (type_array t s e is) of (has_array (size_written s) (type_of e.now) (dim_of a.size) (size_of a.row.now)) (then_stop _ _ k x o level)

      pub no_array_has : Array_parts (size_of u) None → Has (Ok tt)
      no_array_has off = as_told _ (size_of u) (Ok tt) (Ok tt) (type_array t s e is) refl (sym (no_array (size_written s) (type_of e.now) (size_of u) off)) passes

    pub unique_has : (e : Bor TypeExp) (r : Tests) → t.form ≡ form.Unique e → Tested (has_sizes N b at (type_of e.now) (size_of u)) r → Has r
    unique_has e r is h = as_told _ (size_of u) _ r (type_unique t e is) refl (has_unique (type_of e.now) (size_of u)) h

    module _ (x : Option BindId) (from to : Bor TypeExp) (is : t.form ≡ form.Arrow x from to) where
      module _ (f : FunctionParts) (of : Function_parts (size_of u) (Some f)) (p : SizeTree) (taken : size_of p ≡ opened (inside at f.chosen x) (size_of f.from.now)) (k : Tests) (first : Tested (has_sizes N true at (type_of from.now) (size_of p)) k) where
        opened_first : Tested (has_sizes N true at (type_of from.now) (opened (inside at f.chosen x) (size_of f.from.now))) k
        opened_first = subst (λ z. Tested (has_sizes N true at (type_of from.now) z) k) taken first

        pub arrow_has : (q : SizeTree) (y : Unit {0}) (r : Tests) → size_of q ≡ opened (inside at f.chosen x) (size_of f.to.now) → k ≡ Ok y → Tested (has_sizes N true at (type_of to.now) (size_of q)) r → Has r
        arrow_has q y r given o rest =
            as_told _ _ _ r (type_arrow t x from to is) of (has_arrow x (type_of from.now) (type_of to.now) f.chosen (size_of f.from.now) (size_of f.to.now))
            (then_test _ _ k y r o opened_first (subst (λ z. Tested (has_sizes N true at (type_of to.now) z) r) given rest))

        pub arrow_stops : (y : SizeErr) → k ≡ Err y → Has (Err y)
        arrow_stops y o = as_told _ _ _ (Err y) (type_arrow t x from to is) of (has_arrow x (type_of from.now) (type_of to.now) f.chosen (size_of f.from.now) (size_of f.to.now)) (then_stop _ _ k y o opened_first)

      pub no_arrow_has : Function_parts (size_of u) None → Has (Ok tt)
      no_arrow_has off = as_told _ (size_of u) (Ok tt) (Ok tt) (type_arrow t x from to is) refl (sym (no_arrow x (type_of from.now) (type_of to.now) (size_of u) off)) passes

    module _ (es : Bor (List TypeExp)) (is : t.form ≡ form.Tuple es) where
      pub tuple_has : (w : Row) (r : Tests) → Row_of (size_of u) (Some w) → Tested (all_have_sizes N b at (types (map type_of es.now)) (sizes_of w.parts.now)) r → Has r
      tuple_has w r of h = as_told _ _ _ r (type_tuple t es is) of (has_tuple (types (map type_of es.now)) w.head (sizes_of w.parts.now)) h

      pub no_tuple_has : Row_of (size_of u) None → Has (Ok tt)
      no_tuple_has off = as_told _ (size_of u) (Ok tt) (Ok tt) (type_tuple t es is) refl (sym (no_tuple (types (map type_of es.now)) (size_of u) off)) passes

    pub record_has : (fs : Bor (List TypeField)) (r : Tests) → t.form ≡ form.Record fs → Tested (fields_have_sizes N b at (type_names fs.now) (field_types fs.now) (size_of u)) r → Has r
    record_has fs r is h = as_told _ (size_of u) _ r (record_type t fs is) refl (has_record (type_names fs.now) (field_types fs.now) (size_of u)) h

  -- ---- parts

  no_more : (es : Type_terms Ref BindId) → all_have_sizes N b at es no_size ≡ Ok tt
  unfolding all_have_sizes
  no_more no_type = refl
  no_more (type_and e es) = refl

  module _ (es : List TypeExp) (ts : List SizeTree) where
    abbrev pub All_from : ℕ → Answer (Unit {0})
    All_from i = all_have_sizes N b at (types (map type_of (drop i es))) (sizes_of (drop i ts))

    abbrev pub All_so_far : ℕ → Type 0
    All_so_far i = all_have_sizes N b at (types (map type_of es)) (sizes_of ts) ≡ All_from i

    abbrev pub All_have : Tests → Type 0
    All_have r = Tested (all_have_sizes N b at (types (map type_of es)) (sizes_of ts)) r

    module _ (i : ℕ) (h : All_so_far i) where
      module _ (e : TypeExp) (t : SizeTree) (l : i < length es) (m : i < length ts) (same : t ≡ get_or ts i t) where
        one_more : All_from i ≡ then_do (has_sizes N b at (type_of (get_or es i e)) (size_of t)) (λ z. All_from (i + 1))
        unfolding has_sizes all_have_sizes
        one_more = ap (λ z. all_have_sizes N b at z (sizes_of (drop i ts))) (written_at es i type_of e l) ∙ ap (all_have_sizes N b at (type_and (type_of (get_or es i e)) (types (map type_of (drop (i + 1) es))))) (parts_at ts i t m)
            ∙ ap (λ z. then_do (has_sizes N b at (type_of (get_or es i e)) (size_of z)) (λ y. All_from (i + 1))) (sym same)

        module _ (k : Tests) (one : Tested (has_sizes N b at (type_of (get_or es i e)) (size_of t)) k) where
          pub all_next : (x : Unit {0}) → k ≡ Ok x → All_so_far (i + 1)
          all_next x o = let d = answered any _ k one x o in h ∙ one_more ∙ ap (λ z. then_do z (λ y. All_from (i + 1))) d.is

          pub all_stops : (x : SizeErr) → k ≡ Err x → All_have (Err x)
          all_stops x o = subst (λ z. Tested z (Err x)) (sym (h ∙ one_more)) (then_stop _ (All_from (i + 1)) k x o one)

      pub all_end : length es ≤ i → All_have (Ok tt)
      unfolding all_have_sizes
      all_end l = subst (λ z. Tested z (Ok tt)) (sym (h ∙ ap (λ z. all_have_sizes N b at z (sizes_of (drop i ts))) (written_end es i type_of l))) passes

      pub all_short : length ts ≤ i → All_have (Ok tt)
      all_short l = subst (λ z. Tested z (Ok tt)) (sym (h ∙ ap (all_have_sizes N b at (types (map type_of (drop i es)))) (parts_end ts i l) ∙ no_more (types (map type_of (drop i es))))) passes

  -- ---- fields

  module _ (f : TypeField) (part : Option (Bor SizeTree)) where
    abbrev pub Field_has : Tests → Type 0
    Field_has r = Tested (if_there (held part) (λ found. has_sizes N b at (type_of f.ty) found)) r

    pub part_has : (found : Bor SizeTree) (r : Tests) → part ≡ Some found → Tested (has_sizes N b at (type_of f.ty) (size_of found.now)) r → Field_has r
    part_has found r is h = subst (λ z. Tested (if_there (held z) (λ found. has_sizes N b at (type_of f.ty) found)) r) (sym is) h

    pub no_part_has : part ≡ None → Field_has (Ok tt)
    no_part_has is = subst (λ z. Tested (if_there (held z) (λ found. has_sizes N b at (type_of f.ty) found)) (Ok tt)) (sym is) passes

  module _ (fs : List TypeField) (u : Size) where
    abbrev pub Fields_from : ℕ → Answer (Unit {0})
    Fields_from i = fields_have_sizes N b at (type_names (drop i fs)) (field_types (drop i fs)) u

    abbrev pub Fields_so_far : ℕ → Type 0
    Fields_so_far i = fields_have_sizes N b at (type_names fs) (field_types fs) u ≡ Fields_from i

    abbrev pub Fields_have : Tests → Type 0
    Fields_have r = Tested (fields_have_sizes N b at (type_names fs) (field_types fs) u) r

    module _ (i : ℕ) (h : Fields_so_far i) where
      module _ (f : TypeField) (l : i < length fs) (part : Option (Bor SizeTree)) (there : held part ≡ part_of N (get_or fs i f).name.now u) where
        one_field : Fields_from i ≡ then_do (if_there (held part) (λ found. has_sizes N b at (type_of (get_or fs i f).ty) found)) (λ z. Fields_from (i + 1))
        unfolding has_sizes fields_have_sizes
        one_field =
            ap (λ z. fields_have_sizes N b at z (field_types (drop i fs)) u) (names_at fs i (λ (f : TypeField). f.name.now) f l)
            ∙ ap (λ z. fields_have_sizes N b at ((get_or fs i f).name.now ∷ type_names (drop (i + 1) fs)) z u) (written_at fs i (λ (f : TypeField). type_of f.ty) f l)
            ∙ ap (λ z. then_do (if_there z (λ found. has_sizes N b at (type_of (get_or fs i f).ty) found)) (λ y. Fields_from (i + 1))) (sym there)

        module _ (k : Tests) (one : Field_has (get_or fs i f) part k) where
          pub fields_next : (x : Unit {0}) → k ≡ Ok x → Fields_so_far (i + 1)
          fields_next x o = let d = answered any _ k one x o in h ∙ one_field ∙ ap (λ z. then_do z (λ y. Fields_from (i + 1))) d.is

          pub fields_stop : (x : SizeErr) → k ≡ Err x → Fields_have (Err x)
          fields_stop x o = subst (λ z. Tested z (Err x)) (sym (h ∙ one_field)) (then_stop _ (Fields_from (i + 1)) k x o one)

      pub fields_end : length fs ≤ i → Fields_have (Ok tt)
      unfolding fields_have_sizes
      fields_end l = subst (λ z. Tested z (Ok tt)) (sym (h ∙ ap (λ z. fields_have_sizes N b at z (field_types (drop i fs)) u) (names_end fs i (λ (f : TypeField). f.name.now) l) ∙ no_field (field_types (drop i fs)))) passes
        where
          no_field : (es : Type_terms Ref BindId) → fields_have_sizes N b at [] es u ≡ Ok tt
          no_field no_type = refl
          no_field (type_and e es) = refl
