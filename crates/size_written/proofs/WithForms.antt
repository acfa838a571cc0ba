-- Sized types with the sizes that are written, form by form.
use Rattle.std.proofs.Common.{◌≡◌, ℕ, suc, ◌+◌, ◌<◌, ◌≤◌, List, [], ◌∷◌, ◌++◌, map, length, get_or, drop, false, Option, Some, None, Result, Ok, Err, refl, sym, ap, ◌∙◌, add-one, arith}
use Rattle.std.specs.Prelude.{IfOk}
use Rattle.std.specs.Borrow.{Bor}
use Rattle.fut_ast.specs.Sorts.{Text}
use Rattle.fut_scalar.specs.declared.place.BindId.{BindId}
use Rattle.fut_scalar.specs.declared.memory.NoMemory.{NoMemory}
use Rattle.fut_flat.specs.declared.prim.Ref.{Ref}
use Rattle.fut_flat.specs.declared.ty.Size.{Size as SizeWritten}
use Rattle.fut_flat.specs.declared.ty.TypeArg.{TypeArg}
use Rattle.fut_flat.specs.declared.ty.TypeExp.{TypeExp}
use Rattle.fut_flat.specs.declared.ty.TypeField.{TypeField}
use Rattle.fut_flat.specs.declared.ty.TypeForm.TheVariants as form
use Rattle.fut_flat.specs.Terms.{Size_term, Type_use, Array_type, Unique_type, Arrow_type, Tuple_type, Record_type, Type_args, Type_terms, no_type, type_and}
use Rattle.fut_flat.specs.Erased.{FlatType, size_of as size_written, type_of, types}
use Rattle.fut_flat.proofs.ErasedPatterns.{type_use, type_array, type_unique, type_arrow, type_tuple}
use Rattle.fut_types.specs.declared.Head.{Head}
use Rattle.fut_types.specs.Shapes.{place}
use Rattle.fut_typing.specs.Names.{Names}
use Rattle.sized_types.specs.Sizes.{Dim, Size, Hole, Open, Level, Built, Fun, Sizes, size_and, levels, bound}
use Rattle.fut_sizes.specs.WrittenSizes.{all_with_sizes, argument_place, changed_part, dim_or, fields_with_sizes, levels_there, part, part_of, same_dim, with_part, with_sizes, written_dim}
use Rattle.size_arena.specs.declared.trees.SizeTree.{SizeTree}
use Rattle.size_arena.specs.Trees.{dim_of, size_of, sizes_of}
use Rattle.size_arena.proofs.Parts.{before, before_more, before_none, parts_at, parts_end}
use Rattle.size_written.specs.declared.blanks.Inside.{Inside}
use Rattle.size_written.specs.declared.blanks.Purpose.{Purpose}
use Rattle.size_written.specs.declared.heads.ArrayParts.{ArrayParts}
use Rattle.size_written.specs.declared.heads.FunctionParts.{FunctionParts}
use Rattle.size_written.specs.declared.heads.Row.{Row}
use Rattle.size_written.specs.Blanks.{Inside_of, goes_inside, left_alone, blank_of, results_of}
use Rattle.size_written.specs.Fields.{field_types, type_names}
use Rattle.size_written.specs.Heads.{Array_parts, Function_parts, Row_of, is_array, is_built, is_function}
use Rattle.size_written.proofs.PartForms.{with_found, with_none}
use Rattle.size_written.proofs.Fields.{names_at, names_end, record_type, written_at, written_end}

abbrev Results : Type 0
Results = Option (ℕ → ℕ → Dim → Dim)

abbrev Blanks : Type 0
Blanks = ℕ → Dim → Dim

-- what holds of a tree that is made, if memory does not run out
pub if_made : (r : Result (Bor SizeTree) NoMemory) (a : Size) (P : Size → Type 0) → IfOk r (λ made. size_of made.now ≡ a) → ((made : Size) → made ≡ a → P made) → IfOk r (λ made. P (size_of made.now))
if_made (Ok made) a P is h = h (size_of made.now) is
if_made (Err e) a P is h = tt

module _ (N : Names) where
  -- ---- one written type

  module _ (F : Results) (B : Blanks) (i : ℕ) where
    with_use : (x : Ref) (given : Type_args Ref BindId) (t : Size) → t ≡ with_sizes N F B i (Type_use x given) t
    unfolding with_sizes
    with_use x given t = refl

    with_array : (s : Size_term Ref BindId) (e : FlatType) (d : Dim) (t : Size) → with_sizes N F B i (Array_type s e) (Level d t) ≡ Level (dim_or (written_dim s) (B i d)) (with_sizes N F B (suc i) e t)
    unfolding with_sizes
    with_array s e d t = refl

    no_array : (s : Size_term Ref BindId) (e : FlatType) (t : Size) → is_array t ≡ false → t ≡ with_sizes N F B i (Array_type s e) t
    unfolding with_sizes
    no_array s e (Hole v) off = refl
    no_array s e (Open n v u) off = refl
    no_array s e (Level d t) off = cc
    no_array s e (Built h ts) off = refl
    no_array s e (Fun k p r) off = refl

    with_unique : (e : FlatType) (t : Size) → with_sizes N F B i (Unique_type e) t ≡ with_sizes N F B i e t
    unfolding with_sizes
    with_unique e t = refl

    with_tuple : (es : Type_terms Ref BindId) (h : Head) (ts : Sizes) → with_sizes N F B i (Tuple_type es) (Built h ts) ≡ Built h (all_with_sizes N F B i es ts)
    unfolding with_sizes all_with_sizes
    with_tuple es h ts = refl

    no_tuple : (es : Type_terms Ref BindId) (t : Size) → is_built t ≡ false → t ≡ with_sizes N F B i (Tuple_type es) t
    unfolding with_sizes
    no_tuple es (Hole v) off = refl
    no_tuple es (Open n v u) off = refl
    no_tuple es (Level d t) off = refl
    no_tuple es (Built h ts) off = cc
    no_tuple es (Fun k p r) off = refl

    with_record : (fs : List Text) (es : Type_terms Ref BindId) (t : Size) → with_sizes N F B i (Record_type fs es) t ≡ fields_with_sizes N F B i fs es t
    unfolding with_sizes fields_with_sizes
    with_record fs es t = refl

  with_arrow : (g : ℕ → ℕ → Dim → Dim) (B : Blanks) (i : ℕ) (x : Option BindId) (e f : FlatType) (k : ℕ) (p r : Size)
      → with_sizes N (Some g) B i (Arrow_type x e f) (Fun k p r) ≡ Fun k (with_sizes N (Some g) same_dim 0 e p) (bound (argument_place k x) (with_sizes N (Some g) (g k) 0 f r))
  unfolding with_sizes
  with_arrow g B i x e f k p r = refl

  no_results : (B : Blanks) (i : ℕ) (x : Option BindId) (e f : FlatType) (t : Size) → t ≡ with_sizes N None B i (Arrow_type x e f) t
  unfolding with_sizes
  no_results B i x e f t = refl

  no_arrow : (F : Results) (B : Blanks) (i : ℕ) (x : Option BindId) (e f : FlatType) (t : Size) → is_function t ≡ false → t ≡ with_sizes N F B i (Arrow_type x e f) t
  unfolding with_sizes
  no_arrow None B i x e f t off = refl
  no_arrow (Some g) B i x e f (Hole v) off = refl
  no_arrow (Some g) B i x e f (Open n v u) off = refl
  no_arrow (Some g) B i x e f (Level d t) off = refl
  no_arrow (Some g) B i x e f (Built h ts) off = refl
  no_arrow (Some g) B i x e f (Fun k p r) off = cc

  no_built : (F : Results) (B : Blanks) (i : ℕ) (fs : List Text) (es : Type_terms Ref BindId) (t : Size) → is_built t ≡ false → t ≡ fields_with_sizes N F B i fs es t
  unfolding fields_with_sizes changed_part part_of
  no_built F B i [] es t off = refl
  no_built F B i (f ∷ fs) no_type t off = refl
  no_built F B i (f ∷ fs) (type_and e es) (Hole v) off = no_built F B (levels_there (part_of N f (Hole v)) + i) fs es (Hole v) off
  no_built F B i (f ∷ fs) (type_and e es) (Open n v u) off = no_built F B (levels_there (part_of N f (Open n v u)) + i) fs es (Open n v u) off
  no_built F B i (f ∷ fs) (type_and e es) (Level d t) off = no_built F B (levels_there (part_of N f (Level d t)) + i) fs es (Level d t) off
  no_built F B i (f ∷ fs) (type_and e es) (Built h ts) off = cc
  no_built F B i (f ∷ fs) (type_and e es) (Fun k p r) off = no_built F B (levels_there (part_of N f (Fun k p r)) + i) fs es (Fun k p r) off

  -- ---- of a tree

  module _ (F : Results) (B : Blanks) (i : ℕ) (t : TypeExp) (u : SizeTree) where
    abbrev pub Is_with : Size → Type 0
    Is_with made = made ≡ with_sizes N F B i (type_of t) (size_of u)

    as_made : (e : FlatType) (v made : Size) → type_of t ≡ e → size_of u ≡ v → made ≡ with_sizes N F B i e v → Is_with made
    as_made e v made is of same = same ∙ sym (ap (λ z. with_sizes N F B i z (size_of u)) is ∙ ap (with_sizes N F B i e) of)

    pub use_with : (x : Ref) (given : Bor (List TypeArg)) → t.form ≡ form.Use x given → Is_with (size_of u)
    use_with x given is = as_made _ (size_of u) _ (type_use t x given is) refl (with_use F B i x _ (size_of u))

    module _ (s : SizeWritten) (e : Bor TypeExp) (is : t.form ≡ form.Array s e) where
      pub array_with : (a : ArrayParts) (j : ℕ) (row made : Size) → Array_parts (size_of u) (Some a) → j ≡ i + 1 → row ≡ with_sizes N F B j (type_of e.now) (size_of a.row.now)
          → made ≡ Level (dim_or (written_dim (size_written s)) (B i (dim_of a.size))) row → Is_with made
      array_with a j row made of next under m =
          as_made _ _ made (type_array t s e is) of (m ∙ ap (Level (dim_or (written_dim (size_written s)) (B i (dim_of a.size)))) (under ∙ ap (λ z. with_sizes N F B z (type_of e.now) (size_of a.row.now)) (next ∙ add-one i))
          ∙ sym (with_array F B i (size_written s) (type_of e.now) (dim_of a.size) (size_of a.row.now)))

      pub no_array_with : Array_parts (size_of u) None → Is_with (size_of u)
      no_array_with off = as_made _ (size_of u) _ (type_array t s e is) refl (no_array F B i (size_written s) (type_of e.now) (size_of u) off)

    pub unique_with : (e : Bor TypeExp) (made : Size) → t.form ≡ form.Unique e → made ≡ with_sizes N F B i (type_of e.now) (size_of u) → Is_with made
    unique_with e made is m = as_made _ (size_of u) made (type_unique t e is) refl (m ∙ sym (with_unique F B i (type_of e.now) (size_of u)))

    pub no_arrow_with : (x : Option BindId) (from to : Bor TypeExp) → t.form ≡ form.Arrow x from to → Function_parts (size_of u) None → Is_with (size_of u)
    no_arrow_with x from to is off = as_made _ (size_of u) _ (type_arrow t x from to is) refl (no_arrow F B i x (type_of from.now) (type_of to.now) (size_of u) off)

    module _ (es : Bor (List TypeExp)) (is : t.form ≡ form.Tuple es) where
      pub tuple_with : (w : Row) (all : Sizes) (made : Size) → Row_of (size_of u) (Some w) → all ≡ all_with_sizes N F B i (types (map type_of es.now)) (sizes_of w.parts.now) → made ≡ Built w.head all → Is_with made
      tuple_with w all made of a m = as_made _ _ made (type_tuple t es is) of (m ∙ ap (Built w.head) a ∙ sym (with_tuple F B i (types (map type_of es.now)) w.head (sizes_of w.parts.now)))

      pub no_tuple_with : Row_of (size_of u) None → Is_with (size_of u)
      no_tuple_with off = as_made _ (size_of u) _ (type_tuple t es is) refl (no_tuple F B i (types (map type_of es.now)) (size_of u) off)

    pub record_with : (fs : Bor (List TypeField)) (made : Size) → t.form ≡ form.Record fs → made ≡ fields_with_sizes N F B i (type_names fs.now) (field_types fs.now) (size_of u) → Is_with made
    record_with fs made is m = as_made _ (size_of u) made (record_type t fs is) refl (m ∙ sym (with_record F B i (type_names fs.now) (field_types fs.now) (size_of u)))

  module _ (F : Results) (B : Blanks) (i : ℕ) (fs : List TypeField) (u : SizeTree) where
    abbrev pub Is_record : Size → Type 0
    Is_record made = made ≡ fields_with_sizes N F B i (type_names fs) (field_types fs) (size_of u)

    pub row_with : (w : Row) (old row : List SizeTree) (made : Size) → Row_of (size_of u) (Some w) → old ≡ w.parts.now
        → Built w.head (sizes_of row) ≡ fields_with_sizes N F B i (type_names fs) (field_types fs) (Built w.head (sizes_of old)) → made ≡ Built w.head (sizes_of row) → Is_record made
    row_with w old row made of o a m = m ∙ a ∙ ap (λ z. fields_with_sizes N F B i (type_names fs) (field_types fs) (Built w.head (sizes_of z))) o ∙ sym (ap (fields_with_sizes N F B i (type_names fs) (field_types fs)) of)

    pub no_row_with : Row_of (size_of u) None → Is_record (size_of u)
    no_row_with off = no_built F B i (type_names fs) (field_types fs) (size_of u) off

  -- ---- function types

  module _ (P : Purpose) (i : ℕ) (t : TypeExp) (u : SizeTree) (x : Option BindId) (from to : Bor TypeExp) (is : t.form ≡ form.Arrow x from to) (f : FunctionParts) (of : Function_parts (size_of u) (Some f)) where
    pub alone_with : Inside_of P f.chosen None → Is_with (results_of P) (blank_of P) i t u (size_of u)
    alone_with (left_alone off) =
        as_made (results_of P) (blank_of P) i t u _ (size_of u) _ (type_arrow t x from to is) refl
        (no_results (blank_of P) i x (type_of from.now) (type_of to.now) (size_of u) ∙ ap (λ z. with_sizes N z (blank_of P) i (Arrow_type x (type_of from.now) (type_of to.now)) (size_of u)) (sym off))

    pub arrow_with : (y : Inside) (p r made : Size) → Inside_of P f.chosen (Some y) → p ≡ with_sizes N (results_of y.taken) (blank_of y.taken) 0 (type_of from.now) (size_of f.from.now)
        → r ≡ with_sizes N (results_of y.given) (blank_of y.given) 0 (type_of to.now) (size_of f.to.now) → made ≡ Fun f.chosen p (bound (argument_place f.chosen x) r) → Is_with (results_of P) (blank_of P) i t u made
    arrow_with y p r made (goes_inside g a b c d e) taken given m =
        as_made (results_of P) (blank_of P) i t u _ _ made (type_arrow t x from to is) of
        (m ∙ ap (λ z. Fun f.chosen z (bound (argument_place f.chosen x) r)) (taken ∙ ap (λ z. with_sizes N z (blank_of y.taken) 0 (type_of from.now) (size_of f.from.now)) b ∙ ap (λ z. with_sizes N (Some g) z 0 (type_of from.now) (size_of f.from.now)) c)
        ∙ ap (Fun f.chosen (with_sizes N (Some g) same_dim 0 (type_of from.now) (size_of f.from.now)))
        (ap (bound (argument_place f.chosen x)) (given ∙ ap (λ z. with_sizes N z (blank_of y.given) 0 (type_of to.now) (size_of f.to.now)) d ∙ ap (λ z. with_sizes N (Some g) z 0 (type_of to.now) (size_of f.to.now)) e))
        ∙ sym (with_arrow g (blank_of P) i x (type_of from.now) (type_of to.now) f.chosen (size_of f.from.now) (size_of f.to.now))
        ∙ ap (λ z. with_sizes N z (blank_of P) i (Arrow_type x (type_of from.now) (type_of to.now)) (Fun f.chosen (size_of f.from.now) (size_of f.to.now))) (sym a))

  -- ---- parts

  module _ (F : Results) (B : Blanks) (first : ℕ) where
    module _ (es : List TypeExp) (ts : List SizeTree) where
      abbrev pub All_with : Sizes → Type 0
      All_with made = made ≡ all_with_sizes N F B first (types (map type_of es)) (sizes_of ts)

      abbrev pub All_made : ℕ → ℕ → List SizeTree → Type 0
      All_made i n made = all_with_sizes N F B first (types (map type_of es)) (sizes_of ts) ≡ before made (all_with_sizes N F B n (types (map type_of (drop i es))) (sizes_of (drop i ts)))

      module _ (i n : ℕ) (made : List SizeTree) (h : All_made i n made) where
        pub all_next : (e : TypeExp) (t part : SizeTree) (m : ℕ) (longer : List SizeTree) → i < length es → i < length ts → t ≡ get_or ts i t → size_of part ≡ with_sizes N F B n (type_of (get_or es i e)) (size_of t)
            → m ≡ n + levels (size_of t) → longer ≡ made ++ part ∷ [] → All_made (i + 1) m longer
        unfolding with_sizes all_with_sizes
        all_next e t part m longer l k same p next b =
            let rest : Sizes = all_with_sizes N F B m (types (map type_of (drop (i + 1) es))) (sizes_of (drop (i + 1) ts)) in
            h ∙ ap (before made) (ap (λ z. all_with_sizes N F B n z (sizes_of (drop i ts))) (written_at es i type_of e l) ∙ ap (all_with_sizes N F B n (type_and (type_of (get_or es i e)) (types (map type_of (drop (i + 1) es))))) (parts_at ts i t k)
            ∙ ap (λ x. size_and (with_sizes N F B n (type_of (get_or es i e)) (size_of x)) (all_with_sizes N F B (levels (size_of x) + n) (types (map type_of (drop (i + 1) es))) (sizes_of (drop (i + 1) ts)))) (sym same)
            ∙ ap (λ z. size_and z (all_with_sizes N F B (levels (size_of t) + n) (types (map type_of (drop (i + 1) es))) (sizes_of (drop (i + 1) ts)))) (sym p)
            ∙ ap (λ z. size_and (size_of part) (all_with_sizes N F B z (types (map type_of (drop (i + 1) es))) (sizes_of (drop (i + 1) ts)))) (swapped (levels (size_of t)) n m next))
            ∙ sym (before_more made part rest) ∙ ap (λ z. before z rest) (sym b)
          where
            swapped : (x j k : ℕ) → k ≡ j + x → x + j ≡ k
            swapped x j k a = omega (arith, a)

        pub all_end : (all : List SizeTree) → length es ≤ i → length ts ≤ i → all ≡ made → All_with (sizes_of all)
        unfolding all_with_sizes
        all_end all l k a = ap sizes_of a ∙ sym (h ∙ ap (before made) (ap (λ z. all_with_sizes N F B n z (sizes_of (drop i ts))) (written_end es i type_of l) ∙ parts_end ts i k) ∙ before_none made)

    -- ---- fields

    module _ (f : TypeField) (p : Option ℕ) (old row : List SizeTree) where
      abbrev pub Field_with : Type 0
      Field_with = sizes_of row ≡ with_part p (with_sizes N F B first (type_of f.ty)) (sizes_of old)

      pub field_put : (x y : Size) → Some x ≡ part p (sizes_of old) → y ≡ with_sizes N F B first (type_of f.ty) x → sizes_of row ≡ with_part p (λ z. y) (sizes_of old) → Field_with
      field_put x y there is put = put ∙ with_found p (with_sizes N F B first (type_of f.ty)) x y (sizes_of old) (sym there) is

      pub field_left : None ≡ part p (sizes_of old) → row ≡ old → Field_with
      field_left there same = ap sizes_of same ∙ with_none p (with_sizes N F B first (type_of f.ty)) (sizes_of old) (sym there)

    module _ (fs : List TypeField) (h : Head) (old : List SizeTree) where
      abbrev pub Fields_with : List SizeTree → Type 0
      Fields_with row = Built h (sizes_of row) ≡ fields_with_sizes N F B first (type_names fs) (field_types fs) (Built h (sizes_of old))

      abbrev pub Fields_made : ℕ → ℕ → List SizeTree → Type 0
      Fields_made i n row = fields_with_sizes N F B first (type_names fs) (field_types fs) (Built h (sizes_of old)) ≡ fields_with_sizes N F B n (type_names (drop i fs)) (field_types (drop i fs)) (Built h (sizes_of row))

      module _ (i n : ℕ) (row : List SizeTree) (made : Fields_made i n row) where
        pub fields_next : (f : TypeField) (next : List SizeTree) (m : ℕ) → i < length fs → sizes_of next ≡ with_part (place N.shapes (N.label (get_or fs i f).name.now) h) (with_sizes N F B n (type_of (get_or fs i f).ty)) (sizes_of row)
            → m ≡ n + levels_there (part (place N.shapes (N.label (get_or fs i f).name.now) h) (sizes_of row)) → Fields_made (i + 1) m next
        unfolding with_sizes fields_with_sizes changed_part part_of
        fields_next f next m l put e =
            let there : ℕ = levels_there (part (place N.shapes (N.label (get_or fs i f).name.now) h) (sizes_of row)) in
            made ∙ ap (λ z. fields_with_sizes N F B n z (field_types (drop i fs)) (Built h (sizes_of row))) (names_at fs i (λ (f : TypeField). f.name.now) f l)
            ∙ ap (λ z. fields_with_sizes N F B n ((get_or fs i f).name.now ∷ type_names (drop (i + 1) fs)) z (Built h (sizes_of row))) (written_at fs i (λ (f : TypeField). type_of f.ty) f l)
            ∙ ap (λ z. fields_with_sizes N F B (there + n) (type_names (drop (i + 1) fs)) (field_types (drop (i + 1) fs)) (Built h z)) (sym put)
            ∙ ap (λ z. fields_with_sizes N F B z (type_names (drop (i + 1) fs)) (field_types (drop (i + 1) fs)) (Built h (sizes_of next))) (swapped there n m e)
          where
            swapped : (x j k : ℕ) → k ≡ j + x → x + j ≡ k
            swapped x j k a = omega (arith, a)

        pub fields_end : length fs ≤ i → Fields_with row
        unfolding fields_with_sizes
        fields_end l = sym (made ∙ ap (λ z. fields_with_sizes N F B n z (field_types (drop i fs)) (Built h (sizes_of row))) (names_end fs i (λ (f : TypeField). f.name.now) l) ∙ no_field (field_types (drop i fs)))
          where
            no_field : (es : Type_terms Ref BindId) → fields_with_sizes N F B n [] es (Built h (sizes_of row)) ≡ Built h (sizes_of row)
            no_field no_type = refl
            no_field (type_and e es) = refl
