-- The stars of written types, form by form.
use Rattle.std.proofs.Common.{◌≡◌, ◌≢◌, ℕ, ◌+◌, ◌<◌, ◌≤◌, List, [], ◌∷◌, ◌++◌, map, length, get_or, drop, Bool, true, false, Option, Some, None, refl, sym, ap, ◌∙◌, arith}
use Rattle.std.specs.Prelude.{◌==◌}
use Rattle.std.specs.Borrow.{Bor}
use Rattle.fut_ast.specs.Sorts.{Text}
use Rattle.fut_scalar.specs.declared.place.BindId.{BindId}
use Rattle.fut_flat.specs.declared.prim.Ref.{Ref}
use Rattle.fut_flat.specs.declared.ty.Size.{Size}
use Rattle.fut_flat.specs.declared.ty.TypeArg.{TypeArg}
use Rattle.fut_flat.specs.declared.ty.TypeExp.{TypeExp}
use Rattle.fut_flat.specs.declared.ty.TypeForm.TheVariants as form
use Rattle.fut_flat.specs.declared.ty.TypeField.{TypeField}
use Rattle.fut_flat.specs.declared.act.Act.{Act}
use Rattle.fut_flat.specs.declared.exp.Exp.{Exp}
use Rattle.fut_flat.specs.declared.exp.Form.TheVariants as exp
use Rattle.fut_flat.specs.declared.exp.Let.{Let as LetTree}
use Rattle.fut_flat.specs.declared.exp.Loop.{Loop as LoopTree}
use Rattle.fut_flat.specs.declared.pat.Pat.{Pat}
use Rattle.fut_flat.proofs.ErasedForms.{row_of as row_of_let, term_use, term_strict, term_lambda, term_apply, term_lets, term_if, term_loop, loop_is}
use Rattle.fut_scalar.specs.declared.place.Place.{Place}
use Rattle.fut_aliases.specs.Aliases.{Naming}
use Rattle.fut_aliases.specs.Looking.{declared_stars}
use Rattle.alias_patterns.specs.Wanted.{type_declared}
use Rattle.fut_flat.specs.Terms.{Operation, Integer, Truth, Tuple_of, Record_of, Array_of, Binary, Negate, Complement, Index, Project, Update, Replace, Ascribe, Coerce, Declared, Assert, Range, Strict, Terms}
use Rattle.fut_flat.specs.Terms.{Size_term, Type_use, Array_type, Unique_type, Arrow_type, Tuple_type, Record_type, Type_args, Type_terms, no_type, type_and}
use Rattle.fut_flat.specs.Erased.{FlatTerm, FlatType, lets, operation_of, size_of, term_of, terms, type_of as written_type, types as written_types}
use Rattle.fut_flat.proofs.ErasedPatterns.{type_use, type_array, type_unique, type_arrow, type_tuple}
use Rattle.fut_types.specs.declared.Head.{Head}
use Rattle.fut_types.specs.declared.Head.TheVariants as head
use Rattle.fut_types.specs.Shapes.{place, part_at}
use Rattle.fut_types.specs.Types.{Ty, Var, Made, Tys, none, more, Sub, Kinds}
use Rattle.fut_typing.specs.Names.{Names}
use Rattle.fut_aliases.specs.Stars.{Stars, Arrow, Row, StarRow, no_star, star_and, spread, all_spread, with_star, of_part, written_stars, tuple_stars, record_stars}
use Rattle.alias_values.specs.declared.trees.StarTree.{StarTree}
use Rattle.alias_values.specs.declared.trees.TypeTree.{TypeTree}
use Rattle.alias_values.specs.Trees.{row_of, stars_of, type_of, types_of}
use Rattle.alias_values.proofs.Rows.{types_at, types_end, row_before, row_before_more, row_before_none}
use Rattle.alias_patterns.specs.Fields.{field_types, type_names}
use Rattle.alias_patterns.specs.Heads.{Function_types, Record_types, Tuple_types}
use Rattle.alias_patterns.specs.declared.forms.RecordType.{RecordType}
use Rattle.alias_patterns.proofs.Fields.{names_at, names_end, record_type, written_at, written_end}

module _ (N : Names) (b : Bool) where
  pub written_use : (r : Ref) (given : Type_args Ref BindId) (t : Ty) → spread b t ≡ written_stars N b (Type_use r given) t
  unfolding written_stars
  written_use r given t = refl

  pub written_array : (s : Size_term Ref BindId) (e : FlatType) (t : Ty) → spread b t ≡ written_stars N b (Array_type s e) t
  unfolding written_stars
  written_array s e t = refl

  pub written_unique : (e : FlatType) (t : Ty) → written_stars N true e t ≡ written_stars N b (Unique_type e) t
  unfolding written_stars
  written_unique e t = refl

  module _ (x : Option BindId) (e f : FlatType) where
    pub written_arrow : (t u : Ty) → Arrow b (written_stars N false e t) (written_stars N false f u) ≡ written_stars N b (Arrow_type x e f) (Made head.Fun (more t (more u none)))
    unfolding written_stars
    written_arrow t u = refl

    pub no_arrow : (t : Ty) → ((p r : Ty) → t ≢ Made head.Fun (more p (more r none))) → spread b t ≡ written_stars N b (Arrow_type x e f) t
    unfolding written_stars
    no_arrow (Var v) n = refl
    no_arrow (Made head.Fun none) n = refl
    no_arrow (Made head.Fun (more t none)) n = refl
    no_arrow (Made head.Fun (more t (more u none))) n = absurd (n t u refl)
    no_arrow (Made head.Fun (more t (more u (more v ts)))) n = refl
    no_arrow (Made (head.Scalar s) ts) n = refl
    no_arrow (Made head.Array ts) n = refl
    no_arrow (Made head.Tuple ts) n = refl
    no_arrow (Made (head.Record r) ts) n = refl
    no_arrow (Made (head.Rigid r k) ts) n = refl
    no_arrow (Made (head.Abstract r d) ts) n = refl

  module _ (es : Type_terms Ref BindId) where
    pub written_tuple : (ts : Tys) → Row (tuple_stars N b es ts) ≡ written_stars N b (Tuple_type es) (Made head.Tuple ts)
    unfolding written_stars tuple_stars
    written_tuple ts = refl

    pub no_tuple : (t : Ty) → ((ts : Tys) → t ≢ Made head.Tuple ts) → spread b t ≡ written_stars N b (Tuple_type es) t
    unfolding written_stars
    no_tuple (Var v) n = refl
    no_tuple (Made head.Tuple ts) n = absurd (n ts refl)
    no_tuple (Made head.Fun ts) n = refl
    no_tuple (Made (head.Scalar s) ts) n = refl
    no_tuple (Made head.Array ts) n = refl
    no_tuple (Made (head.Record r) ts) n = refl
    no_tuple (Made (head.Rigid r k) ts) n = refl
    no_tuple (Made (head.Abstract r d) ts) n = refl

    module _ (fs : List Text) where
      pub written_record : (n : ℕ) (ts : Tys) → Row (record_stars N b fs es (head.Record n) ts (all_spread b ts)) ≡ written_stars N b (Record_type fs es) (Made (head.Record n) ts)
      unfolding written_stars record_stars
      written_record n ts = refl

      pub no_record : (t : Ty) → ((n : ℕ) (ts : Tys) → t ≢ Made (head.Record n) ts) → spread b t ≡ written_stars N b (Record_type fs es) t
      unfolding written_stars
      no_record (Var v) n = refl
      no_record (Made (head.Record r) ts) n = absurd (n r ts refl)
      no_record (Made head.Fun ts) n = refl
      no_record (Made (head.Scalar s) ts) n = refl
      no_record (Made head.Array ts) n = refl
      no_record (Made head.Tuple ts) n = refl
      no_record (Made (head.Rigid r k) ts) n = refl
      no_record (Made (head.Abstract r d) ts) n = refl

  -- ---- one written type

  module _ (t : TypeExp) (y : Ty) (u : Stars) where
    abbrev pub Is_written : Type 0
    Is_written = u ≡ written_stars N b (written_type t) y

    by_type : (o : FlatType) → written_type t ≡ o → u ≡ written_stars N b o y → Is_written
    by_type o e h = h ∙ sym (ap (λ z. written_stars N b z y) e)

    pub made_use : (r : Ref) (given : Bor (List TypeArg)) → t.form ≡ form.Use r given → u ≡ spread b y → Is_written
    made_use r given is e = by_type _ (type_use t r given is) (e ∙ written_use r _ y)

    pub made_array : (s : Size) (o : Bor TypeExp) → t.form ≡ form.Array s o → u ≡ spread b y → Is_written
    made_array s o is e = by_type _ (type_array t s o is) (e ∙ written_array (size_of s) (written_type o.now) y)

    pub made_unique : (o : Bor TypeExp) → t.form ≡ form.Unique o → u ≡ written_stars N true (written_type o.now) y → Is_written
    made_unique o is e = by_type _ (type_unique t o is) (e ∙ written_unique (written_type o.now) y)

    module _ (x : Option BindId) (from to : Bor TypeExp) (is : t.form ≡ form.Arrow x from to) where
      pub made_arrow : (ts : Bor (List TypeTree)) (t0 t1 : TypeTree) (p r : Stars) → Function_types y (Some ts) → t0 ≡ get_or ts.now 0 t0 → t1 ≡ get_or ts.now 1 t1
          → p ≡ written_stars N false (written_type from.now) (type_of t0) → r ≡ written_stars N false (written_type to.now) (type_of t1) → u ≡ Arrow b p r → Is_written
      made_arrow ts t0 t1 p r f i j q w e =
          let l : length ts.now ≡ 2 = f.0 in
          let two : types_of ts.now ≡ more (type_of (get_or ts.now 0 t0)) (more (type_of (get_or ts.now 1 t1)) none) = types_at ts.now 0 t0 (omega (arith, l)) ∙ ap (more (type_of (get_or ts.now 0 t0))) (types_at ts.now 1 t1 (omega (arith, l)) ∙ ap (more (type_of (get_or ts.now 1 t1))) (types_end ts.now 2 (omega (arith, l)))) in
          by_type _ (type_arrow t x from to is) (e ∙ ap (λ z. Arrow b z r) (q ∙ ap (λ z. written_stars N false (written_type from.now) (type_of z)) i)
          ∙ ap (Arrow b (written_stars N false (written_type from.now) (type_of (get_or ts.now 0 t0)))) (w ∙ ap (λ z. written_stars N false (written_type to.now) (type_of z)) j)
          ∙ written_arrow x (written_type from.now) (written_type to.now) (type_of (get_or ts.now 0 t0)) (type_of (get_or ts.now 1 t1))
          ∙ sym (ap (written_stars N b (Arrow_type x (written_type from.now) (written_type to.now))) (f.1 ∙ ap (Made head.Fun) two)))

      pub made_no_arrow : Function_types y None → u ≡ spread b y → Is_written
      made_no_arrow n e = by_type _ (type_arrow t x from to is) (e ∙ no_arrow x (written_type from.now) (written_type to.now) y n)

    module _ (es : Bor (List TypeExp)) (is : t.form ≡ form.Tuple es) where
      pub made_tuple : (ts : Bor (List TypeTree)) (row : StarRow) → Tuple_types y (Some ts) → row ≡ tuple_stars N b (written_types (map written_type es.now)) (types_of ts.now) → u ≡ Row row → Is_written
      made_tuple ts row f r e = by_type _ (type_tuple t es is) (e ∙ ap Row r ∙ written_tuple (written_types (map written_type es.now)) (types_of ts.now) ∙ sym (ap (written_stars N b (Tuple_type (written_types (map written_type es.now)))) f))

      pub made_no_tuple : Tuple_types y None → u ≡ spread b y → Is_written
      made_no_tuple n e = by_type _ (type_tuple t es is) (e ∙ no_tuple (written_types (map written_type es.now)) y n)

    module _ (fs : Bor (List TypeField)) (is : t.form ≡ form.Record fs) where
      pub made_record : (r : RecordType) (plain row : StarRow) → Record_types y (Some r) → plain ≡ all_spread b (types_of r.types.now) → row ≡ record_stars N b (type_names fs.now) (field_types fs.now) r.head (types_of r.types.now) plain → u ≡ Row row → Is_written
      made_record r plain row f p q e =
          by_type _ (record_type t fs is) (e ∙ ap Row (q ∙ ap (record_stars N b (type_names fs.now) (field_types fs.now) r.head (types_of r.types.now)) p ∙ ap (λ z. record_stars N b (type_names fs.now) (field_types fs.now) z (types_of r.types.now) (all_spread b (types_of r.types.now))) f.1)
          ∙ written_record (field_types fs.now) (type_names fs.now) f.0 (types_of r.types.now) ∙ sym (ap (written_stars N b (Record_type (type_names fs.now) (field_types fs.now))) (f.2 ∙ ap (λ z. Made z (types_of r.types.now)) f.1)))

      pub made_no_record : Record_types y None → u ≡ spread b y → Is_written
      made_no_record n e = by_type _ (record_type t fs is) (e ∙ no_record (field_types fs.now) (type_names fs.now) y n)

  -- ---- a tuple's parts

  no_more : (es : Type_terms Ref BindId) → tuple_stars N b es none ≡ no_star
  unfolding tuple_stars
  no_more no_type = refl
  no_more (type_and e es) = refl

  module _ (es : List TypeExp) (ts : List TypeTree) where
    abbrev pub Parts_made : ℕ → List StarTree → Type 0
    Parts_made i made = tuple_stars N b (written_types (map written_type es)) (types_of ts) ≡ row_before made (tuple_stars N b (written_types (map written_type (drop i es))) (types_of (drop i ts)))

    module _ (i : ℕ) (made : List StarTree) (h : Parts_made i made) where
      pub part_made : (e : TypeExp) (t : TypeTree) (u : StarTree) (longer : List StarTree) → i < length es → i < length ts → t ≡ get_or ts i t → stars_of u ≡ written_stars N b (written_type (get_or es i e)) (type_of t) → longer ≡ made ++ u ∷ [] → Parts_made (i + 1) longer
      unfolding written_stars tuple_stars
      part_made e t u longer l k x q p =
          h ∙ ap (row_before made) (ap (λ z. tuple_stars N b z (types_of (drop i ts))) (written_at written_type es i e l) ∙ ap (tuple_stars N b (type_and (written_type (get_or es i e)) (written_types (map written_type (drop (i + 1) es))))) (types_at ts i t k)
          ∙ ap (λ z. star_and z (tuple_stars N b (written_types (map written_type (drop (i + 1) es))) (types_of (drop (i + 1) ts)))) (sym (q ∙ ap (λ z. written_stars N b (written_type (get_or es i e)) (type_of z)) x)))
          ∙ sym (row_before_more made u (tuple_stars N b (written_types (map written_type (drop (i + 1) es))) (types_of (drop (i + 1) ts))))
          ∙ ap (λ z. row_before z (tuple_stars N b (written_types (map written_type (drop (i + 1) es))) (types_of (drop (i + 1) ts)))) (sym p)

      pub parts_end : (all : List StarTree) → length es ≤ i → all ≡ made → row_of all ≡ tuple_stars N b (written_types (map written_type es)) (types_of ts)
      unfolding tuple_stars
      parts_end all l a = ap row_of a ∙ sym (h ∙ ap (λ z. row_before made (tuple_stars N b z (types_of (drop i ts)))) (written_end written_type es i l) ∙ row_before_none made)

      pub parts_short : (all : List StarTree) → length ts ≤ i → all ≡ made → row_of all ≡ tuple_stars N b (written_types (map written_type es)) (types_of ts)
      parts_short all k a =
          ap row_of a ∙ sym (h ∙ ap (λ z. row_before made (tuple_stars N b (written_types (map written_type (drop i es))) z)) (types_end ts i k) ∙ ap (row_before made) (no_more (written_types (map written_type (drop i es)))) ∙ row_before_none made)

  -- ---- a record's fields

  module _ (fs : List TypeField) (h : Head) (ts : List TypeTree) (old : List StarTree) where
    abbrev pub Fields_made : ℕ → List StarTree → Type 0
    Fields_made i row = record_stars N b (type_names fs) (field_types fs) h (types_of ts) (row_of old) ≡ record_stars N b (type_names (drop i fs)) (field_types (drop i fs)) h (types_of ts) (row_of row)

    pub field_made : (i : ℕ) (row next : List StarTree) (u : StarTree) (f : TypeField) → Fields_made i row → i < length fs
        → stars_of u ≡ of_part (part_at (place N.shapes (N.label (get_or fs i f).name.now) h) (types_of ts)) (λ t. written_stars N b (written_type (get_or fs i f).ty) t)
        → row_of next ≡ with_star (place N.shapes (N.label (get_or fs i f).name.now) h) (stars_of u) (row_of row) → Fields_made (i + 1) next
    unfolding written_stars record_stars
    field_made i row next u f made l q p =
        made ∙ ap (λ z. record_stars N b z (field_types (drop i fs)) h (types_of ts) (row_of row)) (names_at (λ (f : TypeField). f.name.now) fs i f l)
        ∙ ap (λ z. record_stars N b ((get_or fs i f).name.now ∷ type_names (drop (i + 1) fs)) z h (types_of ts) (row_of row)) (written_at (λ (f : TypeField). written_type f.ty) fs i f l)
        ∙ ap (λ z. record_stars N b (type_names (drop (i + 1) fs)) (field_types (drop (i + 1) fs)) h (types_of ts) (with_star (place N.shapes (N.label (get_or fs i f).name.now) h) z (row_of row))) (sym q)
        ∙ ap (record_stars N b (type_names (drop (i + 1) fs)) (field_types (drop (i + 1) fs)) h (types_of ts)) (sym p)

    pub fields_end : (i : ℕ) (row : List StarTree) → Fields_made i row → length fs ≤ i → row_of row ≡ record_stars N b (type_names fs) (field_types fs) h (types_of ts) (row_of old)
    unfolding record_stars
    fields_end i row made l = sym (made ∙ ap (λ z. record_stars N b z (field_types (drop i fs)) h (types_of ts) (row_of row)) (names_end (λ (f : TypeField). f.name.now) fs i l))

-- ---- declared results

abbrev pub stars_declared : Names → Ty → Option FlatType → Option Stars
stars_declared N t (Some e) = Some (written_stars N false e t)
stars_declared N t None = None

module _ (naming : Naming) (N : Names) (K : Kinds) (types : Sub) (n : ℕ) where
  declared_act : (o : Operation Ref BindId) (mark : Place) (ts : Terms Ref BindId) → stars_declared N (types n) (type_declared o) ≡ declared_stars naming N K types (Strict o mark ts) n
  declared_act (Integer n t) mark ts = refl
  declared_act (Truth b) mark ts = refl
  declared_act Tuple_of mark ts = refl
  declared_act (Record_of fs) mark ts = refl
  declared_act Array_of mark ts = refl
  declared_act (Binary op) mark ts = refl
  declared_act Negate mark ts = refl
  declared_act Complement mark ts = refl
  declared_act (Index is) mark ts = refl
  declared_act (Project f) mark ts = refl
  declared_act Update mark ts = refl
  declared_act (Replace f) mark ts = refl
  declared_act (Ascribe t) mark ts = refl
  declared_act (Coerce t) mark ts = refl
  declared_act (Declared t) mark ts = refl
  declared_act Assert mark ts = refl
  declared_act (Range stepped end) mark ts = refl

  module _ (e : Exp) (w : Option Stars) where
    abbrev pub Declares : Type 0
    Declares = w ≡ declared_stars naming N K types (term_of e) n

    by_term : (t : FlatTerm) → term_of e ≡ t → w ≡ declared_stars naming N K types t n → Declares
    by_term t i h = h ∙ sym (ap (λ z. declared_stars naming N K types z n) i)

    pub declares_act : (a : Act) (mark : Place) (es : Bor (List Exp)) (o : Option FlatType) → e.form ≡ exp.Strict a mark es → o ≡ type_declared (operation_of a) → w ≡ stars_declared N (types n) o → Declares
    declares_act a mark es o is d h = by_term _ (term_strict e a mark es is) (h ∙ ap (stars_declared N (types n)) d ∙ declared_act (operation_of a) mark (terms (map term_of es.now)))

    pub declares_use : (r : Ref) (k : ℕ) → e.form ≡ exp.Use r k → w ≡ None → Declares
    declares_use r k is h = by_term _ (term_use e r k is) h

    pub declares_lambda : (ps : Bor (List Pat)) (b : Bor Exp) → e.form ≡ exp.Lambda ps b → w ≡ None → Declares
    declares_lambda ps b is h = by_term _ (term_lambda e ps b is) h

    pub declares_apply : (f x : Bor Exp) → e.form ≡ exp.Apply f x → w ≡ None → Declares
    declares_apply f x is h = by_term _ (term_apply e f x is) h

    pub declares_if : (c a b : Bor Exp) → e.form ≡ exp.If c a b → w ≡ None → Declares
    declares_if c a b is h = by_term _ (term_if e c a b is) h

    pub declares_loop : (l : Bor LoopTree) → e.form ≡ exp.Loop l → w ≡ None → Declares
    declares_loop l is h = by_term _ (term_loop e l is ∙ loop_is l.now) h

    pub declares_body : (ls : Bor (List LetTree)) (b : Bor Exp) → e.form ≡ exp.Lets ls b → length ls.now ≡ 0 → w ≡ declared_stars naming N K types (term_of b.now) n → Declares
    unfolding lets
    declares_body ls b is l h = by_term _ (term_lets e ls b is ∙ ap (λ z. lets (map row_of_let z) (term_of b.now)) (none ls.now l)) h
      where
        none : (xs : List LetTree) → length xs ≡ 0 → xs ≡ []
        none [] l = refl
        none (x ∷ xs) l = absurd (omega (arith, l))

    pub declares_let : (ls : Bor (List LetTree)) (b : Bor Exp) → e.form ≡ exp.Lets ls b → false ≡ (length ls.now == 0) → w ≡ None → Declares
    unfolding lets
    declares_let ls b is l h = by_term _ (term_lets e ls b is) (h ∙ some ls.now l)
      where
        some : (xs : List LetTree) → false ≡ (length xs == 0) → None ≡ declared_stars naming N K types (lets (map row_of_let xs) (term_of b.now)) n
        some [] l = cc
        some (x ∷ xs) l = refl
