-- Terms that a size may name, form by form.
use Rattle.std.proofs.Common.{◌≡◌, ℕ, cond, List, [], ◌∷◌, length, map, Option, Some, None, Bool, true, false, refl, sym, ap, ◌∙◌, arith}
use Rattle.std.specs.Borrow.{Bor}
use Rattle.fut_scalar.specs.declared.place.BindId.{BindId}
use Rattle.fut_scalar.specs.declared.place.Place.{Place}
use Rattle.fut_scalar.specs.declared.scalar.IntType.{IntType}
use Rattle.fut_scalar.specs.declared.scalar.ScalarType.{ScalarType}
use Rattle.fut_flat.specs.declared.act.Act.{Act}
use Rattle.fut_flat.specs.declared.act.Act.TheVariants as act
use Rattle.fut_flat.specs.declared.exp.Exp.{Exp}
use Rattle.fut_flat.specs.declared.exp.Form.TheVariants as form
use Rattle.fut_flat.specs.declared.exp.Let.{Let as LetTree}
use Rattle.fut_flat.specs.declared.exp.Loop.{Loop as LoopTree}
use Rattle.fut_flat.specs.declared.pat.Pat.{Pat}
use Rattle.fut_flat.specs.declared.prim.Primitive.{Primitive}
use Rattle.fut_flat.specs.declared.prim.Ref.{Ref}
use Rattle.fut_flat.specs.declared.prim.Ref.TheVariants as ref
use Rattle.fut_flat.specs.Terms.{Integer, Truth, Tuple_of, Record_of, Array_of, Binary, Negate, Complement, Index, Project, Update, Replace, Ascribe, Coerce, Declared, Assert, Range, Use, Strict, Lambda, Apply, Let, If, Loop, no_term, term_and}
use Rattle.fut_flat.specs.Erased.{FlatTerm, operation_of, term_of, terms, lets}
use Rattle.fut_flat.proofs.ErasedForms.{term_use, term_strict, term_lambda, term_apply, term_lets, term_if, term_loop, row_of, loop_is}
use Rattle.sized_types.specs.Sizes.{Free, Const, Name, Unknown, is_free}
use Rattle.fut_sizes.specs.Agreeing.{fits_i64}
use Rattle.fut_sizes.specs.Applications.{is_use, named_value}
use Rattle.fut_sizes.specs.Operations.{is_literal, value_of}
use Rattle.size_arena.specs.declared.dims.Free as frees
use Rattle.size_arena.specs.Trees.{free_of}
use Rattle.size_operations.specs.Values.{fitting, free_held, plain_value}

module _ (e : Exp) where
  pub value_name : (b : BindId) (k : ℕ) → e.form ≡ form.Use (ref.Bound b) k → Some (Name b.0) ≡ plain_value (term_of e)
  value_name b k is = sym (ap plain_value (term_use e (ref.Bound b) k is))

  pub value_primitive : (p : Primitive) (k : ℕ) → e.form ≡ form.Use (ref.Prim p) k → None ≡ plain_value (term_of e)
  value_primitive p k is = sym (ap plain_value (term_use e (ref.Prim p) k is))

  pub value_type : (s : ScalarType) (k : ℕ) → e.form ≡ form.Use (ref.Scalar s) k → None ≡ plain_value (term_of e)
  value_type s k is = sym (ap plain_value (term_use e (ref.Scalar s) k is))

  module _ (a : Act) (mark : Place) (es : Bor (List Exp)) (is : e.form ≡ form.Strict a mark es) where
    pub value_constant : (c : ℕ) (t : Option IntType) → a ≡ act.Int c t → length es.now ≡ 0 → Some (Const c) ≡ plain_value (term_of e)
    unfolding terms
    value_constant c t so none = sym (ap plain_value (term_strict e a mark es is) ∙ ap (λ z. plain_value (Strict (operation_of z) mark (terms (map term_of es.now)))) so ∙ by_parts es.now none)
      where
        by_parts : (xs : List Exp) → length xs ≡ 0 → plain_value (Strict (Integer c t) mark (terms (map term_of xs))) ≡ Some (Const c)
        by_parts [] q = refl
        by_parts (x ∷ xs) q = absurd (omega (arith, q))

    pub value_parts : (c : ℕ) (t : Option IntType) → a ≡ act.Int c t → (length es.now ≡ 0 → ⊥) → None ≡ plain_value (term_of e)
    unfolding terms
    value_parts c t so some = sym (ap plain_value (term_strict e a mark es is) ∙ ap (λ z. plain_value (Strict (operation_of z) mark (terms (map term_of es.now)))) so ∙ by_parts es.now some)
      where
        by_parts : (xs : List Exp) → (length xs ≡ 0 → ⊥) → plain_value (Strict (Integer c t) mark (terms (map term_of xs))) ≡ None
        by_parts [] q = elim (q refl) [ ]
        by_parts (x ∷ xs) q = refl

    pub value_other : ((c : ℕ) (t : Option IntType) → a ≡ act.Int c t → ⊥) → None ≡ plain_value (term_of e)
    value_other never = sym (ap plain_value (term_strict e a mark es is) ∙ by_act a never)
      where
        by_act : (b : Act) → ((c : ℕ) (t : Option IntType) → b ≡ act.Int c t → ⊥) → plain_value (Strict (operation_of b) mark (terms (map term_of es.now))) ≡ None
        by_act (act.Int c t) q = elim (q c t refl) [ ]
        by_act (act.Truth c) q = refl
        by_act act.Tuple q = refl
        by_act (act.Record fs) q = refl
        by_act act.Array q = refl
        by_act (act.Binary op) q = refl
        by_act act.Negate q = refl
        by_act act.Complement q = refl
        by_act (act.Index ps) q = refl
        by_act (act.Project x) q = refl
        by_act act.Update q = refl
        by_act (act.Replace x) q = refl
        by_act (act.Ascribe t) q = refl
        by_act (act.Coerce t) q = refl
        by_act (act.Declared t) q = refl
        by_act act.Assert q = refl
        by_act (act.Range stepped f) q = refl

  module _ (ls : Bor (List LetTree)) (b : Bor Exp) (is : e.form ≡ form.Lets ls b) where
    pub value_body : (d : Option Free) → length ls.now ≡ 0 → d ≡ plain_value (term_of b.now) → d ≡ plain_value (term_of e)
    unfolding lets
    value_body d none h = h ∙ sym (ap plain_value (term_lets e ls b is) ∙ by_row ls.now none)
      where
        by_row : (xs : List LetTree) → length xs ≡ 0 → plain_value (lets (map row_of xs) (term_of b.now)) ≡ plain_value (term_of b.now)
        by_row [] q = refl
        by_row (x ∷ xs) q = absurd (omega (arith, q))

    pub value_let : (length ls.now ≡ 0 → ⊥) → None ≡ plain_value (term_of e)
    unfolding lets
    value_let some = sym (ap plain_value (term_lets e ls b is) ∙ by_row ls.now some)
      where
        by_row : (xs : List LetTree) → (length xs ≡ 0 → ⊥) → plain_value (lets (map row_of xs) (term_of b.now)) ≡ None
        by_row [] q = elim (q refl) [ ]
        by_row (x ∷ xs) q = refl

  pub value_lambda : (ps : Bor (List Pat)) (b : Bor Exp) → e.form ≡ form.Lambda ps b → None ≡ plain_value (term_of e)
  value_lambda ps b is = sym (ap plain_value (term_lambda e ps b is))

  pub value_apply : (f x : Bor Exp) → e.form ≡ form.Apply f x → None ≡ plain_value (term_of e)
  value_apply f x is = sym (ap plain_value (term_apply e f x is))

  pub value_if : (c a b : Bor Exp) → e.form ≡ form.If c a b → None ≡ plain_value (term_of e)
  value_if c a b is = sym (ap plain_value (term_if e c a b is))

  pub value_loop : (l : Bor LoopTree) → e.form ≡ form.Loop l → None ≡ plain_value (term_of e)
  value_loop l is = sym (ap plain_value (term_loop e l is ∙ loop_is l.now))

pub ruleset values = (value_name, value_primitive, value_type, value_constant, value_parts, value_other, value_body, value_let, value_lambda, value_apply, value_if, value_loop)

-- ---- what else the value says

abbrev or_unknown : ℕ → ℕ → Option Free → Free
or_unknown n i (Some d) = d
or_unknown n i None = Unknown n i

abbrev fitted : Option Free → Option Free
fitted (Some d) = fitting d
fitted None = None

abbrev is_constant : ℕ → Option Free → Bool
is_constant c (Some d) = is_free (Const c) d
is_constant c None = false

record Known (n i c : ℕ) (e : FlatTerm) : Type 0 where
  value : named_value e ≡ fitted (plain_value e)
  size : value_of n i e ≡ or_unknown n i (named_value e)
  literal : is_literal c e ≡ is_constant c (plain_value e)

by_fit : (n i d : ℕ) (b : Bool) → cond b (Const d) (Unknown n i) ≡ or_unknown n i (cond b (Some (Const d)) None)
by_fit n i d true = refl
by_fit n i d false = refl

known : (n i c : ℕ) (e : FlatTerm) → Known n i c e
unfolding is_free
known n i c (Use (ref.Bound b) at k) = record { value = refl; size = refl; literal = refl }
known n i c (Use (ref.Prim p) at k) = record { value = refl; size = refl; literal = refl }
known n i c (Use (ref.Scalar t) at k) = record { value = refl; size = refl; literal = refl }
known n i c (Strict (Integer d t) mark no_term) = record { value = refl; size = by_fit n i d (fits_i64 d); literal = refl }
known n i c (Strict (Integer d t) mark (term_and e es)) = record { value = refl; size = refl; literal = refl }
known n i c (Strict (Truth b) mark es) = record { value = refl; size = refl; literal = refl }
known n i c (Strict Tuple_of mark es) = record { value = refl; size = refl; literal = refl }
known n i c (Strict (Record_of fs) mark es) = record { value = refl; size = refl; literal = refl }
known n i c (Strict Array_of mark es) = record { value = refl; size = refl; literal = refl }
known n i c (Strict (Binary op) mark es) = record { value = refl; size = refl; literal = refl }
known n i c (Strict Negate mark es) = record { value = refl; size = refl; literal = refl }
known n i c (Strict Complement mark es) = record { value = refl; size = refl; literal = refl }
known n i c (Strict (Index ps) mark es) = record { value = refl; size = refl; literal = refl }
known n i c (Strict (Project f) mark es) = record { value = refl; size = refl; literal = refl }
known n i c (Strict Update mark es) = record { value = refl; size = refl; literal = refl }
known n i c (Strict (Replace f) mark es) = record { value = refl; size = refl; literal = refl }
known n i c (Strict (Ascribe t) mark es) = record { value = refl; size = refl; literal = refl }
known n i c (Strict (Coerce t) mark es) = record { value = refl; size = refl; literal = refl }
known n i c (Strict (Declared t) mark es) = record { value = refl; size = refl; literal = refl }
known n i c (Strict Assert mark es) = record { value = refl; size = refl; literal = refl }
known n i c (Strict (Range stepped e) mark es) = record { value = refl; size = refl; literal = refl }
known n i c (Lambda ps e) = record { value = refl; size = refl; literal = refl }
known n i c (Apply f e) = record { value = refl; size = refl; literal = refl }
known n i c (Let b v e) = record { value = refl; size = refl; literal = refl }
known n i c (If t u e) = record { value = refl; size = refl; literal = refl }
known n i c (Loop mark ss p first turns e) = record { value = refl; size = refl; literal = refl }

module _ (e : FlatTerm) (x : Option frees.Free) (h : free_held x ≡ named_value e) where
  pub size_named : (n i : ℕ) (d : frees.Free) → x ≡ Some d → free_of d ≡ value_of n i e
  size_named n i d is = sym ((known n i 0 e).size ∙ ap (or_unknown n i) (sym h ∙ ap free_held is))

  pub size_unknown : (n i : ℕ) → x ≡ None → Unknown n i ≡ value_of n i e
  size_unknown n i is = sym ((known n i 0 e).size ∙ ap (or_unknown n i) (sym h ∙ ap free_held is))

module _ (e : FlatTerm) (x : Option frees.Free) (h : free_held x ≡ plain_value e) where
  pub literal_named : (c : ℕ) (d : frees.Free) (b : Bool) → x ≡ Some d → b ≡ is_free (Const c) (free_of d) → b ≡ is_literal c e
  literal_named c d b is g = g ∙ sym ((known 0 0 c e).literal ∙ ap (is_constant c) (sym h ∙ ap free_held is))

  pub literal_unknown : (c : ℕ) → x ≡ None → false ≡ is_literal c e
  literal_unknown c is = sym ((known 0 0 c e).literal ∙ ap (is_constant c) (sym h ∙ ap free_held is))

  pub value_fits : (d : frees.Free) (r : Option frees.Free) → x ≡ Some d → free_held r ≡ fitting (free_of d) → free_held r ≡ named_value e
  value_fits d r is g = g ∙ sym ((known 0 0 0 e).value ∙ ap fitted (sym h ∙ ap free_held is))

  pub value_not : x ≡ None → None ≡ named_value e
  value_not is = sym ((known 0 0 0 e).value ∙ ap fitted (sym h ∙ ap free_held is))

pub constant_fits : (c : ℕ) → true ≡ fits_i64 c → Some (Const c) ≡ fitting (Const c)
constant_fits c h = ap (λ b. cond b (Some (Const c)) None) h

pub constant_not : (c : ℕ) → false ≡ fits_i64 c → None ≡ fitting (Const c)
constant_not c h = ap (λ b. cond b (Some (Const c)) None) h

pub ruleset sizes = (size_named, size_unknown)

pub ruleset literals = (literal_named, literal_unknown)

pub ruleset named = (value_fits, value_not)

pub ruleset fits = (constant_fits, constant_not)

-- ---- uses of names

module _ (e : Exp) where
  pub use_name : (r : Ref) (k : ℕ) → e.form ≡ form.Use r k → true ≡ is_use (term_of e)
  use_name r k is = sym (ap is_use (term_use e r k is))

  pub use_strict : (a : Act) (mark : Place) (es : Bor (List Exp)) → e.form ≡ form.Strict a mark es → false ≡ is_use (term_of e)
  use_strict a mark es is = sym (ap is_use (term_strict e a mark es is))

  module _ (ls : Bor (List LetTree)) (b : Bor Exp) (is : e.form ≡ form.Lets ls b) where
    pub use_body : (d : Bool) → length ls.now ≡ 0 → d ≡ is_use (term_of b.now) → d ≡ is_use (term_of e)
    unfolding lets
    use_body d none h = h ∙ sym (ap is_use (term_lets e ls b is) ∙ by_row ls.now none)
      where
        by_row : (xs : List LetTree) → length xs ≡ 0 → is_use (lets (map row_of xs) (term_of b.now)) ≡ is_use (term_of b.now)
        by_row [] q = refl
        by_row (x ∷ xs) q = absurd (omega (arith, q))

    pub use_let : (length ls.now ≡ 0 → ⊥) → false ≡ is_use (term_of e)
    unfolding lets
    use_let some = sym (ap is_use (term_lets e ls b is) ∙ by_row ls.now some)
      where
        by_row : (xs : List LetTree) → (length xs ≡ 0 → ⊥) → is_use (lets (map row_of xs) (term_of b.now)) ≡ false
        by_row [] q = elim (q refl) [ ]
        by_row (x ∷ xs) q = refl

  pub use_lambda : (ps : Bor (List Pat)) (b : Bor Exp) → e.form ≡ form.Lambda ps b → false ≡ is_use (term_of e)
  use_lambda ps b is = sym (ap is_use (term_lambda e ps b is))

  pub use_apply : (f x : Bor Exp) → e.form ≡ form.Apply f x → false ≡ is_use (term_of e)
  use_apply f x is = sym (ap is_use (term_apply e f x is))

  pub use_if : (c a b : Bor Exp) → e.form ≡ form.If c a b → false ≡ is_use (term_of e)
  use_if c a b is = sym (ap is_use (term_if e c a b is))

  pub use_loop : (l : Bor LoopTree) → e.form ≡ form.Loop l → false ≡ is_use (term_of e)
  use_loop l is = sym (ap is_use (term_loop e l is ∙ loop_is l.now))

pub ruleset uses = (use_name, use_strict, use_body, use_let, use_lambda, use_apply, use_if, use_loop)
