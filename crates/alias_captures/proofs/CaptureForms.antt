-- What terms name from outside, form by form.
use Rattle.std.proofs.Common.{◌≡◌, ◌≢◌, ℕ, ◌+◌, ◌≤◌, List, [], ◌∷◌, map, length, get_or, drop, Option, Some, None, Ok, Err, refl, sym, ap, ◌∙◌, arith}
use Rattle.std.specs.Prelude.{Result, IfOk}
use mathlib.Core.Logic.{◌⊎◌, inl, inr}
use Rattle.std.specs.Borrow.{Bor}
use Rattle.fut_scalar.specs.declared.memory.NoMemory.{NoMemory}
use Rattle.fut_scalar.specs.declared.place.BindId.{BindId}
use Rattle.fut_scalar.specs.declared.place.Place.{Place}
use Rattle.fut_scalar.specs.declared.scalar.ScalarType.{ScalarType}
use Rattle.fut_flat.specs.declared.act.Act.{Act}
use Rattle.fut_flat.specs.declared.exp.Exp.{Exp}
use Rattle.fut_flat.specs.declared.exp.Form.TheVariants as form
use Rattle.fut_flat.specs.declared.exp.Let.{Let as LetTree}
use Rattle.fut_flat.specs.declared.exp.Loop.{Loop as LoopTree}
use Rattle.fut_flat.specs.declared.exp.LoopForm.{LoopForm}
use Rattle.fut_flat.specs.declared.exp.LoopForm.TheVariants as turns
use Rattle.fut_flat.specs.declared.pat.Pat.{Pat}
use Rattle.fut_flat.specs.declared.prim.Primitive.{Primitive}
use Rattle.fut_flat.specs.declared.prim.Ref.{Ref}
use Rattle.fut_flat.specs.declared.prim.Ref.TheVariants as ref
use Rattle.fut_flat.specs.Erased.{FlatTerm, Row, lets, operation_of, term_of, terms}
use Rattle.fut_flat.specs.Terms.{Operation, Use, Strict}
use Rattle.fut_flat.proofs.ErasedForms.{loop_of, loop_is, row_of, row_is, turns_of, term_use, term_strict, term_lambda, term_apply, term_lets, term_if, term_loop, turns_counted, turns_over, turns_while}
use Rattle.fut_typing.specs.Names.{Names}
use Rattle.fut_aliases.specs.Aliases.{Set, union}
use Rattle.fut_aliases.specs.Capturing as definition
use Rattle.fut_aliases.specs.Capturing.{Names_of, all_captured, capture, captures, one_field, turns_captured}
use Rattle.fut_aliases.specs.Patterns.{Scope}
use Rattle.alias_values.specs.declared.trees.ValueTree.{ValueTree}
use Rattle.alias_values.specs.Trees.{value_of}
use Rattle.alias_values.proofs.Rows.{drop_past, one_more}
use Rattle.alias_scopes.specs.Scopes.{held}
use Rattle.alias_captures.specs.Captures.{lets_before}

-- an answer that is also this
pub also : {A : Type 0} {P Q : A → Type 0} (r : Result A NoMemory) → ((x : A) → P x → Q x) → IfOk r P → IfOk r Q
also (Ok x) f h = f x h
also (Err e) f h = tt

module _ (N : Names) (scope : Scope) where
  -- ---- names

  pub bound_known : (r : Ref) (b : BindId) (at : Place) (k : ℕ) (v : Bor ValueTree) (o : Option (Bor ValueTree)) → r ≡ ref.Bound b → o ≡ Some v → held o ≡ scope b.0 → definition.Path (value_of v.now) ≡ capture N scope (Use r at k)
  unfolding capture
  bound_known r b at k v o is e h = ap definition.capture_of (sym (ap held e) ∙ h) ∙ ap (λ z. capture N scope (Use z at k)) (sym is)

  pub bound_unknown : (r : Ref) (b : BindId) (at : Place) (k : ℕ) (s : Set) (o : Option (Bor ValueTree)) → r ≡ ref.Bound b → o ≡ None → held o ≡ scope b.0 → s ≡ [] → Names_of s ≡ capture N scope (Use r at k)
  unfolding capture
  bound_unknown r b at k s o is e h n = ap Names_of n ∙ ap definition.capture_of (sym (ap held e) ∙ h) ∙ ap (λ z. capture N scope (Use z at k)) (sym is)

  pub elsewhere_named : (r : Ref) (at : Place) (k : ℕ) (s : Set) → ((p : Primitive) × (r ≡ ref.Prim p)) ⊎ ((t : ScalarType) × (r ≡ ref.Scalar t)) → s ≡ [] → Names_of s ≡ capture N scope (Use r at k)
  unfolding capture
  elsewhere_named r at k s (inl (p, is)) n = ap Names_of n ∙ ap (λ z. capture N scope (Use z at k)) (sym is)
  elsewhere_named r at k s (inr (t, is)) n = ap Names_of n ∙ ap (λ z. capture N scope (Use z at k)) (sym is)

  -- ---- parts

  strict_one : (o : Operation Ref BindId) (mark : Place) (es : List Exp) (d : Exp) → length es ≡ 1 → capture N scope (Strict o mark (terms (map term_of es))) ≡ one_field N o (capture N scope (term_of (get_or es 0 d)))
  unfolding capture terms
  strict_one o mark [] d l = absurd (omega (arith, l))
  strict_one o mark (e ∷ []) d l = refl
  strict_one o mark (e ∷ f ∷ es) d l = absurd (omega (arith, l))

  strict_all : (o : Operation Ref BindId) (mark : Place) (es : List Exp) → length es ≢ 1 → capture N scope (Strict o mark (terms (map term_of es))) ≡ Names_of (all_captured N scope (terms (map term_of es)))
  unfolding capture terms
  strict_all o mark [] l = refl
  strict_all o mark (e ∷ []) l = absurd (l (omega arith))
  strict_all o mark (e ∷ f ∷ es) l = refl

  module _ (es : List Exp) where
    pub all_start : (s : Set) → s ≡ [] → s ≡ all_captured N scope (terms (map term_of (drop (length es) es)))
    unfolding all_captured terms
    all_start s e = e ∙ sym (ap (λ z. all_captured N scope (terms (map term_of z))) (drop_past es (length es) (omega arith)))

    pub all_more : (i k : ℕ) (d : Exp) (all more : Set) → k + 1 ≡ i → i ≤ length es → all ≡ all_captured N scope (terms (map term_of (drop i es))) → more ≡ union (captures (capture N scope (term_of (get_or es k d)))) all → more ≡ all_captured N scope (terms (map term_of (drop k es)))
    unfolding all_captured terms
    all_more i k d all more e l h m = m ∙ ap (union (captures (capture N scope (term_of (get_or es k d))))) (h ∙ ap (λ z. all_captured N scope (terms (map term_of (drop z es)))) (sym e))
        ∙ sym (ap (λ z. all_captured N scope (terms (map term_of z))) (one_more es k d (omega (arith, e, l))))

    pub all_end : (i : ℕ) (all : Set) → i ≤ 0 → all ≡ all_captured N scope (terms (map term_of (drop i es))) → all ≡ all_captured N scope (terms (map term_of es))
    all_end i all z h = let e : i ≡ 0 = omega (arith, z) in h ∙ ap (λ k. all_captured N scope (terms (map term_of (drop k es)))) e

  -- ---- rows of lets

  module _ (ls : List LetTree) (s : Set) where
    pub lets_start : s ≡ lets_before N scope (map row_of (drop (length ls) ls)) s
    lets_start = sym (ap (λ z. lets_before N scope (map row_of z) s) (drop_past ls (length ls) (omega arith)))

    pub lets_more : (i k : ℕ) (d : LetTree) (all more : Set) → k + 1 ≡ i → i ≤ length ls → all ≡ lets_before N scope (map row_of (drop i ls)) s → more ≡ union (captures (capture N scope (term_of (get_or ls k d).value))) all → more ≡ lets_before N scope (map row_of (drop k ls)) s
    lets_more i k d all more e l h m = m ∙ ap (union (captures (capture N scope (term_of (get_or ls k d).value)))) (h ∙ ap (λ z. lets_before N scope (map row_of (drop z ls)) s) (sym e))
        ∙ ap (λ (z : Row). union (captures (capture N scope z.1)) (lets_before N scope (map row_of (drop (k + 1) ls)) s)) (sym (row_is (get_or ls k d)))
        ∙ sym (ap (λ z. lets_before N scope (map row_of z) s) (one_more ls k d (omega (arith, e, l))))

    pub lets_end : (i : ℕ) (all : Set) → i ≤ 0 → all ≡ lets_before N scope (map row_of (drop i ls)) s → all ≡ lets_before N scope (map row_of ls) s
    lets_end i all z h = let e : i ≡ 0 = omega (arith, z) in h ∙ ap (λ k. lets_before N scope (map row_of (drop k ls)) s) e

  lets_named : (ls : List Row) (body : FlatTerm) → captures (capture N scope (lets ls body)) ≡ lets_before N scope ls (captures (capture N scope body))
  unfolding capture lets
  lets_named [] body = refl
  lets_named (l ∷ ls) body = ap (union (captures (capture N scope l.1))) (lets_named ls body)

  some_lets : (ls : List LetTree) (body : FlatTerm) → length ls ≢ 0 → capture N scope (lets (map row_of ls) body) ≡ Names_of (lets_before N scope (map row_of ls) (captures (capture N scope body)))
  unfolding capture lets
  some_lets [] body l = absurd (l refl)
  some_lets (x ∷ ls) body l = ap (λ z. Names_of (union (captures (capture N scope (row_of x).1)) z)) (lets_named (map row_of ls) body)

  no_lets : (ls : List LetTree) (body : FlatTerm) → length ls ≡ 0 → capture N scope (lets (map row_of ls) body) ≡ capture N scope body
  unfolding lets
  no_lets [] body l = refl
  no_lets (x ∷ ls) body l = absurd (omega (arith, l))

  -- ---- terms

  module _ (e : Exp) (c : definition.Capture) where
    pub form_use : (r : Ref) (k : ℕ) → e.form ≡ form.Use r k → c ≡ capture N scope (Use r e.place k) → c ≡ capture N scope (term_of e)
    form_use r k is h = h ∙ ap (capture N scope) (sym (term_use e r k is))

    pub form_one : (a : Act) (mark : Place) (es : Bor (List Exp)) (d : Exp) → e.form ≡ form.Strict a mark es → length es.now ≡ 1 → (found : definition.Capture) → found ≡ capture N scope (term_of (get_or es.now 0 d)) → c ≡ one_field N (operation_of a) found → c ≡ capture N scope (term_of e)
    form_one a mark es d is l found f h = h ∙ ap (one_field N (operation_of a)) f ∙ sym (ap (capture N scope) (term_strict e a mark es is) ∙ strict_one (operation_of a) mark es.now d l)

    module _ (s : Set) (named : c ≡ Names_of s) where
      pub form_parts : (a : Act) (mark : Place) (es : Bor (List Exp)) → e.form ≡ form.Strict a mark es → length es.now ≢ 1 → s ≡ all_captured N scope (terms (map term_of es.now)) → c ≡ capture N scope (term_of e)
      form_parts a mark es is l h = named ∙ ap Names_of h ∙ sym (ap (capture N scope) (term_strict e a mark es is) ∙ strict_all (operation_of a) mark es.now l)

      pub form_lambda : (ps : Bor (List Pat)) (b : Bor Exp) → e.form ≡ form.Lambda ps b → s ≡ captures (capture N scope (term_of b.now)) → c ≡ capture N scope (term_of e)
      unfolding capture
      form_lambda ps b is h = named ∙ ap Names_of h ∙ sym (ap (capture N scope) (term_lambda e ps b is))

      pub form_apply : (f x : Bor Exp) → e.form ≡ form.Apply f x → (t : Set) → t ≡ captures (capture N scope (term_of x.now)) → s ≡ union (captures (capture N scope (term_of f.now))) t → c ≡ capture N scope (term_of e)
      unfolding capture
      form_apply f x is t g h = named ∙ ap Names_of (h ∙ ap (union (captures (capture N scope (term_of f.now)))) g) ∙ sym (ap (capture N scope) (term_apply e f x is))

      pub form_lets : (ls : Bor (List LetTree)) (b : Bor Exp) → e.form ≡ form.Lets ls b → length ls.now ≢ 0 → (t : Set) → t ≡ captures (capture N scope (term_of b.now)) → s ≡ lets_before N scope (map row_of ls.now) t → c ≡ capture N scope (term_of e)
      form_lets ls b is l t g h = named ∙ ap Names_of (h ∙ ap (lets_before N scope (map row_of ls.now)) g) ∙ sym (ap (capture N scope) (term_lets e ls b is) ∙ some_lets ls.now (term_of b.now) l)

      pub form_if : (x a b : Bor Exp) → e.form ≡ form.If x a b → (t u : Set) → u ≡ captures (capture N scope (term_of b.now)) → t ≡ union (captures (capture N scope (term_of a.now))) u → s ≡ union (captures (capture N scope (term_of x.now))) t → c ≡ capture N scope (term_of e)
      unfolding capture
      form_if x a b is t u g g' h = named ∙ ap Names_of (h ∙ ap (union (captures (capture N scope (term_of x.now)))) (g' ∙ ap (union (captures (capture N scope (term_of a.now)))) g)) ∙ sym (ap (capture N scope) (term_if e x a b is))

      pub form_loop : (l : Bor LoopTree) → e.form ≡ form.Loop l → s ≡ captures (capture N scope (loop_of l.now)) → c ≡ capture N scope (term_of e)
      unfolding capture
      form_loop l is h = named ∙ ap Names_of h ∙ sym (ap (capture N scope) (term_loop e l is) ∙ loop_named (capture N scope (loop_of l.now)) (ap (capture N scope) (loop_is l.now)))
        where
          loop_named : (d : definition.Capture) {t : Set} → d ≡ Names_of t → d ≡ Names_of (captures d)
          loop_named d {t = t} q = q ∙ ap (λ z. Names_of (captures z)) (sym q)

    pub form_no_let : (ls : Bor (List LetTree)) (b : Bor Exp) → e.form ≡ form.Lets ls b → length ls.now ≡ 0 → c ≡ capture N scope (term_of b.now) → c ≡ capture N scope (term_of e)
    form_no_let ls b is l h = h ∙ sym (ap (capture N scope) (term_lets e ls b is) ∙ no_lets ls.now (term_of b.now) l)

  -- ---- loops

  pub whole_loop : (l : LoopTree) (s t u : Set) → u ≡ captures (capture N scope (term_of l.body)) → t ≡ union (turns_captured N scope (turns_of l.form)) u → s ≡ union (captures (capture N scope (term_of l.first))) t → s ≡ captures (capture N scope (loop_of l))
  unfolding capture
  whole_loop l s t u g g' h = h ∙ ap (union (captures (capture N scope (term_of l.first)))) (g' ∙ ap (union (turns_captured N scope (turns_of l.form))) g) ∙ sym (ap (λ z. captures (capture N scope z)) (loop_is l))

  module _ (f : LoopForm) (s t : Set) where
    pub turns_for : (i : BindId) (n : Exp) → f ≡ turns.For i n → s ≡ union (captures (capture N scope (term_of n))) t → s ≡ union (turns_captured N scope (turns_of f)) t
    unfolding turns_captured
    turns_for i n is h = h ∙ sym (ap (λ z. union (turns_captured N scope z) t) (ap turns_of is ∙ turns_counted i n))

    pub turns_in : (p : Pat) (a : Exp) → f ≡ turns.ForIn p a → s ≡ union (captures (capture N scope (term_of a))) t → s ≡ union (turns_captured N scope (turns_of f)) t
    unfolding turns_captured
    turns_in p a is h = h ∙ sym (ap (λ z. union (turns_captured N scope z) t) (ap turns_of is ∙ turns_over p a))

    pub turns_test : (x : Exp) → f ≡ turns.While x → s ≡ union (captures (capture N scope (term_of x))) t → s ≡ union (turns_captured N scope (turns_of f)) t
    unfolding turns_captured
    turns_test x is h = h ∙ sym (ap (λ z. union (turns_captured N scope z) t) (ap turns_of is ∙ turns_while x))
