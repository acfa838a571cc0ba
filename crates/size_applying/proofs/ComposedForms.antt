-- Whether a let and what stands behind it are a composition.
use Rattle.std.proofs.Common.{◌≡◌, ℕ, zero, suc, ◌<◌, Bool, true, false, nat_eq, List, [], ◌∷◌, length, get_or, map, Option, Some, None, refl, sym, ap, ◌∙◌, subst, arith, eq-eqb}
use Rattle.std.proofs.lemmas.Bool.{eqb-true}
use Rattle.std.specs.Prelude.{◌&&◌}
use Rattle.std.specs.Borrow.{Bor}
use Rattle.fut_scalar.specs.declared.place.BindId.{BindId}
use Rattle.fut_scalar.specs.declared.place.Place.{Place}
use Rattle.fut_flat.specs.declared.act.Act.{Act}
use Rattle.fut_flat.specs.declared.exp.Exp.{Exp}
use Rattle.fut_flat.specs.declared.exp.Form.TheVariants as form
use Rattle.fut_flat.specs.declared.exp.Let.{Let as LetTree}
use Rattle.fut_flat.specs.declared.exp.Loop.{Loop as LoopTree}
use Rattle.fut_flat.specs.declared.pat.Pat.{Pat}
use Rattle.fut_flat.specs.declared.prim.Ref.{Ref}
use Rattle.fut_flat.specs.declared.prim.Ref.TheVariants as ref
use Rattle.fut_flat.specs.Terms.{Bound_pattern, Wild_pattern, Tuple_pattern, Record_pattern, Typed_pattern, Patterns, no_pattern, pattern_and, Parameter, Binding, Use, Strict, Lambda, Apply, Let, If, Loop}
use Rattle.fut_flat.specs.Erased.{FlatPattern, FlatTerm, Row, lets, parameters, patterns, pattern_of, term_of}
use Rattle.fut_flat.proofs.ErasedForms.{term_use, term_strict, term_lambda, term_apply, term_lets, term_if, term_loop, row_of, row_is, loop_is}
use Rattle.fut_flat.proofs.ErasedPatterns.{pattern_bound, pattern_wild, pattern_tuple, pattern_record, pattern_typed}
use Rattle.fut_sizes.specs.Compositions.{is_place, is_use_of, if_so, composed_body, composed_lambda, composed_second, composed_let, composition}
use Rattle.size_applying.specs.declared.compositions.Composition.{Composition}
use Rattle.size_applying.specs.Composed.{Bare, is_name, pattern_name, Composed, composes, composes_not, Composes, Composes_let}

-- ---- rows of no lets

none_long : {A : Type 0} (xs : List A) → length xs ≡ 0 → xs ≡ []
none_long [] e = refl
none_long (x ∷ xs) e = absurd (omega (arith, e))

row_none : (ls : List LetTree) (e : FlatTerm) → length ls ≡ 0 → lets (map row_of ls) e ≡ e
unfolding lets
row_none [] e l = refl
row_none (x ∷ ls) e l = absurd (omega (arith, l))

pub bare_row : (e : Exp) (ls : Bor (List LetTree)) (b : Bor Exp) (t : FlatTerm) → e.form ≡ form.Lets ls b → length ls.now ≡ 0 → t ≡ term_of b.now → t ≡ term_of e
bare_row e ls b t is l h = h ∙ sym (term_lets e ls b is ∙ row_none ls.now (term_of b.now) l)

pub ruleset bares = (bare_row)

-- ---- which form a term is

abbrev pub form_number : FlatTerm → ℕ
form_number (Use r at k) = 0
form_number (Strict o mark ts) = 1
form_number (Lambda ps e) = 2
form_number (Apply f e) = 3
form_number (Let b v e) = 4
form_number (If c t e) = 5
form_number (Loop mark ss p v turns e) = 6

lets_number_by : (ls : List LetTree) (e : FlatTerm) → (ls ≡ [] → ⊥) → form_number (lets (map row_of ls) e) ≡ 4
unfolding lets
lets_number_by [] e some = elim (some refl) [ ]
lets_number_by (l ∷ ls) e some = refl

module _ (d : Exp) where
  pub use_number : (r : Ref) (k : ℕ) → d.form ≡ form.Use r k → form_number (term_of d) ≡ 0
  use_number r k is = ap form_number (term_use d r k is)

  pub strict_number : (a : Act) (mark : Place) (es : Bor (List Exp)) → d.form ≡ form.Strict a mark es → form_number (term_of d) ≡ 1
  strict_number a mark es is = ap form_number (term_strict d a mark es is)

  pub lambda_number : (ps : Bor (List Pat)) (b : Bor Exp) → d.form ≡ form.Lambda ps b → form_number (term_of d) ≡ 2
  lambda_number ps b is = ap form_number (term_lambda d ps b is)

  pub apply_number : (f x : Bor Exp) → d.form ≡ form.Apply f x → form_number (term_of d) ≡ 3
  apply_number f x is = ap form_number (term_apply d f x is)

  pub lets_number : (ls : Bor (List LetTree)) (b : Bor Exp) → d.form ≡ form.Lets ls b → Bare d → form_number (term_of d) ≡ 4
  lets_number ls b is bare = ap form_number (term_lets d ls b is) ∙ lets_number_by ls.now (term_of b.now) (bare ls b is)

  pub if_number : (c a b : Bor Exp) → d.form ≡ form.If c a b → form_number (term_of d) ≡ 5
  if_number c a b is = ap form_number (term_if d c a b is)

  pub loop_number : (l : Bor LoopTree) → d.form ≡ form.Loop l → form_number (term_of d) ≡ 6
  loop_number l is = ap form_number (term_loop d l is ∙ loop_is l.now)

-- ---- uses

use_by : (b : ℕ) (at p : Place) (r : Ref) (k : ℕ) → (is_name b r && is_place at p) ≡ is_use_of b at (Use r p k)
use_by b at p (ref.Bound c) k = refl
use_by b at p (ref.Prim x) k = refl
use_by b at p (ref.Scalar s) k = refl

no_use_by : (b : ℕ) (at : Place) (t : FlatTerm) (n : ℕ) → form_number t ≡ n → nat_eq n 0 ≡ false → is_use_of b at t ≡ false
no_use_by b at (Use r p k) zero e f = cc
no_use_by b at (Use r p k) (suc n) e f = cc
no_use_by b at (Strict o mark ts) n e f = refl
no_use_by b at (Lambda ps x) n e f = refl
no_use_by b at (Apply g x) n e f = refl
no_use_by b at (Let c v x) n e f = refl
no_use_by b at (If c t x) n e f = refl
no_use_by b at (Loop mark ss p v turns x) n e f = refl

module _ (e d : Exp) (b : ℕ) (at : Place) (same : term_of d ≡ term_of e) where
  pub use_told : (r : Ref) (k : ℕ) → d.form ≡ form.Use r k → (is_name b r && is_place at d.place) ≡ is_use_of b at (term_of e)
  use_told r k is = use_by b at d.place r k ∙ ap (is_use_of b at) (sym (term_use d r k is) ∙ same)

  pub no_use : (n : ℕ) → form_number (term_of d) ≡ n → nat_eq n 0 ≡ false → false ≡ is_use_of b at (term_of e)
  no_use n i f = sym (ap (is_use_of b at) (sym same) ∙ no_use_by b at (term_of d) n i f)

  pub use_there : (r : Ref) (k : ℕ) (x : Bool) → d.form ≡ form.Use r k → x ≡ true → x ≡ is_name b r → is_place at d.place ≡ is_use_of b at (term_of e)
  use_there r k x is t h = ap (λ z. z && is_place at d.place) (sym t ∙ h) ∙ use_told r k is

  pub use_away : (r : Ref) (k : ℕ) (x : Bool) → d.form ≡ form.Use r k → x ≡ false → x ≡ is_name b r → false ≡ is_use_of b at (term_of e)
  use_away r k x is t h = ap (λ z. z && is_place at d.place) (sym t ∙ h) ∙ use_told r k is

-- ---- bodies

same_test : (a b : ℕ) → nat_eq a b ≡ nat_eq b a
same_test a b = by_test (nat_eq a b) refl
  where
    by_test : (c : Bool) → nat_eq a b ≡ c → nat_eq a b ≡ nat_eq b a
    by_test true e = e ∙ sym (eq-eqb b a (sym (eqb-true a b e)))
    by_test false e = e ∙ sym (back (nat_eq b a) refl)
      where
        back : (c : Bool) → nat_eq b a ≡ c → c ≡ false
        back true q = let x = eq-eqb a b (sym (eqb-true b a q)) in cc
        back false q = refl

order_by : (f g x : ℕ) (r : Ref) (at : Place) (k : ℕ) (i j : FlatTerm)
    → composed_body f g x (Apply (Use r at k) (Apply i j)) ≡ if_so (is_name g r && (is_use_of f at i && is_use_of x at j)) true (if_so (is_name f r && (is_use_of g at i && is_use_of x at j)) false None)
order_by f g x (ref.Bound h) at k i j = rw (same_test h.0 g, same_test h.0 f) refl
order_by f g x (ref.Prim p) at k i j = refl
order_by f g x (ref.Scalar s) at k i j = refl

pub order_told : (f g x : ℕ) (r : Ref) (at : Place) (i j : FlatTerm) (a b : Bool) (o : Option Bool) → a ≡ (is_name g r && (is_use_of f at i && is_use_of x at j)) → b ≡ (is_name f r && (is_use_of g at i && is_use_of x at j)) → o ≡ if_so a true (if_so b false None)
    → (k : ℕ) → o ≡ composed_body f g x (Apply (Use r at k) (Apply i j))
order_told f g x r at i j a b o p q h k = h ∙ ap (λ z. if_so z true (if_so b false None)) p ∙ ap (λ z. if_so (is_name g r && (is_use_of f at i && is_use_of x at j)) true (if_so z false None)) q ∙ sym (order_by f g x r at k i j)

module _ (f g x : ℕ) where
  body_by : (t : FlatTerm) (n : ℕ) → form_number t ≡ n → nat_eq n 3 ≡ false → composed_body f g x t ≡ None
  body_by (Use r p k) n e h = refl
  body_by (Strict o mark ts) n e h = refl
  body_by (Lambda ps b) n e h = refl
  body_by (Apply c b) n e h = let m : nat_eq n 3 ≡ true = eq-eqb n 3 (sym e) in cc
  body_by (Let c v b) n e h = refl
  body_by (If c t b) n e h = refl
  body_by (Loop mark ss p v turns b) n e h = refl

  inner_by : (r : Ref) (at : Place) (k : ℕ) (t : FlatTerm) (n : ℕ) → form_number t ≡ n → nat_eq n 3 ≡ false → composed_body f g x (Apply (Use r at k) t) ≡ None
  inner_by (ref.Bound y) at k (Use r p l) n e h = refl
  inner_by (ref.Bound y) at k (Strict o mark ts) n e h = refl
  inner_by (ref.Bound y) at k (Lambda ps b) n e h = refl
  inner_by (ref.Bound y) at k (Apply c b) n e h = let m : nat_eq n 3 ≡ true = eq-eqb n 3 (sym e) in cc
  inner_by (ref.Bound y) at k (Let c v b) n e h = refl
  inner_by (ref.Bound y) at k (If c t b) n e h = refl
  inner_by (ref.Bound y) at k (Loop mark ss p v turns b) n e h = refl
  inner_by (ref.Prim p) at k t n e h = refl
  inner_by (ref.Scalar s) at k t n e h = refl

  outer_by : (t u : FlatTerm) (n : ℕ) → form_number t ≡ n → nat_eq n 0 ≡ false → composed_body f g x (Apply t u) ≡ None
  outer_by (Use r p k) u n e h = let m : nat_eq n 0 ≡ true = eq-eqb n 0 (sym e) in cc
  outer_by (Strict o mark ts) u n e h = refl
  outer_by (Lambda ps b) u n e h = refl
  outer_by (Apply c b) u n e h = refl
  outer_by (Let c v b) u n e h = refl
  outer_by (If c t b) u n e h = refl
  outer_by (Loop mark ss p v turns b) u n e h = refl

  module _ (e d : Exp) (same : term_of d ≡ term_of e) where
    pub inner_told : (r : Ref) (at : Place) (h y : Bor Exp) (o : Option Bool) → d.form ≡ form.Apply h y → ((k : ℕ) → o ≡ composed_body f g x (Apply (Use r at k) (Apply (term_of h.now) (term_of y.now)))) → (k : ℕ) → o ≡ composed_body f g x (Apply (Use r at k) (term_of e))
    inner_told r at h y o is told k = told k ∙ ap (λ z. composed_body f g x (Apply (Use r at k) z)) (sym (term_apply d h y is) ∙ same)

    pub no_inner : (r : Ref) (at : Place) (n : ℕ) → form_number (term_of d) ≡ n → nat_eq n 3 ≡ false → (k : ℕ) → None ≡ composed_body f g x (Apply (Use r at k) (term_of e))
    no_inner r at n i h k = sym (ap (λ z. composed_body f g x (Apply (Use r at k) z)) (sym same) ∙ inner_by r at k (term_of d) n i h)

    pub outer_told : (u : FlatTerm) (r : Ref) (k : ℕ) (o : Option Bool) → d.form ≡ form.Use r k → ((k : ℕ) → o ≡ composed_body f g x (Apply (Use r d.place k) u)) → o ≡ composed_body f g x (Apply (term_of e) u)
    outer_told u r k o is told = told k ∙ ap (λ z. composed_body f g x (Apply z u)) (sym (term_use d r k is) ∙ same)

    pub no_outer : (u : FlatTerm) (n : ℕ) → form_number (term_of d) ≡ n → nat_eq n 0 ≡ false → None ≡ composed_body f g x (Apply (term_of e) u)
    no_outer u n i h = sym (ap (λ z. composed_body f g x (Apply z u)) (sym same) ∙ outer_by (term_of d) u n i h)

    pub body_told : (h y : Bor Exp) (o : Option Bool) → d.form ≡ form.Apply h y → o ≡ composed_body f g x (Apply (term_of h.now) (term_of y.now)) → o ≡ composed_body f g x (term_of e)
    body_told h y o is told = told ∙ ap (composed_body f g x) (sym (term_apply d h y is) ∙ same)

    pub no_body : (n : ℕ) → form_number (term_of d) ≡ n → nat_eq n 3 ≡ false → None ≡ composed_body f g x (term_of e)
    no_body n i h = sym (ap (composed_body f g x) (sym same) ∙ body_by (term_of d) n i h)

pub ruleset orders = (order_told)

-- ---- patterns

pub name_told : (p : Pat) (t : FlatPattern) (o : Option ℕ) → pattern_of p ≡ t → o ≡ pattern_name t → o ≡ pattern_name (pattern_of p)
name_told p t o is h = h ∙ ap pattern_name (sym is)

pub ruleset names = (name_told, pattern_bound, pattern_wild, pattern_tuple, pattern_record, pattern_typed)

-- ---- lambdas

module _ (f g : ℕ) (e : FlatTerm) where
  many_by : (p q : FlatPattern) (ps : Patterns Ref BindId) → composed_lambda f g (Lambda (pattern_and p (pattern_and q ps)) e) ≡ None
  many_by (Bound_pattern b) q ps = refl
  many_by Wild_pattern q ps = refl
  many_by (Tuple_pattern qs) q ps = refl
  many_by (Record_pattern fs qs) q ps = refl
  many_by (Typed_pattern p t) q ps = refl

  pub many_parameters : (ps : List Pat) → (length ps ≡ 1 → ⊥) → None ≡ composed_lambda f g (Lambda (patterns (map pattern_of ps)) e)
  unfolding patterns
  many_parameters [] one = refl
  many_parameters (p ∷ []) one = elim (one refl) [ ]
  many_parameters (p ∷ q ∷ ps) one = sym (many_by (pattern_of p) (pattern_of q) (patterns (map pattern_of ps)))

  one_by : (p : FlatPattern) (x : ℕ) (o : Option Bool) → Some x ≡ pattern_name p → o ≡ composed_body f g x e → o ≡ composed_lambda f g (Lambda (pattern_and p no_pattern) e)
  one_by (Bound_pattern b) x o n h = h ∙ ap (λ z. composed_body f g z e) (name_same b.0 n)
    where
      name_same : (b : ℕ) → Some x ≡ Some b → x ≡ b
      name_same b n = cc
  one_by Wild_pattern x o n h = cc
  one_by (Tuple_pattern qs) x o n h = cc
  one_by (Record_pattern fs qs) x o n h = cc
  one_by (Typed_pattern p t) x o n h = cc

  nameless_by : (p : FlatPattern) → None ≡ pattern_name p → None ≡ composed_lambda f g (Lambda (pattern_and p no_pattern) e)
  nameless_by (Bound_pattern b) n = cc
  nameless_by Wild_pattern n = refl
  nameless_by (Tuple_pattern qs) n = refl
  nameless_by (Record_pattern fs qs) n = refl
  nameless_by (Typed_pattern p t) n = refl

  pub one_parameter : (ps : List Pat) (d : Pat) (x : ℕ) (o : Option Bool) → length ps ≡ 1 → Some x ≡ pattern_name (pattern_of (get_or ps 0 d)) → o ≡ composed_body f g x e → o ≡ composed_lambda f g (Lambda (patterns (map pattern_of ps)) e)
  unfolding patterns
  one_parameter [] d x o l n h = absurd (omega (arith, l))
  one_parameter (p ∷ []) d x o l n h = one_by (pattern_of p) x o n h
  one_parameter (p ∷ q ∷ ps) d x o l n h = absurd (omega (arith, l))

  pub no_parameter : (ps : List Pat) (d : Pat) → length ps ≡ 1 → None ≡ pattern_name (pattern_of (get_or ps 0 d)) → None ≡ composed_lambda f g (Lambda (patterns (map pattern_of ps)) e)
  unfolding patterns
  no_parameter [] d l n = absurd (omega (arith, l))
  no_parameter (p ∷ []) d l n = nameless_by (pattern_of p) n
  no_parameter (p ∷ q ∷ ps) d l n = absurd (omega (arith, l))

pub ruleset parameter_orders = (many_parameters, one_parameter, no_parameter)

lambda_by : (f g : ℕ) (t : FlatTerm) (n : ℕ) → form_number t ≡ n → nat_eq n 2 ≡ false → composed_lambda f g t ≡ None
lambda_by f g (Use r p k) n e h = refl
lambda_by f g (Strict o mark ts) n e h = refl
lambda_by f g (Lambda ps b) n e h = let m : nat_eq n 2 ≡ true = eq-eqb n 2 (sym e) in cc
lambda_by f g (Apply c b) n e h = refl
lambda_by f g (Let c v b) n e h = refl
lambda_by f g (If c t b) n e h = refl
lambda_by f g (Loop mark ss p v turns b) n e h = refl

module _ (f g : ℕ) (e d : Exp) (same : term_of d ≡ term_of e) where
  pub lambda_told : (ps : Bor (List Pat)) (b : Bor Exp) (o : Option Bool) → d.form ≡ form.Lambda ps b → o ≡ composed_lambda f g (Lambda (patterns (map pattern_of ps.now)) (term_of b.now)) → o ≡ composed_lambda f g (term_of e)
  lambda_told ps b o is told = told ∙ ap (composed_lambda f g) (sym (term_lambda d ps b is) ∙ same)

  pub no_lambda : (n : ℕ) → form_number (term_of d) ≡ n → nat_eq n 2 ≡ false → None ≡ composed_lambda f g (term_of e)
  no_lambda n i h = sym (ap (composed_lambda f g) (sym same) ∙ lambda_by f g (term_of d) n i h)

-- ---- the second let

second_by : (f : ℕ) (p : FlatPattern) (e : FlatTerm) (g : ℕ) (o : Option Bool) → Some g ≡ pattern_name p → o ≡ composed_lambda f g e → o ≡ composed_second f p e
second_by f (Bound_pattern b) e g o n h = h ∙ ap (λ z. composed_lambda f z e) (name_same b.0 n)
  where
    name_same : (b : ℕ) → Some g ≡ Some b → g ≡ b
    name_same b n = cc
second_by f Wild_pattern e g o n h = cc
second_by f (Tuple_pattern qs) e g o n h = cc
second_by f (Record_pattern fs qs) e g o n h = cc
second_by f (Typed_pattern p t) e g o n h = cc

pub second_told : (f : ℕ) (p : Pat) (e : FlatTerm) (g : ℕ) (o : Option Bool) → Some g ≡ pattern_name (pattern_of p) → o ≡ composed_lambda f g e → o ≡ composed_second f (pattern_of p) e
second_told f p e g o n h = second_by f (pattern_of p) e g o n h

no_second_by : (f : ℕ) (p : FlatPattern) (e : FlatTerm) → None ≡ pattern_name p → None ≡ composed_second f p e
no_second_by f (Bound_pattern b) e n = cc
no_second_by f Wild_pattern e n = refl
no_second_by f (Tuple_pattern qs) e n = refl
no_second_by f (Record_pattern fs qs) e n = refl
no_second_by f (Typed_pattern p t) e n = refl

pub no_second : (f : ℕ) (p : Pat) (e : FlatTerm) → None ≡ pattern_name (pattern_of p) → None ≡ composed_second f (pattern_of p) e
no_second f p e n = no_second_by f (pattern_of p) e n

pub ruleset second_orders = (second_told, no_second)

-- a let behind the second let is no lambda
let_second : (f : ℕ) (p : FlatPattern) (c : Binding Ref BindId) (v e : FlatTerm) → composed_second f p (Let c v e) ≡ None
let_second f (Bound_pattern b) c v e = refl
let_second f Wild_pattern c v e = refl
let_second f (Tuple_pattern qs) c v e = refl
let_second f (Record_pattern fs qs) c v e = refl
let_second f (Typed_pattern p t) c v e = refl

-- ---- a row of lets

many_by_row : (f : ℕ) (e : FlatTerm) (ls : List LetTree) → 0 < length ls → (length ls ≡ 1 → ⊥) → Composes_let f (lets (map row_of ls) e) None
unfolding lets
many_by_row f e [] some one = absurd (omega (arith, some))
many_by_row f e (l ∷ []) some one = elim (one refl) [ ]
many_by_row f e (l ∷ m ∷ ls) some one = composes_not (let_second f (row_of l).0.pattern (row_of m).0 (row_of m).1 (lets (map row_of ls) e))

one_by_row : (e : FlatTerm) (d : LetTree) (ls : List LetTree) → length ls ≡ 1 → lets (map row_of ls) e ≡ Let (row_of (get_or ls 0 d)).0 (row_of (get_or ls 0 d)).1 e
unfolding lets
one_by_row e d [] one = absurd (omega (arith, one))
one_by_row e d (l ∷ []) one = refl
one_by_row e d (l ∷ m ∷ ls) one = absurd (omega (arith, one))

module _ (f : ℕ) (ls : List LetTree) (e : Exp) where
  pub many_lets : 0 < length ls → (length ls ≡ 1 → ⊥) → Composes_let f (lets (map row_of ls) (term_of e)) None
  many_lets some one = many_by_row f (term_of e) ls some one

  one_let : (d : LetTree) → length ls ≡ 1 → lets (map row_of ls) (term_of e) ≡ Let (row_of (get_or ls 0 d)).0 (row_of (get_or ls 0 d)).1 (term_of e)
  one_let d one = one_by_row (term_of e) d ls one

  let_says : (l : LetTree) (o : Option Bool) → o ≡ composed_second f (pattern_of l.pat) (term_of e) → composed_let f (Let (row_of l).0 (row_of l).1 (term_of e)) ≡ o
  let_says l o h = ap (λ (z : Row). composed_second f z.0.pattern (term_of e)) (row_is l) ∙ sym h

  pub one_composes : (second : Bor LetTree) (d : LetTree) (lambda : Bor Exp) (b : Bool) → length ls ≡ 1 → second.now ≡ get_or ls 0 d → lambda.now ≡ e → Some b ≡ composed_second f (pattern_of second.now.pat) (term_of e) → Composes_let f (lets (map row_of ls) (term_of e)) (Some (record { left_first = b; second = second; lambda = lambda }))
  one_composes second d lambda b one is same h =
      let whole : lets (map row_of ls) (term_of e) ≡ Let (row_of second.now).0 (row_of second.now).1 (term_of e) = one_let d one ∙ ap (λ z. Let (row_of z).0 (row_of z).1 (term_of e)) (sym is) in
      composes (ap (composed_let f) whole ∙ let_says second.now (Some b) h) (whole ∙ ap (λ z. Let (row_of second.now).0 (row_of second.now).1 (term_of z)) (sym same))

  pub one_not : (second d : LetTree) → length ls ≡ 1 → second ≡ get_or ls 0 d → None ≡ composed_second f (pattern_of second.pat) (term_of e) → Composes_let f (lets (map row_of ls) (term_of e)) None
  one_not second d one is h = composes_not (ap (composed_let f) (one_let d one ∙ ap (λ z. Let (row_of z).0 (row_of z).1 (term_of e)) (sym is)) ∙ let_says second None h)

pub ruleset row_compositions = (many_lets, one_composes, one_not)

-- ---- what stands behind the first let

let_by : (f : ℕ) (t : FlatTerm) (n : ℕ) → form_number t ≡ n → nat_eq n 4 ≡ false → composed_let f t ≡ None
let_by f (Use r p k) n e h = refl
let_by f (Strict o mark ts) n e h = refl
let_by f (Lambda ps b) n e h = refl
let_by f (Apply c b) n e h = refl
let_by f (Let c v b) n e h = let m : nat_eq n 4 ≡ true = eq-eqb n 4 (sym e) in cc
let_by f (If c t b) n e h = refl
let_by f (Loop mark ss p v turns b) n e h = refl

long : {A : Type 0} (xs : List A) → (xs ≡ [] → ⊥) → 0 < length xs
long [] some = elim (some refl) [ ]
long (x ∷ xs) some = omega arith

pub bare_long : (d : Exp) (ls : Bor (List LetTree)) (b : Bor Exp) → d.form ≡ form.Lets ls b → Bare d → 0 < length ls.now
bare_long d ls b is bare = long ls.now (bare ls b is)

module _ (f : ℕ) (e d : Exp) (same : term_of d ≡ term_of e) where
  pub lets_compose : (ls : Bor (List LetTree)) (b : Bor Exp) (r : Option Composition) → d.form ≡ form.Lets ls b → Composes_let f (lets (map row_of ls.now) (term_of b.now)) r → Composes_let f (term_of e) r
  lets_compose ls b r is h = subst (λ z. Composes_let f z r) (sym (term_lets d ls b is) ∙ same) h

  pub no_lets : (n : ℕ) → form_number (term_of d) ≡ n → nat_eq n 4 ≡ false → Composes_let f (term_of e) None
  no_lets n i h = composes_not (ap (composed_let f) (sym same) ∙ let_by f (term_of d) n i h)

-- ---- the first let

composition_by : (p : FlatPattern) (ss : List BindId) (ps : List (Parameter BindId)) (is_function : Bool) (e : FlatTerm) (f : ℕ) → Some f ≡ pattern_name p → composition (record { sizes = ss; parameters = ps; is_function = is_function; pattern = p }) e ≡ composed_let f e
composition_by (Bound_pattern b) ss ps is_function e f n = ap (λ z. composed_let z e) (name_same b.0 n)
  where
    name_same : (b : ℕ) → Some f ≡ Some b → b ≡ f
    name_same b n = cc
composition_by Wild_pattern ss ps is_function e f n = cc
composition_by (Tuple_pattern qs) ss ps is_function e f n = cc
composition_by (Record_pattern fs qs) ss ps is_function e f n = cc
composition_by (Typed_pattern p t) ss ps is_function e f n = cc

no_composition_by : (p : FlatPattern) (ss : List BindId) (ps : List (Parameter BindId)) (is_function : Bool) (e : FlatTerm) → None ≡ pattern_name p → composition (record { sizes = ss; parameters = ps; is_function = is_function; pattern = p }) e ≡ None
no_composition_by (Bound_pattern b) ss ps is_function e n = cc
no_composition_by Wild_pattern ss ps is_function e n = refl
no_composition_by (Tuple_pattern qs) ss ps is_function e n = refl
no_composition_by (Record_pattern fs qs) ss ps is_function e n = refl
no_composition_by (Typed_pattern p t) ss ps is_function e n = refl

module _ (l : LetTree) (ls : List LetTree) (e : Exp) where
  composition_is : (f : ℕ) (t : FlatTerm) → Some f ≡ pattern_name (pattern_of l.pat) → composition (row_of l).0 t ≡ composed_let f t
  composition_is f t n = ap (λ (z : Row). composition z.0 t) (row_is l) ∙ composition_by (pattern_of l.pat) l.sizes.now (parameters l.heads.now) l.is_function t f n

  as_said : (a b : Option Bool) (t : FlatTerm) (r : Option Composition) → a ≡ b → Composed b t r → Composed a t r
  as_said a b t r is h = subst (λ z. Composed z t r) (sym is) h

  pub row_composes : (f : ℕ) (r : Option Composition) → Some f ≡ pattern_name (pattern_of l.pat) → Composes_let f (lets (map row_of ls) (term_of e)) r → Composes (row_of l).0 (lets (map row_of ls) (term_of e)) r
  row_composes f r n h = as_said (composition (row_of l).0 (lets (map row_of ls) (term_of e))) (composed_let f (lets (map row_of ls) (term_of e))) (lets (map row_of ls) (term_of e)) r (composition_is f (lets (map row_of ls) (term_of e)) n) h

  pub body_composes : (f : ℕ) (r : Option Composition) → length ls ≡ 0 → Some f ≡ pattern_name (pattern_of l.pat) → Composes_let f (term_of e) r → Composes (row_of l).0 (lets (map row_of ls) (term_of e)) r
  body_composes f r none n h = row_composes f r n (subst (λ z. Composes_let f z r) (sym (row_none ls (term_of e) none)) h)

  pub no_composition : None ≡ pattern_name (pattern_of l.pat) → Composes (row_of l).0 (lets (map row_of ls) (term_of e)) None
  no_composition n = composes_not (ap (λ (z : Row). composition z.0 (lets (map row_of ls) (term_of e))) (row_is l) ∙ no_composition_by (pattern_of l.pat) l.sizes.now (parameters l.heads.now) l.is_function (lets (map row_of ls) (term_of e)) n)

pub some_row : (n : ℕ) → (n ≡ 0 → ⊥) → 0 < n
some_row zero h = elim (h refl) [ ]
some_row (suc n) h = omega arith

pub ruleset compositions = (row_composes, body_composes, no_composition, some_row)
