-- How the number behind an expression follows from those of its parts.
use Rattle.std.proofs.Common.{◌≡◌, ℕ, ◌+◌, ◌<◌, ◌≤◌, List, [], ◌∷◌, map, length, get_or, drop, Ok, Err, sym, ap, ◌∙◌, arith}
use Rattle.std.specs.Prelude.{Result, IfOk}
use Rattle.std.specs.Borrow.{Bor}
use Rattle.fut_scalar.specs.declared.memory.NoMemory.{NoMemory}
use Rattle.fut_scalar.specs.declared.place.BindId.{BindId}
use Rattle.fut_scalar.specs.declared.place.Place.{Place}
use Rattle.fut_flat.specs.declared.act.Act.{Act}
use Rattle.fut_flat.specs.declared.exp.Exp.{Exp}
use Rattle.fut_flat.specs.declared.exp.Form.TheVariants as form
use Rattle.fut_flat.specs.declared.exp.Let.{Let as LetTree}
use Rattle.fut_flat.specs.declared.exp.Loop.{Loop as LoopTree}
use Rattle.fut_flat.specs.declared.exp.LoopForm.{LoopForm}
use Rattle.fut_flat.specs.declared.exp.LoopForm.TheVariants as turns
use Rattle.fut_flat.specs.declared.pat.Pat.{Pat}
use Rattle.fut_flat.specs.declared.prim.Ref.{Ref}
use Rattle.fut_flat.specs.Erased.{FlatTerm, Row, lets, operation_of, pattern_of, patterns, term_of, terms}
use Rattle.fut_flat.specs.Numbers.{all_numbers, all_pattern_numbers, numbers, own_numbers, pattern_numbers, turn_numbers}
use Rattle.fut_flat.specs.Terms.{Let}
use Rattle.fut_flat.proofs.ErasedForms.{loop_of, loop_is, row_of, row_is, turns_of, term_use, term_strict, term_lambda, term_apply, term_lets, term_if, term_loop, turns_counted, turns_over, turns_while}
use Rattle.flat_numbers.proofs.PatternNumbers.{Behind, moved, one_more, drop_end}

module _ (e : Exp) (at : ℕ) (r : Result ℕ NoMemory) where
  pub form_use : (u : Ref) (k : ℕ) → e.form ≡ form.Use u k → (once twice : ℕ) → once ≡ at + 1 → twice ≡ once + k → Behind r (twice + k) → Behind r (at + numbers (term_of e))
  form_use u k is once twice q q' h = moved r _ _ (omega (arith, q, q', ap numbers (term_use e u k is))) h

  pub form_strict : (a : Act) (mark : Place) (es : Bor (List Exp)) → e.form ≡ form.Strict a mark es → (own first : ℕ) → own ≡ own_numbers (operation_of a) → first ≡ at + own → Behind r (first + all_numbers (terms (map term_of es.now))) → Behind r (at + numbers (term_of e))
  form_strict a mark es is own first q q' h = moved r _ _ (omega (arith, q, q', ap numbers (term_strict e a mark es is))) h

  pub form_lambda : (ps : Bor (List Pat)) (b : Bor Exp) → e.form ≡ form.Lambda ps b → (first inside : ℕ) → first ≡ at + 1 → inside ≡ first + all_pattern_numbers (patterns (map pattern_of ps.now)) → Behind r (inside + numbers (term_of b.now)) → Behind r (at + numbers (term_of e))
  form_lambda ps b is first inside q q' h = moved r _ _ (omega (arith, q, q', ap numbers (term_lambda e ps b is))) h

  pub form_apply : (f x : Bor Exp) → e.form ≡ form.Apply f x → (first second : ℕ) → first ≡ at + 1 → second ≡ first + numbers (term_of f.now) → Behind r (second + numbers (term_of x.now)) → Behind r (at + numbers (term_of e))
  form_apply f x is first second q q' h = moved r _ _ (omega (arith, q, q', ap numbers (term_apply e f x is))) h

  pub form_lets : (ls : Bor (List LetTree)) (b : Bor Exp) → e.form ≡ form.Lets ls b → (last : ℕ) → ((body : FlatTerm) → last + numbers body ≡ at + numbers (lets (map row_of ls.now) body)) → Behind r (last + numbers (term_of b.now)) → Behind r (at + numbers (term_of e))
  form_lets ls b is last q h = moved r _ _ (q (term_of b.now) ∙ sym (ap (λ z. at + numbers z) (term_lets e ls b is))) h

  pub form_if : (c a b : Bor Exp) → e.form ≡ form.If c a b → (first second third : ℕ) → first ≡ at + 1 → second ≡ first + numbers (term_of c.now) → third ≡ second + numbers (term_of a.now) → Behind r (third + numbers (term_of b.now)) → Behind r (at + numbers (term_of e))
  form_if c a b is first second third q q' q'' h = moved r _ _ (omega (arith, q, q', q'', ap numbers (term_if e c a b is))) h

  pub form_loop : (l : Bor LoopTree) → e.form ≡ form.Loop l → Behind r (at + numbers (loop_of l.now)) → Behind r (at + numbers (term_of e))
  form_loop l is h = moved r _ _ (sym (ap (λ z. at + numbers z) (term_loop e l is))) h

pub whole_loop : (l : LoopTree) (at : ℕ) (r : Result ℕ NoMemory) (name first turns body : ℕ) → name ≡ at + 1 → first ≡ name + pattern_numbers (pattern_of l.pat) → turns ≡ first + numbers (term_of l.first) → body ≡ turns + turn_numbers (turns_of l.form) → Behind r (body + numbers (term_of l.body)) → Behind r (at + numbers (loop_of l))
whole_loop l at r name first turns body a b c d h = moved r _ _ (omega (arith, a, b, c, d, ap numbers (loop_is l))) h

module _ (t : LoopForm) (at : ℕ) (r : Result ℕ NoMemory) where
  pub turns_for : (i : BindId) (n : Exp) → t ≡ turns.For i n → (first : ℕ) → first ≡ at + 1 → Behind r (first + numbers (term_of n)) → Behind r (at + turn_numbers (turns_of t))
  turns_for i n is first q h = moved r _ _ (omega (arith, q, ap turn_numbers (ap turns_of is ∙ turns_counted i n))) h

  pub turns_in : (p : Pat) (a : Exp) → t ≡ turns.ForIn p a → (first : ℕ) → first ≡ at + pattern_numbers (pattern_of p) → Behind r (first + numbers (term_of a)) → Behind r (at + turn_numbers (turns_of t))
  turns_in p a is first q h = moved r _ _ (omega (arith, q, ap turn_numbers (ap turns_of is ∙ turns_over p a))) h

  pub turns_test : (c : Exp) → t ≡ turns.While c → Behind r (at + numbers (term_of c)) → Behind r (at + turn_numbers (turns_of t))
  turns_test c is h = moved r _ _ (sym (ap (λ z. at + turn_numbers z) (ap turns_of is ∙ turns_while c))) h

-- ---- parts

module _ (es : List Exp) (at next : ℕ) where
  abbrev pub Exps_passed : ℕ → Type 0
  Exps_passed i = next + all_numbers (terms (map term_of (drop i es))) ≡ at + all_numbers (terms (map term_of es))

  pub exp_passed : (i next' : ℕ) (d : Exp) → i < length es → Exps_passed i → next' ≡ next + numbers (term_of (get_or es i d)) → next' + all_numbers (terms (map term_of (drop (i + 1) es))) ≡ at + all_numbers (terms (map term_of es))
  unfolding terms
  exp_passed i next' d lt h e = omega (arith, h, e, ap (λ z. all_numbers (terms (map term_of z))) (one_more es i d lt))

  pub exps_passed : (i : ℕ) → length es ≤ i → Exps_passed i → next ≡ at + all_numbers (terms (map term_of es))
  unfolding terms
  exps_passed i le h = omega (arith, h, ap (λ z. all_numbers (terms (map term_of z))) (drop_end i es le))

-- ---- rows of lets, whatever stands behind them

-- from this number to that one these lets are passed
abbrev pub Row_passed : ℕ → List Row → ℕ → Type 0
Row_passed at ls next = (body : FlatTerm) → next + numbers body ≡ at + numbers (lets ls body)

pub whole_let : (l : LetTree) (at : ℕ) (r : Result ℕ NoMemory) (first value : ℕ) → first ≡ at + 1 → value ≡ first + pattern_numbers (pattern_of l.pat) → Behind r (value + numbers (term_of l.value)) → IfOk r (λ next. Row_passed at (row_of l ∷ []) next)
unfolding lets
whole_let l at (Ok next) first value a b h = λ body. omega (arith, a, b, h, ap (λ (z : Row). numbers (Let z.0 z.1 body)) (row_is l))
whole_let l at (Err x) first value a b h = tt

module _ (ls : List LetTree) (at next : ℕ) where
  abbrev pub Lets_passed : ℕ → Type 0
  Lets_passed i = (body : FlatTerm) → next + numbers (lets (map row_of (drop i ls)) body) ≡ at + numbers (lets (map row_of ls) body)

  pub let_passed : (i next' : ℕ) (d : LetTree) → i < length ls → Lets_passed i → Row_passed next (row_of (get_or ls i d) ∷ []) next' → (body : FlatTerm) → next' + numbers (lets (map row_of (drop (i + 1) ls)) body) ≡ at + numbers (lets (map row_of ls) body)
  unfolding lets
  let_passed i next' d lt h e body = omega (arith, h body, e (lets (map row_of (drop (i + 1) ls)) body), ap (λ z. numbers (lets (map row_of z) body)) (one_more ls i d lt))

  pub lets_passed : (i : ℕ) → length ls ≤ i → Lets_passed i → Row_passed at (map row_of ls) next
  unfolding lets
  lets_passed i le h body = omega (arith, h body, ap (λ z. numbers (lets (map row_of z) body)) (drop_end i ls le))
