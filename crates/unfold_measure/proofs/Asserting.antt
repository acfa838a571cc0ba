-- Assertions and the lets of rows, told apart.
use Rattle.std.proofs.Common.{◌≡◌, ℕ, ◌+◌, ◌≤◌, ◌<◌, max, not, List, [], ◌∷◌, map, length, get_or, drop, true, false, Ok, Err, Some, None, refl, sym, ap, ◌∙◌, subst, arith}
use Rattle.std.specs.Prelude.{Option, Result}
use Rattle.std.specs.Borrow.{Bor}
use Rattle.fut_scalar.specs.declared.place.Place.{Place}
use Rattle.fut_flat.specs.declared.act.Act.{Act}
use Rattle.fut_flat.specs.declared.act.Act.TheVariants as act
use Rattle.fut_flat.specs.declared.exp.Exp.{Exp}
use Rattle.fut_flat.specs.declared.exp.Form.TheVariants as form
use Rattle.fut_flat.specs.declared.exp.Form.{Form-F, out-Form, roll-Form, roll-out-Form}
use Rattle.fut_flat.specs.declared.exp.Let.{Let as LetTree}
use Rattle.fut_flat.specs.Erased.{FlatPattern, FlatTerm, lets, operation_of, pattern_of, term_of, terms}
use Rattle.fut_flat.specs.Terms.{Assert, Let, Strict, no_term, term_and}
use Rattle.fut_flat.proofs.ErasedForms.{Layer, layer, exp_term, form_term_at, loop_is, row_of, term_strict, term_lets}
use Rattle.fut_meaning.specs.Knowns.{Scope, data_bound}
use Rattle.fut_meaning.specs.Walk.{is_assertion, is_let, Visits, v_assert}
use Rattle.fut_meaning.specs.Comes.{in_condition, in_guarded, comes_here, asserted_function}
use Rattle.unfold_measure.specs.Held.{known_of, scope_of}
use Rattle.unfold_measure.specs.declared.known.Scope.{Scope as Held_scope}
use Rattle.unfold_measure.specs.declared.lets.Left.{Left}
use Rattle.unfold_measure.specs.declared.stop.Stop.{Stop}
use Rattle.unfold_measure.specs.declared.stop.Stop.TheVariants.{Nodes, Depth, Memory}
use Rattle.unfold_measure.specs.declared.walked.Count.{Count}
use Rattle.unfold_measure.specs.declared.walked.Walked.{Walked}
use Rattle.unfold_measure.specs.Answers.{Stopped, over, deep, no_memory, Walked_to, walked, stopped, Data_to, gives_data, not_walked, gives_function}
use Rattle.unfold_measure.specs.Rows.{Condition, condition, no_condition, Left_of, left_of, none_left, Guards, behind, binding_of, is_assert}
use Rattle.unfold_measure.proofs.Rows.{first_is, not_row}
use Rattle.unfold_measure.proofs.Walks.{up, lost_here}

-- ---- what asks for a condition

asks_one : (a : Act) → is_assert a ≡ true → (mark : Place) (xs : List Exp) (d : Exp) → length xs ≡ 1 → Strict (operation_of a) mark (terms (map term_of xs)) ≡ Strict Assert mark (term_and (term_of (get_or xs 0 d)) no_term)
unfolding terms
asks_one act.Assert h mark [] d one = absurd (omega (arith, one))
asks_one act.Assert h mark (x ∷ []) d one = refl
asks_one act.Assert h mark (x ∷ y ∷ xs) d one = absurd (omega (arith, one))
asks_one a h mark xs d one = absurd (let z : false ≡ true = h in cc)

asks_none : (a : Act) (mark : Place) (xs : List Exp) → (is_assert a ≡ true → length xs ≡ 1 → ⊥) → is_assertion (Strict (operation_of a) mark (terms (map term_of xs))) ≡ false
unfolding terms
asks_none act.Assert mark [] h = refl
asks_none act.Assert mark (x ∷ []) h = absurd (h refl refl)
asks_none act.Assert mark (x ∷ y ∷ xs) h = refl
asks_none a mark xs h = refl

module _ (e : Exp) where
  pub asked : (a : Act) (mark : Place) (es : Bor (List Exp)) (d : Exp) (c : Bor Exp) → e.form ≡ form.Strict a mark es → is_assert a ≡ true → length es.now ≡ 1 → c.now ≡ get_or es.now 0 d → Condition (term_of e) (Some c)
  asked a mark es d c is h one q = condition (term_strict e a mark es is ∙ asks_one a h mark es.now d one ∙ ap (λ z. Strict Assert mark (term_and (term_of z) no_term)) (sym q))

  pub unasked : (a : Act) (mark : Place) (es : Bor (List Exp)) → e.form ≡ form.Strict a mark es → (is_assert a ≡ true → length es.now ≡ 1 → ⊥) → Condition (term_of e) None
  unasked a mark es is h = no_condition (ap is_assertion (term_strict e a mark es is) ∙ asks_none a mark es.now h)

  no_lets : (ls : List LetTree) (t : FlatTerm) → length ls ≡ 0 → lets (map row_of ls) t ≡ t
  unfolding lets
  no_lets [] t n = refl
  no_lets (l ∷ ls) t n = absurd (omega (arith, n))

  pub asked_inside : (ls : Bor (List LetTree)) (b : Bor Exp) (r : Option (Bor Exp)) → e.form ≡ form.Lets ls b → length ls.now ≡ 0 → Condition (term_of b.now) r → Condition (term_of e) r
  asked_inside ls b r is n h = subst (λ z. Condition z r) (sym (term_lets e ls b is ∙ no_lets ls.now (term_of b.now) n)) h

  pub lets_ask_none : (ls : Bor (List LetTree)) (b : Bor Exp) → e.form ≡ form.Lets ls b → (length ls.now ≡ 0 → ⊥) → Condition (term_of e) None
  unfolding lets
  lets_ask_none ls b is n = no_condition (ap is_assertion (term_lets e ls b is) ∙ no_assertion ls.now n)
    where
      no_assertion : (ls : List LetTree) → (length ls ≡ 0 → ⊥) → is_assertion (lets (map row_of ls) (term_of b.now)) ≡ false
      no_assertion [] n = absurd (n refl)
      no_assertion (l ∷ ls) n = refl

  pub others_ask_none : ((a : Act) (mark : Place) (es : Bor (List Exp)) → e.form ≡ form.Strict a mark es → ⊥) → ((ls : Bor (List LetTree)) (b : Bor Exp) → e.form ≡ form.Lets ls b → ⊥) → Condition (term_of e) None
  others_ask_none h h' = no_condition (ap is_assertion (exp_term e ∙ form_term_at e.form e.place) ∙ other (out-Form e.form) refl)
    where
      other : (l : Layer) → out-Form e.form ≡ l → is_assertion (layer l e.place) ≡ false
      other (Form-F.Use r k) q = refl
      other (Form-F.Strict a mark es) q = absurd (h a mark es (sym (roll-out-Form e.form) ∙ ap roll-Form (q ∙ sym (form.outs-Strict a mark es)) ∙ roll-out-Form (form.Strict a mark es)))
      other (Form-F.Lambda ps b) q = refl
      other (Form-F.Apply f x) q = refl
      other (Form-F.Lets ls b) q = absurd (h' ls b (sym (roll-out-Form e.form) ∙ ap roll-Form (q ∙ sym (form.outs-Lets ls b)) ∙ roll-out-Form (form.Lets ls b)))
      other (Form-F.If c a b) q = refl
      other (Form-F.Loop l) q = ap is_assertion (loop_is l.now)

pub ruleset conditions = (asked, unasked, asked_inside, lets_ask_none, others_ask_none)

-- ---- the next let

some : (ls : List LetTree) → (length ls ≡ 0 → ⊥) → 0 < length ls
some [] n = absurd (n refl)
some (l ∷ ls) n = omega arith

value_tells : (ls : List LetTree) (d : LetTree) (b : Exp) → 0 < length ls → is_let (behind ls b) ≡ not (is_assertion (term_of (get_or ls 0 d).value))
value_tells ls d b n = ap is_let (first_is ls d b n)

asserts : (t : FlatTerm) (c : Bor Exp) → Condition t (Some c) → is_assertion t ≡ true
asserts t c (condition q) = ap is_assertion q

plain : (t : FlatTerm) → Condition t None → is_assertion t ≡ false
plain t (no_condition q) = q

module _ (ls : List LetTree) (b : Exp) where
  pub left_behind : (ls' : Bor (List LetTree)) (b' : Bor Exp) (r : Option Left) → length ls ≡ 0 → b.form ≡ form.Lets ls' b' → Left_of (behind ls'.now b'.now) r → Left_of (behind ls b) r
  left_behind ls' b' r n is h = subst (λ z. Left_of z r) (sym (no_lets b ls (term_of b) n ∙ term_lets b ls' b' is)) h

  pub body_alone : length ls ≡ 0 → ((ls' : Bor (List LetTree)) (b' : Bor Exp) → b.form ≡ form.Lets ls' b' → ⊥) → Left_of (behind ls b) None
  body_alone n h = none_left (ap is_let (no_lets b ls (term_of b) n) ∙ not_row b h)

  pub at_assertion : (d : LetTree) (c : Bor Exp) → (length ls ≡ 0 → ⊥) → Condition (term_of (get_or ls 0 d).value) (Some c) → Left_of (behind ls b) None
  at_assertion d c n h = none_left (value_tells ls d b (some ls n) ∙ ap not (asserts _ c h))

  pub at_let : (d : LetTree) (left : Left) → (length ls ≡ 0 → ⊥) → Condition (term_of (get_or ls 0 d).value) None → left.lets.now ≡ ls → left.body.now ≡ b → Left_of (behind ls b) (Some left)
  at_let d left n h same same' = left_of (value_tells ls d b (some ls n) ∙ ap not (plain _ h)) (λ i. behind (sym same i) (sym same' i)) (subst (λ z. 0 < length z) (sym same) (some ls n))

pub ruleset nexts = (left_behind, body_alone, at_assertion, at_let)

-- ---- the walk of lets, by the first

pub first_in_row : (ls : List LetTree) (b : Exp) (d : LetTree) → 0 < length ls → Condition (term_of (get_or ls 0 d).value) None → is_let (behind ls b) ≡ true
first_in_row ls b d more h = value_tells ls d b more ∙ ap not (plain _ h)

module _ (tops sc : Scope) (level spent : ℕ) (ls : List LetTree) (b : Exp) where
  pub first_asserts : (d : LetTree) (c : Bor Exp) (rest : List LetTree) (r : Result Walked Stop) → 0 < length ls → Condition (term_of (get_or ls 0 d).value) (Some c) → rest ≡ drop 1 ls → Guards tops sc level spent (pattern_of (get_or ls 0 d).pat) (term_of c.now) (behind rest b) r → Walked_to tops sc level spent (behind ls b) r
  first_asserts d c rest r more (condition {mark = mark} q) same h =
      subst (λ z. Walked_to tops sc level spent z r) (sym (first_is ls d b more ∙ λ i. Let (binding_of (get_or ls 0 d)) (q i) (behind (sym same i) b))) (h (binding_of (get_or ls 0 d)) mark refl)

  -- what stands behind a let
  pub nothing_left : (r : Result Walked Stop) → length ls ≡ 0 → Walked_to tops sc level spent (term_of b) r → Walked_to tops sc level spent (behind ls b) r
  nothing_left r n h = subst (λ z. Walked_to tops sc level spent z r) (sym (no_lets b ls (term_of b) n)) h

  pub left_too_deep : 1000 ≤ level → Walked_to tops sc level spent (behind ls b) (Err Depth)
  left_too_deep le = stopped (deep comes_here (omega (arith, le)))

  pub left_too_many : 1048576 ≤ spent → Walked_to tops sc level spent (behind ls b) (Err Nodes)
  left_too_many le = stopped (over comes_here (omega (arith, le)))

pub ruleset firsts = (first_asserts, first_in_row)

pub ruleset rests = (nothing_left, left_too_deep, left_too_many)

-- ---- assertions

module _ (tops sc : Scope) (level spent : ℕ) (p : FlatPattern) (c e : FlatTerm) where
  pub assert_condition : (r : Stop) → Data_to tops sc (level + 1) (spent + 1) c (Err r) → Guards tops sc level spent p c e (Err r)
  assert_condition r (not_walked s) b mark same = stopped (up in_condition refl refl s)
  assert_condition _ (gives_function v h) b mark same = stopped (lost_here (asserted_function v h))

  pub assert_memory : (r : Stop) → r ≡ Memory → Guards tops sc level spent p c e (Err r)
  assert_memory r q b mark same = subst (λ z. Walked_to tops sc level spent (Let b (Strict Assert mark (term_and c no_term)) e) (Err z)) (sym q) (stopped no_memory)

  module _ (r1 : Count) (inner : Held_scope) where
    pub assert_guarded : (r : Stop) → Data_to tops sc (level + 1) (spent + 1) c (Ok r1) → scope_of inner ≡ data_bound p sc → Walked_to tops (scope_of inner) (level + 1) (spent + 1 + r1.nodes) e (Err r) → Guards tops sc level spent p c e (Err r)
    assert_guarded r (gives_data v) q (stopped s) b mark same = stopped (up (in_guarded v) refl (omega arith) (subst (λ z. Stopped tops z (level + 1) (spent + 1 + r1.nodes) e r) (q ∙ ap (λ z. data_bound z sc) (sym same)) s))

    pub assert_ok : (r2 : Walked) → Data_to tops sc (level + 1) (spent + 1) c (Ok r1) → scope_of inner ≡ data_bound p sc → Walked_to tops (scope_of inner) (level + 1) (spent + 1 + r1.nodes) e (Ok r2)
        → Guards tops sc level spent p c e (Ok (record { known = r2.known; nodes = 1 + r1.nodes + r2.nodes; depth = 1 + max r1.depth r2.depth }))
    assert_ok r2 (gives_data v) q (walked w) b mark same = walked (v_assert v (subst (λ z. Visits tops z e (known_of r2.known) r2.nodes r2.depth) (q ∙ ap (λ z. data_bound z sc) (sym same)) w))

pub ruleset assertions = (assert_condition, assert_memory, assert_guarded, assert_ok)
