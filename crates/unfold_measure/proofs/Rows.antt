-- Parts and rows of lets, one after the other.
use Rattle.std.proofs.Common.{◌≡◌, ℕ, ◌+◌, ◌≤◌, ◌<◌, ◌++◌, max, List, [], ◌∷◌, map, length, get_or, drop, Bool, true, false, cond, nat_lt, ◌==◌, Ok, Err, None, Some, refl, sym, ap, ◌∙◌, subst, arith, ltb-true, ltb-false}
use Rattle.std.specs.Ordering.{ord_max, is_lt, nat_cmp}
use Rattle.std.proofs.Common.{append-nil}
use mathlib.Core.List.{map-append}
use Rattle.std.specs.declared.cmp.Ordering.{Ordering}
use Rattle.std.specs.declared.cmp.Ordering.TheVariants.{Less, Equal, Greater}
use Rattle.std.specs.Borrow.{Bor}
use Rattle.fut_flat.specs.declared.exp.Exp.{Exp}
use Rattle.fut_flat.specs.declared.exp.Form.TheVariants as form
use Rattle.fut_flat.specs.declared.exp.Form.{Form-F, out-Form, roll-Form, roll-out-Form}
use Rattle.fut_flat.specs.declared.exp.Let.{Let as LetTree}
use Rattle.fut_flat.specs.Erased.{FlatTerm, lets, pattern_of, term_of, terms}
use Rattle.fut_scalar.specs.declared.place.BindId.{BindId}
use Rattle.fut_flat.specs.declared.prim.Ref.{Ref}
use Rattle.fut_flat.specs.Terms.{Binding, Let, Use, Strict, Lambda, Apply, If, Loop}
use Rattle.fut_flat.proofs.ErasedForms.{Layer, layer, exp_term, form_term_at, loop_is, row_is}
use Rattle.fut_meaning.specs.Knowns.{Scope, known_bound}
use Rattle.fut_meaning.specs.Walk.{is_let, Visits, v_lets, All_visits, v_none, v_body}
use Rattle.fut_meaning.specs.Comes.{Inside, in_lets, in_here, Inside_row, in_value, in_row_body, Stuck_row, no_pattern_here, no_row}
use Rattle.unfold_measure.specs.Held.{known_of, knowns, scope_of}
use Rattle.unfold_measure.specs.declared.known.Known.{Known as Held_known}
use Rattle.unfold_measure.specs.declared.known.Scope.{Scope as Held_scope}
use Rattle.unfold_measure.specs.declared.stop.Stop.{Stop}
use Rattle.unfold_measure.specs.declared.stop.Stop.TheVariants.{Memory}
use Rattle.unfold_measure.specs.declared.walked.Walked.{Walked}
use Rattle.unfold_measure.specs.declared.walked.Row.{Row as Held_row}
use Rattle.unfold_measure.specs.Answers.{Bound_to, bound_is, not_bound, no_memory_to_bind, Ended, ended_at, is_stuck, no_memory_left, Walked_to, walked, stopped, Stopped, no_memory, Parts_to, parts_walked, parts_stopped, Leads}
use Rattle.unfold_measure.specs.Rows.{Left_of, left_of, none_left, behind, binding_of, how_many}
use Rattle.unfold_measure.specs.declared.lets.Left.{Left}
use Rattle.unfold_measure.proofs.Walks.{into}
use Rattle.unfold_measure.proofs.Leads.{leads_start, leads_on, leads_let, All_lead, all_start, all_on}
use Rattle.unfold_reach.proofs.Lists.{one_more, drop_end}

-- the greater of two numbers, as code has it
pub greater : (a b : ℕ) → ord_max nat_cmp a b ≡ max a b
greater a b = by_less (nat_lt b a) (cond (b == a) Equal Greater) (by_equal (b == a)) refl
  where
    by_equal : (c : Bool) → is_lt (cond c Equal Greater) ≡ false
    by_equal true = refl
    by_equal false = refl

    by_less : (c : Bool) (o : Ordering) → is_lt o ≡ false → nat_lt b a ≡ c → cond (is_lt (cond c Less o)) a b ≡ max a b
    by_less true o e q = let z : a ≡ max a b = omega (arith, ltb-true b a q) in z
    by_less false o e q = ap (λ z. cond z a b) e ∙ (let z : b ≡ max a b = omega (arith, ltb-false b a q) in z)

-- ---- parts

module _ (tops sc : Scope) (es : List Exp) (nodes depth : ℕ) (ss : List Held_known) where
  abbrev All_from : ℕ → Type 0
  All_from i = All_lead tops sc (map term_of es) nodes depth (map known_of ss) (map term_of (drop i es))

  all_at : (i : ℕ) (d : Exp) → i < length es → All_from i → All_lead tops sc (map term_of es) nodes depth (map known_of ss) (term_of (get_or es i d) ∷ map term_of (drop (i + 1) es))
  all_at i d lt a = subst (λ z. All_lead tops sc (map term_of es) nodes depth (map known_of ss) (map term_of z)) (one_more es i d lt) a

  pub parts_more : (i : ℕ) (d : Exp) (level spent : ℕ) (r : Walked) (ss' : List Held_known) → i < length es → All_from i → Walked_to tops sc level spent (term_of (get_or es i d)) (Ok r) → ss' ≡ ss ++ r.known ∷ [] → All_lead tops sc (map term_of es) (nodes + r.nodes) (max depth r.depth) (map known_of ss') (map term_of (drop (i + 1) es))
  parts_more i d level spent r ss' lt a (walked v) q = subst (λ z. All_lead tops sc (map term_of es) (nodes + r.nodes) (max depth r.depth) z (map term_of (drop (i + 1) es))) (sym (ap (map known_of) q ∙ map-append known_of ss (r.known ∷ []))) (all_on (all_at i d lt a) v)

  pub parts_fail : (i : ℕ) (d : Exp) (level spent : ℕ) (r : Stop) → i < length es → All_from i → Walked_to tops sc level (spent + nodes) (term_of (get_or es i d)) (Err r) → Parts_to tops sc level spent (terms (map term_of es)) (Err r)
  unfolding terms
  parts_fail i d level spent r lt a (stopped s) = let lead = all_at i d lt a in parts_stopped (ended_at (lead.inside 0 _ _ in_here) (omega arith) s)

  pub parts_memory : (level spent : ℕ) → Parts_to tops sc level spent (terms (map term_of es)) (Err Memory)
  parts_memory level spent = parts_stopped no_memory_left

  pub parts_done : (i : ℕ) (level spent : ℕ) (all : Bor (List Held_known)) → length es ≤ i → All_from i → all.now ≡ ss → Parts_to tops sc level spent (terms (map term_of es)) (Ok (record { knowns = all; nodes = nodes; depth = depth }))
  unfolding terms knowns
  parts_done i level spent all le a q = parts_walked (subst (λ z. All_visits tops sc (terms (map term_of es)) z nodes depth) (ap knowns (append-nil (map known_of ss) ∙ ap (map known_of) (sym q))) (subst (λ z. All_visits tops sc (terms (map term_of es)) (knowns (map known_of ss ++ [])) z depth) (omega arith) (subst (λ z. All_visits tops sc (terms (map term_of es)) (knowns (map known_of ss ++ [])) (nodes + 0) z) (omega arith) (a'.visits [] 0 0 v_none))))
    where
      a' : All_lead tops sc (map term_of es) nodes depth (map known_of ss) []
      a' = subst (λ z. All_lead tops sc (map term_of es) nodes depth (map known_of ss) (map term_of z)) (drop_end i es le) a

-- ---- rows of lets, and what stands behind them

pub not_row : (e : Exp) → ((ls : Bor (List LetTree)) (b : Bor Exp) → e.form ≡ form.Lets ls b → ⊥) → is_let (term_of e) ≡ false
not_row e h = ap is_let (exp_term e ∙ form_term_at e.form e.place) ∙ other (out-Form e.form) refl
  where
    other : (l : Layer) → out-Form e.form ≡ l → is_let (layer l e.place) ≡ false
    other (Form-F.Use r k) q = refl
    other (Form-F.Strict a mark es) q = refl
    other (Form-F.Lambda ps b) q = refl
    other (Form-F.Apply f x) q = refl
    other (Form-F.Lets ls b) q = absurd (h ls b (sym (roll-out-Form e.form) ∙ ap roll-Form (q ∙ sym (form.outs-Lets ls b)) ∙ roll-out-Form (form.Lets ls b)))
    other (Form-F.If c a b) q = refl
    other (Form-F.Loop l) q = ap is_let (loop_is l.now)

as_row : (e : FlatTerm) (P : FlatTerm → Type 0) → is_let e ≡ true → ((b : Binding Ref BindId) (v x : FlatTerm) → is_let (Let b v x) ≡ true → P (Let b v x)) → P e
as_row (Let b v x) P h f = f b v x h
as_row (Use r at k) P h f = absurd (let z : false ≡ true = h in cc)
as_row (Strict o m ts) P h f = absurd (let z : false ≡ true = h in cc)
as_row (Lambda ps x) P h f = absurd (let z : false ≡ true = h in cc)
as_row (Apply g x) P h f = absurd (let z : false ≡ true = h in cc)
as_row (If c a b) P h f = absurd (let z : false ≡ true = h in cc)
as_row (Loop m s p x t b) P h f = absurd (let z : false ≡ true = h in cc)

pub ends : {t : FlatTerm} → Left_of t None → is_let t ≡ false
ends (none_left n) = n

-- lets, by the first
pub first_is : (ls : List LetTree) (d : LetTree) (b : Exp) → 0 < length ls → behind ls b ≡ Let (binding_of (get_or ls 0 d)) (term_of (get_or ls 0 d).value) (behind (drop 1 ls) b)
unfolding lets
first_is [] d b n = absurd (omega (arith, n))
first_is (l ∷ ls) d b n = λ i. Let (row_is l i).0 (row_is l i).1 (behind ls b)

first_left : {t : FlatTerm} (n : Left) (d : LetTree) → Left_of t (Some n) → t ≡ Let (binding_of (get_or n.lets.now 0 d)) (term_of (get_or n.lets.now 0 d).value) (behind (drop 1 n.lets.now) n.body.now)
first_left n d (left_of l q some) = q ∙ first_is n.lets.now d n.body.now some

goes_on : {t : FlatTerm} (n : Left) → Left_of t (Some n) → is_let t ≡ true
goes_on n (left_of l q some) = l

-- each let leaves less of its row
pub row_shrinks : {t : FlatTerm} (n : Left) (d : LetTree) (rest : List LetTree) (b : Exp) → Left_of t (Some n) → rest ≡ drop 1 n.lets.now → b ≡ n.body.now → how_many (behind rest b) < how_many t
row_shrinks n d rest b k same same' = subst (λ z. how_many (behind rest b) < z) (sym (ap how_many (first_left n d k) ∙ (λ i. how_many (Let (binding_of (get_or n.lets.now 0 d)) (term_of (get_or n.lets.now 0 d).value) (behind (sym same i) (sym same' i)))))) (omega arith)

module _ (tops sc : Scope) (level spent : ℕ) (e : FlatTerm) (row : Held_row) (t : FlatTerm) where
  abbrev So_far : Type 0
  So_far = Leads tops sc e row.nodes row.depth (scope_of row.scope.now) t

  inside_row : {r : Stop} → is_let e ≡ true → So_far → Ended tops (Inside_row tops (scope_of row.scope.now) t) (Stuck_row tops (scope_of row.scope.now) t) (level + 1) (spent + 1 + row.nodes) r → Stopped tops sc level spent e r
  inside_row {r} h = as_row e (λ e. Leads tops sc e row.nodes row.depth (scope_of row.scope.now) t → Ended tops (Inside_row tops (scope_of row.scope.now) t) (Stuck_row tops (scope_of row.scope.now) t) (level + 1) (spent + 1 + row.nodes) r → Stopped tops sc level spent e r) h
      (λ b v x l a k. into (1 + row.nodes) k (λ n inner t i. subst (λ z. Inside tops sc (Let b v x) z inner t) (omega arith) (in_lets l (a.inside n inner t i))) (λ s. no_row l (a.stuck s)) refl (omega arith))

  -- one let further
  module _ (left : Left) (d : LetTree) where
    pub row_more : (around before : ℕ) (r : Walked) (inner : Bor Held_scope) (rest : List LetTree) (b : Exp) → So_far → Left_of t (Some left) → Walked_to tops (scope_of row.scope.now) around before (term_of (get_or left.lets.now 0 d).value) (Ok r) → Bound_to (known_bound (pattern_of (get_or left.lets.now 0 d).pat) (known_of r.known) (scope_of row.scope.now)) (Ok inner) → rest ≡ drop 1 left.lets.now → b ≡ left.body.now
        → Leads tops sc e (row.nodes + r.nodes) (max row.depth r.depth) (scope_of inner.now) (behind rest b)
    row_more around before r inner rest b a k (walked v) (bound_is h) same same' =
        subst (λ z. Leads tops sc e (row.nodes + r.nodes) (max row.depth r.depth) (scope_of inner.now) z) (λ i. behind (sym same i) (sym same' i))
        (leads_on (subst (λ z. Leads tops sc e row.nodes row.depth (scope_of row.scope.now) z) (first_left left d k) a) (leads_let (subst (λ z. is_let z ≡ true) (first_left left d k) (goes_on left k)) v h))

    pub row_value : (r : Stop) → is_let e ≡ true → So_far → Left_of t (Some left) → Walked_to tops (scope_of row.scope.now) (level + 1) (spent + 1 + row.nodes) (term_of (get_or left.lets.now 0 d).value) (Err r) → Walked_to tops sc level spent e (Err r)
    row_value r h a k (stopped s) = stopped (inside_row h a (ended_at (subst (λ z. Inside_row tops (scope_of row.scope.now) z 0 (scope_of row.scope.now) (term_of (get_or left.lets.now 0 d).value)) (sym (first_left left d k)) (in_value (subst (λ z. is_let z ≡ true) (first_left left d k) (goes_on left k)))) (omega arith) s))

    pub row_pattern : (around before : ℕ) (r : Walked) (s : Stop) → is_let e ≡ true → So_far → Left_of t (Some left) → Walked_to tops (scope_of row.scope.now) around before (term_of (get_or left.lets.now 0 d).value) (Ok r) → Bound_to (known_bound (pattern_of (get_or left.lets.now 0 d).pat) (known_of r.known) (scope_of row.scope.now)) (Err s) → Walked_to tops sc level spent e (Err s)
    row_pattern around before r _ h a k (walked v) (not_bound n) = stopped (inside_row h a (is_stuck (subst (Stuck_row tops (scope_of row.scope.now)) (sym (first_left left d k)) (no_pattern_here (subst (λ z. is_let z ≡ true) (first_left left d k) (goes_on left k)) v n))))
    row_pattern around before r _ h a k w no_memory_to_bind = stopped no_memory

  -- what stands behind the row
  pub row_last : (r : Stop) → is_let e ≡ true → So_far → Left_of t None → Walked_to tops (scope_of row.scope.now) (level + 1) (spent + 1 + row.nodes) t (Err r) → Walked_to tops sc level spent e (Err r)
  row_last r h a n (stopped s) = stopped (inside_row h a (ended_at (in_row_body (ends n)) (omega arith) s))

  pub row_ok : (r : Walked) → is_let e ≡ true → So_far → Left_of t None → Walked_to tops (scope_of row.scope.now) (level + 1) (spent + 1 + row.nodes) t (Ok r) → Walked_to tops sc level spent e (Ok (record { known = r.known; nodes = 1 + (row.nodes + r.nodes); depth = 1 + max row.depth r.depth }))
  row_ok r h a n (walked v) = walked (as_row e (λ e. Leads tops sc e row.nodes row.depth (scope_of row.scope.now) t → Visits tops sc e (known_of r.known) (1 + (row.nodes + r.nodes)) (1 + max row.depth r.depth)) h (λ b w x l a. v_lets l (a.visits (known_of r.known) r.nodes r.depth (v_body (ends n) v))) a)

pub ruleset parts = (all_start, parts_more, parts_fail, parts_memory, parts_done)

pub ruleset rows = (leads_start, row_more, row_shrinks, row_value, row_pattern, row_last, row_ok)
