-- Known functions applied to arguments.
use Rattle.std.proofs.Common.{◌≡◌, ℕ, zero, suc, ◌+◌, ◌-◌, ◌≤◌, ◌<◌, ◌++◌, max, List, [], ◌∷◌, map, length, get_or, drop, true, false, Ok, Err, refl, sym, ap, ◌∙◌, subst, arith, lt-ltb, le-ltb}
use Rattle.std.specs.Prelude.{Result, nat_lt}
use Rattle.std.specs.Borrow.{Bor}
use Rattle.fut_flat.specs.declared.pat.Pat.{Pat}
use Rattle.fut_flat.specs.declared.prim.Primitive.{Primitive}
use Rattle.fut_flat.specs.Erased.{FlatTerm, pattern_of, patterns, term_of}
use Rattle.fut_meaning.specs.Operations.{parameters_of, arity}
use Rattle.fut_meaning.specs.Knowns.{Known, Data, Known_function, Known_primitive, known_and, Scope, is_data, known_bound, count, with_known}
use Rattle.fut_meaning.specs.Walk.{Runs, r_body, r_waits, r_primitive_waits, r_primitive, Given_visits, g_none, Function_visits, f_data}
use Rattle.fut_meaning.specs.Comes.{is_function, Inside_run, in_run_body, in_primitive, Inside_given, in_given, in_applied, Stuck_run, no_function, no_parameter, no_given, Stuck_given, stuck_here, too_few, too_many, Stuck_function, no_data, stuck_run}
use Rattle.unfold_measure.specs.Held.{known_of, knowns, scope_of}
use Rattle.unfold_measure.specs.declared.known.Known.{Known as Held_known}
use Rattle.unfold_measure.specs.declared.known.KnownForm.TheVariants as form
use Rattle.unfold_measure.specs.declared.known.Closure.{Closure}
use Rattle.unfold_measure.specs.declared.known.Scope.{Scope as Held_scope}
use Rattle.unfold_measure.specs.declared.stop.Stop.{Stop}
use Rattle.unfold_measure.specs.declared.stop.Stop.TheVariants.{Lost, Memory}
use Rattle.unfold_measure.specs.declared.walked.Walked.{Walked}
use Rattle.unfold_measure.specs.declared.walked.Count.{Count}
use Rattle.unfold_measure.specs.Answers.{Bound_to, bound_is, not_bound, no_memory_to_bind, Ended, ended_at, is_stuck, no_memory_left, Walked_to, walked, stopped, Ran_to, ran, run_stopped, Given_to, given, given_stopped, Function_to, function_ran, function_stopped}
use Rattle.unfold_measure.proofs.Mirror.{by_form, known_function, known_primitive}
use Rattle.unfold_measure.proofs.Parts.{count_knowns, one_behind}
use Rattle.unfold_measure.proofs.Walks.{within}
use Rattle.unfold_measure.proofs.Leads.{Function_leads, function_start, function_on, Given_leads, given_start, given_on}
use Rattle.unfold_reach.proofs.Lists.{one_more, drop_end}
use Rattle.unfold_measure.proofs.Forms.{data_only}

-- ---- what is applied, by its form

module _ (tops : Scope) (level spent : ℕ) (h : Held_known) (s : Known) where
  is_none : {k : Known} → is_function k ≡ false → Ran_to tops level spent k s (Err Lost)
  is_none n = run_stopped (is_stuck (no_function n))

  pub run_other : ((c : Bor Closure) → h.form.now ≡ form.Function c → ⊥) → ((p : Primitive) (ss : Bor (List Held_known)) → h.form.now ≡ form.Primitive p ss → ⊥) → Ran_to tops level spent (known_of h) s (Err Lost)
  run_other f p = by_form h (λ k. Ran_to tops level spent k s (Err Lost)) (λ is. is_none refl) (λ ss is. is_none refl) (λ fs ss is. is_none refl) (λ c is. absurd (f c is)) (λ q ss is. absurd (p q ss is))

  pub run_of_function : (c : Bor Closure) (r : Result Walked Stop) → h.form.now ≡ form.Function c → Ran_to tops level spent (Known_function (patterns (map pattern_of c.now.params.now)) (term_of c.now.body.now) (scope_of c.now.scope.now)) s r → Ran_to tops level spent (known_of h) s r
  run_of_function c r is x = subst (λ z. Ran_to tops level spent z s r) (sym (known_function h c is)) x

  pub run_of_primitive : (p : Primitive) (ss : Bor (List Held_known)) (r : Result Walked Stop) → h.form.now ≡ form.Primitive p ss → Ran_to tops level spent (Known_primitive p (knowns (map known_of ss.now))) s r → Ran_to tops level spent (known_of h) s r
  run_of_primitive p ss r is x = subst (λ z. Ran_to tops level spent z s r) (sym (known_primitive h p ss is)) x

-- ---- functions

module _ (tops : Scope) (level spent : ℕ) (ps : List Pat) (body : FlatTerm) (sc : Scope) (s : Known) where
  pub run_none : length ps ≡ 0 → Ran_to tops level spent (Known_function (patterns (map pattern_of ps)) body sc) s (Err Lost)
  unfolding patterns
  run_none n = none ps n
    where
      none : (ps : List Pat) → length ps ≡ 0 → Ran_to tops level spent (Known_function (patterns (map pattern_of ps)) body sc) s (Err Lost)
      none [] n = run_stopped (is_stuck (no_function refl))
      none (p ∷ ps) n = absurd (omega (arith, n))

module _ (tops : Scope) (level spent : ℕ) (body : FlatTerm) (sc : Scope) (s : Known) where
  pub run_pattern : (ps : List Pat) (d : Pat) (r : Stop) → (length ps ≡ 0 → ⊥) → Bound_to (known_bound (pattern_of (get_or ps 0 d)) s sc) (Err r) → Ran_to tops level spent (Known_function (patterns (map pattern_of ps)) body sc) s (Err r)
  unfolding patterns
  run_pattern [] d r n h = absurd (n refl)
  run_pattern (p ∷ ps) d _ some (not_bound n) = run_stopped (is_stuck (no_parameter n))
  run_pattern (p ∷ ps) d _ some no_memory_to_bind = run_stopped no_memory_left

  module _ (inner : Bor Held_scope) where
    pub run_last : (ps : List Pat) (d : Pat) (r : Result Walked Stop) → length ps ≡ 1 → Bound_to (known_bound (pattern_of (get_or ps 0 d)) s sc) (Ok inner) → Walked_to tops (scope_of inner.now) level spent body r → Ran_to tops level spent (Known_function (patterns (map pattern_of ps)) body sc) s r
    unfolding patterns
    run_last [] d r one h w = absurd (omega (arith, one))
    run_last (p ∷ []) d _ one (bound_is q) (walked v) = ran (r_body q v)
    run_last (p ∷ []) d _ one (bound_is q) (stopped x) = run_stopped (ended_at (in_run_body q) (omega arith) x)
    run_last (p ∷ p' ∷ ps) d r one h w = absurd (omega (arith, one))

    pub run_waits : (ps qs : List Pat) (d : Pat) (k : Held_known) → (length ps ≡ 0 → ⊥) → (length ps ≡ 1 → ⊥) → Bound_to (known_bound (pattern_of (get_or ps 0 d)) s sc) (Ok inner) → qs ≡ drop 1 ps → known_of k ≡ Known_function (patterns (map pattern_of qs)) body (scope_of inner.now) → Ran_to tops level spent (Known_function (patterns (map pattern_of ps)) body sc) s (Ok (record { known = k; nodes = 0; depth = 0 }))
    unfolding patterns
    run_waits [] qs d k n n' h e q = absurd (n refl)
    run_waits (p ∷ []) qs d k n n' h e q = absurd (n' refl)
    run_waits (p ∷ p' ∷ ps) qs d k n n' (bound_is i) e q = ran (subst (λ z. Runs tops (Known_function (patterns (map pattern_of (p ∷ p' ∷ ps))) body sc) s z 0 0) (sym (q ∙ ap (λ z. Known_function (patterns (map pattern_of z)) body (scope_of inner.now)) e)) (r_waits i))

-- ---- primitives

module _ (tops : Scope) (level spent : ℕ) (p : Primitive) (ss all : List Held_known) (x : Held_known) where
  pub primitive_memory : Ran_to tops level spent (Known_primitive p (knowns (map known_of ss))) (known_of x) (Err Memory)
  primitive_memory = run_stopped no_memory_left

  module _ (ks : List ℕ) (is : ks ≡ parameters_of p) (behind : all ≡ ss ++ x ∷ []) where
    more : knowns (map known_of all) ≡ with_known (knowns (map known_of ss)) (known_of x)
    more = ap (λ z. knowns (map known_of z)) behind ∙ one_behind ss x

    too_short : length ss + 1 < length ks → nat_lt (suc (count (knowns (map known_of ss)))) (arity p) ≡ true
    too_short lt = lt-ltb _ _ (omega (arith, lt, count_knowns ss, ap length is))

    long : length ks ≤ length ss + 1 → nat_lt (suc (count (knowns (map known_of ss)))) (arity p) ≡ false
    long le = le-ltb _ _ (omega (arith, le, count_knowns ss, ap length is))

    pub primitive_waits : (k : Held_known) → length ss + 1 < length ks → known_of k ≡ Known_primitive p (knowns (map known_of all)) → Ran_to tops level spent (Known_primitive p (knowns (map known_of ss))) (known_of x) (Ok (record { known = k; nodes = 0; depth = 0 }))
    primitive_waits k lt q = ran (subst (λ z. Runs tops (Known_primitive p (knowns (map known_of ss))) (known_of x) z 0 0) (sym (q ∙ ap (Known_primitive p) more)) (r_primitive_waits (too_short lt)))

    pub primitive_stopped : (r : Stop) → length ks ≤ length ss + 1 → Given_to tops level spent ks (knowns (map known_of all)) (Err r) → Ran_to tops level spent (Known_primitive p (knowns (map known_of ss))) (known_of x) (Err r)
    primitive_stopped r le (given_stopped h) = run_stopped (within 0 (subst (λ z. Ended tops (Inside_given tops z (with_known (knowns (map known_of ss)) (known_of x))) (Stuck_given tops z (with_known (knowns (map known_of ss)) (known_of x))) level spent r) is (subst (λ z. Ended tops (Inside_given tops ks z) (Stuck_given tops ks z) level spent r) more h)) (λ n sc t i. subst (λ z. Inside_run tops (Known_primitive p (knowns (map known_of ss))) (known_of x) z sc t) (omega arith) (in_primitive (long le) i)) (λ x. no_given (long le) x) (omega arith))

    pub primitive_ran : (r : Count) (k : Held_known) → length ks ≤ length ss + 1 → Given_to tops level spent ks (knowns (map known_of all)) (Ok r) → known_of k ≡ Data → Ran_to tops level spent (Known_primitive p (knowns (map known_of ss))) (known_of x) (Ok (record { known = k; nodes = r.nodes; depth = r.depth }))
    primitive_ran r k le (given v) q = ran (subst (λ z. Runs tops (Known_primitive p (knowns (map known_of ss))) (known_of x) z r.nodes r.depth) (sym q) (r_primitive (long le) (subst (λ z. Given_visits tops z (with_known (knowns (map known_of ss)) (known_of x)) r.nodes r.depth) is (subst (λ z. Given_visits tops ks z r.nodes r.depth) more v))))

-- ---- the arguments of a primitive

-- what is read from a list is what stands there
pub function_at : {tops : Scope} {level spent k : ℕ} {r : Result Count Stop} {s s' : Held_known} → s' ≡ s → Function_to tops level spent k (known_of s') r → Function_to tops level spent k (known_of s) r
function_at {tops} {level} {spent} {k} {r} e h = subst (λ z. Function_to tops level spent k (known_of z) r) e h

some_left : (i : ℕ) (ss : List Held_known) → i < length ss → drop i ss ≡ [] → ⊥
some_left i [] lt e = absurd (omega (arith, lt))
some_left zero (s ∷ ss) lt e = absurd (let z : s ∷ ss ≡ [] = e in cc)
some_left (suc i) (s ∷ ss) lt e = some_left i ss (omega (arith, lt)) e

too_many_left : (tops : Scope) (ks : List ℕ) → ks ≡ [] → (ss : List Held_known) → (ss ≡ [] → ⊥) → Stuck_given tops ks (knowns (map known_of ss))
unfolding knowns
too_many_left tops ks e [] n = absurd (n refl)
too_many_left tops ks e (s ∷ ss) n = subst (λ z. Stuck_given tops z (known_and (known_of s) (knowns (map known_of ss)))) (sym e) too_many

module _ (tops : Scope) (ks : List ℕ) (ss : List Held_known) (made : Count) (at : ℕ) where
  abbrev Given_from : ℕ → Type 0
  Given_from i = Given_leads tops ks (knowns (map known_of ss)) made.nodes made.depth (drop at ks) (knowns (map known_of (drop i ss)))

  given_at : (i k : ℕ) (d : Held_known) → at < length ks → i < length ss → Given_from i → Given_leads tops ks (knowns (map known_of ss)) made.nodes made.depth (get_or ks at k ∷ drop (at + 1) ks) (known_and (known_of (get_or ss i d)) (knowns (map known_of (drop (i + 1) ss))))
  unfolding knowns
  given_at i k d lt lt' a = subst (λ z. Given_leads tops ks (knowns (map known_of ss)) made.nodes made.depth z (known_and (known_of (get_or ss i d)) (knowns (map known_of (drop (i + 1) ss))))) (one_more ks at k lt) (subst (λ z. Given_leads tops ks (knowns (map known_of ss)) made.nodes made.depth (drop at ks) (knowns (map known_of z))) (one_more ss i d lt') a)

  pub given_more : (i k : ℕ) (d : Held_known) (level spent : ℕ) (r : Count) → at < length ks → i < length ss → Given_from i → Function_to tops level spent (get_or ks at k) (known_of (get_or ss i d)) (Ok r) → Given_leads tops ks (knowns (map known_of ss)) (made.nodes + r.nodes) (max made.depth r.depth) (drop (at + 1) ks) (knowns (map known_of (drop (i + 1) ss)))
  given_more i k d level spent r lt lt' a (function_ran v) = given_on (given_at i k d lt lt' a) v

  pub given_fail : (i k : ℕ) (d : Held_known) (level spent : ℕ) (r : Stop) → at < length ks → i < length ss → Given_from i → Function_to tops level (spent + made.nodes) (get_or ks at k) (known_of (get_or ss i d)) (Err r) → Given_to tops level spent ks (knowns (map known_of ss)) (Err r)
  given_fail i k d level spent r lt lt' a (function_stopped h) = let lead = given_at i k d lt lt' a in given_stopped (within made.nodes h (λ n sc t x. lead.inside n sc t (in_given x)) (λ x. lead.stuck (stuck_here x)) refl)

  pub given_many : (i : ℕ) (level spent : ℕ) → length ks ≤ at → i < length ss → Given_from i → Given_to tops level spent ks (knowns (map known_of ss)) (Err Lost)
  given_many i level spent le lt a = given_stopped (is_stuck (a.stuck (too_many_left tops (drop at ks) (drop_end at ks le) (drop i ss) (some_left i ss lt))))

  pub given_few : (i k : ℕ) (level spent : ℕ) → at < length ks → length ss ≤ i → Given_from i → Given_to tops level spent ks (knowns (map known_of ss)) (Err Lost)
  unfolding knowns
  given_few i k level spent lt le a = given_stopped (is_stuck (a.stuck (subst (λ z. Stuck_given tops z (knowns (map known_of (drop i ss)))) (sym (one_more ks at k lt)) (subst (λ z. Stuck_given tops (get_or ks at k ∷ drop (at + 1) ks) (knowns (map known_of z))) (sym (drop_end i ss le)) too_few))))

  pub given_done : (i : ℕ) (level spent : ℕ) → length ks ≤ at → length ss ≤ i → Given_from i → Given_to tops level spent ks (knowns (map known_of ss)) (Ok made)
  unfolding knowns
  given_done i level spent le le' a = given (subst (λ z. Given_visits tops ks (knowns (map known_of ss)) z made.depth) (omega arith) (subst (λ z. Given_visits tops ks (knowns (map known_of ss)) (made.nodes + 0) z) (omega arith) (a.visits 0 0 (subst (λ z. Given_visits tops z (knowns (map known_of (drop i ss))) 0 0) (sym (drop_end at ks le)) (subst (λ z. Given_visits tops [] (knowns (map known_of z)) 0 0) (sym (drop_end i ss le')) g_none)))))

-- ---- functions applied to data

module _ (tops : Scope) (k : ℕ) (h : Known) (made : Walked) (left : ℕ) where
  abbrev Function_from : Type 0
  Function_from = Function_leads tops k h made.nodes made.depth left (known_of made.known)

  left_on : 0 < left → left ≡ suc (left - 1)
  left_on lt = omega (arith, lt)

  left_at : 0 < left → Function_from → Function_leads tops k h made.nodes made.depth (suc (left - 1)) (known_of made.known)
  left_at lt a = subst (λ z. Function_leads tops k h made.nodes made.depth z (known_of made.known)) (left_on lt) a

  pub function_more : (level spent : ℕ) (d : Held_known) (r : Walked) → 0 < left → Function_from → known_of d ≡ Data → Ran_to tops level spent (known_of made.known) (known_of d) (Ok r) → Function_leads tops k h (made.nodes + r.nodes) (max made.depth r.depth) (left - 1) (known_of r.known)
  function_more level spent d r lt a q (ran v) = function_on (left_at lt a) (subst (λ z. Runs tops (known_of made.known) z (known_of r.known) r.nodes r.depth) q v)

  pub function_fail : (level spent : ℕ) (d : Held_known) (r : Stop) → 0 < left → Function_from → known_of d ≡ Data → Ran_to tops level (spent + made.nodes) (known_of made.known) (known_of d) (Err r) → Function_to tops level spent k h (Err r)
  function_fail level spent d r lt a q (run_stopped x) = let lead = left_at lt a in function_stopped (within made.nodes (subst (λ z. Ended tops (Inside_run tops (known_of made.known) z) (Stuck_run tops (known_of made.known) z) level (spent + made.nodes) r) q x) (λ n sc t i. lead.inside n sc t (in_applied i)) (λ s. lead.stuck (stuck_run s)) refl)

  pub function_data : (level spent : ℕ) → left ≤ 0 → Function_from → true ≡ is_data (known_of made.known) → Function_to tops level spent k h (Ok (record { nodes = made.nodes; depth = made.depth }))
  function_data level spent z0 a d = function_ran (subst (λ z. Function_visits tops k h z made.depth) (omega arith) (subst (λ z. Function_visits tops k h (made.nodes + 0) z) (omega arith) (a.visits 0 0 (subst (λ z. Function_visits tops z (known_of made.known) 0 0) (omega (arith, z0)) (subst (λ z. Function_visits tops 0 z 0 0) (sym (data_only _ (sym d))) f_data)))))

  pub function_other : (level spent : ℕ) → left ≤ 0 → Function_from → false ≡ is_data (known_of made.known) → Function_to tops level spent k h (Err Lost)
  function_other level spent z0 a d = function_stopped (is_stuck (a.stuck (subst (λ z. Stuck_function tops z (known_of made.known)) (omega (arith, z0)) (no_data (sym d)))))

pub ruleset runs = (run_other, run_of_function, run_of_primitive)

pub ruleset primitives = (primitive_memory, primitive_waits, primitive_stopped, primitive_ran)

pub ruleset givens = (given_start, given_more, given_fail, given_many, given_few, given_done)

pub ruleset functions = (function_start, function_more, function_fail, function_data, function_other)

pub ruleset bodies = (run_none, run_pattern, run_last, run_waits)
