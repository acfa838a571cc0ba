-- How the walk of an `if` or of a loop follows from that of its three expressions.
use Rattle.std.proofs.Common.{◌≡◌, ℕ, ◌+◌, max, List, false, Ok, Err, refl, sym, ap, ◌∙◌, subst, arith}
use Rattle.std.specs.Prelude.{Result}
use Rattle.std.specs.Borrow.{Bor}
use Rattle.fut_scalar.specs.declared.place.BindId.{BindId}
use Rattle.fut_scalar.specs.declared.place.Place.{Place}
use Rattle.fut_flat.specs.declared.exp.Exp.{Exp}
use Rattle.fut_flat.specs.declared.exp.Loop.{Loop as LoopTree}
use Rattle.fut_flat.specs.declared.exp.LoopForm.{LoopForm}
use Rattle.fut_flat.specs.declared.exp.LoopForm.TheVariants as turns
use Rattle.fut_flat.specs.declared.pat.Pat.{Pat}
use Rattle.fut_flat.specs.Erased.{FlatPattern, FlatTerm, FlatTurns, pattern_of, term_of}
use Rattle.fut_flat.specs.Terms.{If, Loop, Counted, Over}
use Rattle.fut_flat.proofs.ErasedForms.{loop_of, turns_of, turns_counted, turns_over, turns_while}
use Rattle.fut_meaning.specs.Knowns.{Known, Data, Scope, is_data, known_as, data_bound}
use Rattle.fut_meaning.specs.Walk.{Visits, v_if, v_loop, Turn_visits, v_counted, v_over, v_while}
use Rattle.fut_meaning.specs.Comes.{Inside, in_if, in_then, in_else, in_first, in_turns, in_loop_body, Inside_turns, in_counted, in_over, in_while, Stuck_turns, no_count, no_rows, no_condition, if_function, then_function, else_function, first_function, no_turns, body_function, Lost as Is_lost}
use Rattle.unfold_measure.specs.Held.{known_of, scope_of}
use Rattle.unfold_measure.specs.declared.known.Known.{Known as Held_known}
use Rattle.unfold_measure.specs.declared.known.Scope.{Scope as Held_scope}
use Rattle.unfold_measure.specs.declared.stop.Stop.{Stop}
use Rattle.unfold_measure.specs.declared.walked.Walked.{Walked}
use Rattle.unfold_measure.specs.declared.walked.Count.{Count}
use Rattle.unfold_measure.specs.Answers.{Data_to, gives_data, not_walked, gives_function, Stopped, Walked_to, walked, stopped}
use Rattle.unfold_measure.specs.Steps.{Turns_at, at_counted, at_over, at_while, test_of, Stepped_to, stepped, first_stops, second_stops, third_stops}
use Rattle.unfold_measure.proofs.Endings.{loop_as}
use Rattle.unfold_measure.proofs.Walks.{up, lost_here}

module _ (tops sc sc1 sc2 : Scope) (level spent : ℕ) (e e1 e2 : FlatTerm) where
  abbrev So : Result Walked Stop → Type 0
  So = Stepped_to tops sc sc1 sc2 level spent e e1 e2

  module _ (r1 : Count) where
    pub step_second : (r : Stop) → Data_to tops sc (level + 1) (spent + 1) e (Ok r1) → Data_to tops sc1 (level + 1) (spent + 1 + r1.nodes) e1 (Err r) → So (Err r)
    step_second r (gives_data v) h = second_stops v h

    module _ (r2 : Count) where
      pub step_third : (r : Stop) → Data_to tops sc (level + 1) (spent + 1) e (Ok r1) → Data_to tops sc1 (level + 1) (spent + 1 + r1.nodes) e1 (Ok r2) → Data_to tops sc2 (level + 1) (spent + 1 + r1.nodes + r2.nodes) e2 (Err r) → So (Err r)
      step_third r (gives_data v) (gives_data w) h = third_stops v w h

      pub steps_done : (r3 : Count) (k : Held_known) → known_of k ≡ Data → Data_to tops sc (level + 1) (spent + 1) e (Ok r1) → Data_to tops sc1 (level + 1) (spent + 1 + r1.nodes) e1 (Ok r2) → Data_to tops sc2 (level + 1) (spent + 1 + r1.nodes + r2.nodes) e2 (Ok r3) → So (Ok (record { known = k; nodes = 1 + r1.nodes + r2.nodes + r3.nodes; depth = 1 + max r1.depth (max r2.depth r3.depth) }))
      steps_done r3 k q (gives_data v) (gives_data w) (gives_data x) = stepped v w x q refl refl

  -- a term that is walked by these three
  record Walks_by (t : FlatTerm) : Type 0 where
    done : {m d m1 d1 m2 d2 : ℕ} → Visits tops sc e Data m d → Visits tops sc1 e1 Data m1 d1 → Visits tops sc2 e2 Data m2 d2 → Visits tops sc t Data (1 + m + m1 + m2) (1 + max d (max d1 d2))
    first : Inside tops sc t 1 sc e
    second : {m d : ℕ} → Visits tops sc e Data m d → Inside tops sc t (1 + m) sc1 e1
    third : {m d m1 d1 : ℕ} → Visits tops sc e Data m d → Visits tops sc1 e1 Data m1 d1 → Inside tops sc t (1 + m + m1) sc2 e2
    no_first : {k : Known} {m d : ℕ} → Visits tops sc e k m d → is_data k ≡ false → Is_lost tops sc t
    no_second : {k : Known} {m d : ℕ} → Visits tops sc1 e1 k m d → is_data k ≡ false → Is_lost tops sc t
    no_third : {k : Known} {m d m1 d1 : ℕ} → Visits tops sc1 e1 Data m1 d1 → Visits tops sc2 e2 k m d → is_data k ≡ false → Is_lost tops sc t

  module _ {t : FlatTerm} (w : Walks_by t) where
    first_step : {r : Stop} → Data_to tops sc (level + 1) (spent + 1) e (Err r) → Stopped tops sc level spent t r
    first_step (not_walked h) = up w.first refl refl h
    first_step (gives_function v n) = lost_here (w.no_first v n)

    second_step : {r : Stop} {m d : ℕ} → Visits tops sc e Data m d → Data_to tops sc1 (level + 1) (spent + 1 + m) e1 (Err r) → Stopped tops sc level spent t r
    second_step v (not_walked h) = up (w.second v) refl (omega arith) h
    second_step v (gives_function x n) = lost_here (w.no_second x n)

    third_step : {r : Stop} {m d m1 d1 : ℕ} → Visits tops sc e Data m d → Visits tops sc1 e1 Data m1 d1 → Data_to tops sc2 (level + 1) (spent + 1 + m + m1) e2 (Err r) → Stopped tops sc level spent t r
    third_step v u (not_walked h) = up (w.third v u) refl (omega arith) h
    third_step v u (gives_function x n) = lost_here (w.no_third u x n)

    by_steps : {r : Result Walked Stop} → So r → Walked_to tops sc level spent t r
    by_steps (stepped {r = r} {m} {d} {m1} {d1} {m2} {d2} v u x k n q) = walked (subst (λ z. Visits tops sc t z r.nodes r.depth) (sym k) (subst (λ z. Visits tops sc t Data z r.depth) (sym n) (subst (λ z. Visits tops sc t Data (1 + m + m1 + m2) z) (sym q) (w.done v u x))))
    by_steps (first_stops h) = stopped (first_step h)
    by_steps (second_stops v h) = stopped (second_step v h)
    by_steps (third_stops v u h) = stopped (third_step v u h)

-- ---- branches

pub if_steps : {tops sc : Scope} {level spent : ℕ} {c a b : FlatTerm} {r : Result Walked Stop} → Stepped_to tops sc sc sc level spent c a b r → Walked_to tops sc level spent (If c a b) r
if_steps h = by_steps _ _ _ _ _ _ _ _ _ (record {
  done = λ v u x. v_if v u x;
  first = in_if;
  second = λ v. in_then v;
  third = λ v u. in_else v u;
  no_first = λ v n. if_function v n;
  no_second = λ v n. then_function v n;
  no_third = λ u v n. else_function v n;
}) h

-- ---- loops

turn_visits : {tops sc inside sc' inner : Scope} {ts : FlatTurns} {m d : ℕ} → Turns_at sc inside ts sc' inner → Visits tops sc' (test_of ts) Data m d → Turn_visits tops sc inside ts inner m d
turn_visits at_counted v = v_counted v
turn_visits at_over v = v_over v
turn_visits at_while v = v_while v

turn_inside : {sc inside sc' inner : Scope} {ts : FlatTurns} → Turns_at sc inside ts sc' inner → Inside_turns sc inside ts sc' (test_of ts)
turn_inside at_counted = in_counted
turn_inside at_over = in_over
turn_inside at_while = in_while

turn_stuck : {tops sc inside sc' inner : Scope} {ts : FlatTurns} {k : Known} {m d : ℕ} → Turns_at sc inside ts sc' inner → Visits tops sc' (test_of ts) k m d → is_data k ≡ false → Stuck_turns tops sc inside ts
turn_stuck at_counted v n = no_count v n
turn_stuck at_over v n = no_rows v n
turn_stuck at_while v n = no_condition v n

module _ {tops sc sc1 sc2 : Scope} {level spent : ℕ} where
  loop_walked : (mark : Place) (sizes : List BindId) (p : FlatPattern) (first body : FlatTerm) (ts : FlatTurns) (r : Result Walked Stop) → Turns_at sc (data_bound p sc) ts sc1 sc2 → Stepped_to tops sc sc1 sc2 level spent first (test_of ts) body r → Walked_to tops sc level spent (Loop mark sizes p first ts body) r
  loop_walked mark sizes p first body ts r t h = by_steps _ _ _ _ _ _ _ _ _ (record {
    done = λ v u x. v_loop v (turn_visits t u) x;
    first = in_first;
    second = λ v. in_turns v (turn_inside t);
    third = λ v u. in_loop_body v (turn_visits t u);
    no_first = λ v n. first_function v n;
    no_second = λ v n. no_turns (turn_stuck t v n);
    no_third = λ u v n. body_function (turn_visits t u) v n;
  }) h

  pub loop_steps : (l : LoopTree) (r : Result Walked Stop) (test : FlatTerm) → Turns_at sc (data_bound (pattern_of l.pat) sc) (turns_of l.form) sc1 sc2 → test ≡ test_of (turns_of l.form) → Stepped_to tops sc sc1 sc2 level spent (term_of l.first) test (term_of l.body) r → Walked_to tops sc level spent (loop_of l) r
  loop_steps l r test t q h = loop_as l r (loop_walked _ _ _ _ _ _ r t (subst (λ z. Stepped_to tops sc sc1 sc2 level spent (term_of l.first) z (term_of l.body) r) q h))

-- ---- the names of a turn

module _ {sc : Scope} (t : LoopForm) (names : Bor Held_scope) where
  at_names : {inside sc' inner : Scope} → scope_of names.now ≡ inside → Turns_at sc (scope_of names.now) (turns_of t) sc' inner → Turns_at sc inside (turns_of t) sc' inner
  at_names {sc' = sc'} {inner} q a = subst (λ z. Turns_at sc z (turns_of t) sc' inner) q a

  pub counted_at : {inside : Scope} (i : BindId) (n : Exp) (s : Held_known) (inner : Bor Held_scope) → scope_of names.now ≡ inside → t ≡ turns.For i n → known_of s ≡ Data → scope_of inner.now ≡ known_as i (known_of s) (scope_of names.now) → Turns_at sc inside (turns_of t) sc (scope_of inner.now)
  counted_at i n s inner e is d q = at_names e (subst (λ z. Turns_at sc (scope_of names.now) z sc (scope_of inner.now)) (sym (ap turns_of is ∙ turns_counted i n)) (subst (λ z. Turns_at sc (scope_of names.now) (Counted i (term_of n)) sc z) (sym (q ∙ ap (λ z. known_as i z (scope_of names.now)) d)) at_counted))

  pub over_at : {inside : Scope} (p : Pat) (a : Exp) (inner : Bor Held_scope) → scope_of names.now ≡ inside → t ≡ turns.ForIn p a → scope_of inner.now ≡ data_bound (pattern_of p) (scope_of names.now) → Turns_at sc inside (turns_of t) sc (scope_of inner.now)
  over_at p a inner e is q = at_names e (subst (λ z. Turns_at sc (scope_of names.now) z sc (scope_of inner.now)) (sym (ap turns_of is ∙ turns_over p a)) (subst (λ z. Turns_at sc (scope_of names.now) (Over (pattern_of p) (term_of a)) sc z) (sym q) at_over))

  pub while_at : {inside : Scope} (c : Exp) → scope_of names.now ≡ inside → t ≡ turns.While c → Turns_at sc inside (turns_of t) (scope_of names.now) (scope_of names.now)
  while_at c e is = at_names e (subst (λ z. Turns_at sc (scope_of names.now) z (scope_of names.now) (scope_of names.now)) (sym (ap turns_of is ∙ turns_while c)) at_while)

-- ---- what says how many turns there are

module _ (t : LoopForm) where
  pub counted_test : (i : BindId) (n : Exp) → t ≡ turns.For i n → term_of n ≡ test_of (turns_of t)
  counted_test i n is = sym (ap (λ z. test_of (turns_of z)) is ∙ ap test_of (turns_counted i n))

  pub over_test : (p : Pat) (a : Exp) → t ≡ turns.ForIn p a → term_of a ≡ test_of (turns_of t)
  over_test p a is = sym (ap (λ z. test_of (turns_of z)) is ∙ ap test_of (turns_over p a))

  pub while_test : (c : Exp) → t ≡ turns.While c → term_of c ≡ test_of (turns_of t)
  while_test c is = sym (ap (λ z. test_of (turns_of z)) is ∙ ap test_of (turns_while c))

pub ruleset stepping = (first_stops, step_second, step_third, steps_done)
