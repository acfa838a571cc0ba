-- How the walk of a term follows from those of its parts.
use Rattle.std.proofs.Common.{◌≡◌, ℕ, ◌+◌, max, map, true, Ok, Err, refl, arith}
use Rattle.fut_scalar.specs.declared.place.BindId.{BindId}
use Rattle.fut_scalar.specs.declared.place.Place.{Place}
use Rattle.fut_flat.specs.declared.prim.Ref.{Ref}
use Rattle.fut_flat.specs.Erased.{FlatTerm}
use Rattle.fut_flat.specs.Terms.{Operation, Strict, Apply, Terms}
use Rattle.fut_meaning.specs.Knowns.{Scope, known_result}
use Rattle.fut_meaning.specs.Walk.{is_visit, v_strict, v_apply}
use Rattle.fut_meaning.specs.Comes.{Inside, in_part, in_function, in_argument, in_body_run, comes_here, comes_on, no_result, no_run, Lost as Is_lost}
use Rattle.unfold_measure.specs.Held.{known_of, knowns}
use Rattle.unfold_measure.specs.declared.known.Known.{Known as Held_known}
use Rattle.unfold_measure.specs.declared.stop.Stop.{Stop}
use Rattle.unfold_measure.specs.declared.stop.Stop.TheVariants.{Lost}
use Rattle.unfold_measure.specs.declared.walked.Walked.{Walked}
use Rattle.unfold_measure.specs.declared.walked.Parts.{Parts}
use Rattle.unfold_measure.specs.Answers.{Known_to, known_is, not_known, no_memory_to_know, Stopped, over, deep, astray, no_memory, Ended, ended_at, is_stuck, no_memory_left, Walked_to, walked, stopped, Parts_to, parts_walked, parts_stopped, Ran_to, ran, run_stopped}

-- a visit inside of another
pub up : {tops sc sc' : Scope} {e t : FlatTerm} {n level inner spent at : ℕ} {r : Stop} → Inside tops sc e n sc' t → inner ≡ level + 1 → at ≡ spent + n → Stopped tops sc' inner at t r → Stopped tops sc level spent e r
up i p q (over c le) = over (comes_on i c) (omega (arith, q, le))
up i p q (deep c le) = deep (comes_on i c) (omega (arith, p, le))
up i p q (astray c l) = astray (comes_on i c) l
up i p q no_memory = no_memory

pub lost_here : {tops sc : Scope} {e : FlatTerm} {level spent : ℕ} → Is_lost tops sc e → Stopped tops sc level spent e Lost
lost_here l = astray comes_here l

-- what stops inside of a term stops the term
pub into : {tops sc : Scope} {e : FlatTerm} {Reach : ℕ → Scope → FlatTerm → Type 0} {Stuck : Type 0} {level inner spent at : ℕ} {r : Stop} (k : ℕ) → Ended tops Reach Stuck inner at r → ((n : ℕ) (sc' : Scope) (t : FlatTerm) → Reach n sc' t → Inside tops sc e (k + n) sc' t) → (Stuck → Is_lost tops sc e) → inner ≡ level + 1 → at ≡ spent + k → Stopped tops sc level spent e r
into k (ended_at x q s) f g p p' = up (f _ _ _ x) p (omega (arith, q, p')) s
into k (is_stuck x) f g p p' = lost_here (g x)
into k no_memory_left f g p p' = no_memory

-- and so does what stops inside of something larger
pub within : {tops : Scope} {Reach Reach' : ℕ → Scope → FlatTerm → Type 0} {Stuck Stuck' : Type 0} {level spent at : ℕ} {r : Stop} (k : ℕ) → Ended tops Reach Stuck level at r → ((n : ℕ) (sc' : Scope) (t : FlatTerm) → Reach n sc' t → Reach' (k + n) sc' t) → (Stuck → Stuck') → at ≡ spent + k → Ended tops Reach' Stuck' level spent r
within k (ended_at x q s) f g p = ended_at (f _ _ _ x) (omega (arith, q, p)) s
within k (is_stuck x) f g p = is_stuck (g x)
within k no_memory_left f g p = no_memory_left

module _ (tops sc : Scope) (level spent : ℕ) where
  -- applications
  module _ (f e : FlatTerm) where
    pub apply_function : (r : Stop) → Walked_to tops sc (level + 1) (spent + 1) f (Err r) → Walked_to tops sc level spent (Apply f e) (Err r)
    apply_function r (stopped h) = stopped (up in_function refl refl h)

    module _ (r1 : Walked) where
      pub apply_argument : (r : Stop) → Walked_to tops sc (level + 1) (spent + 1) f (Ok r1) → Walked_to tops sc (level + 1) (spent + 1 + r1.nodes) e (Err r) → Walked_to tops sc level spent (Apply f e) (Err r)
      apply_argument r (walked v) (stopped h) = stopped (up (in_argument v) refl (omega arith) h)

      module _ (r2 : Walked) where
        pub apply_run : (r : Stop) → Walked_to tops sc (level + 1) (spent + 1) f (Ok r1) → Walked_to tops sc (level + 1) (spent + 1 + r1.nodes) e (Ok r2) → Ran_to tops (level + 1) (spent + 1 + r1.nodes + r2.nodes) (known_of r1.known) (known_of r2.known) (Err r) → Walked_to tops sc level spent (Apply f e) (Err r)
        apply_run r (walked v) (walked w) (run_stopped h) = stopped (into (1 + r1.nodes + r2.nodes) h (λ n sc' t i. in_body_run v w i) (λ s. no_run v w s) refl (omega arith))

        pub apply_ok : (r3 : Walked) → Walked_to tops sc (level + 1) (spent + 1) f (Ok r1) → Walked_to tops sc (level + 1) (spent + 1 + r1.nodes) e (Ok r2) → Ran_to tops (level + 1) (spent + 1 + r1.nodes + r2.nodes) (known_of r1.known) (known_of r2.known) (Ok r3) → Walked_to tops sc level spent (Apply f e) (Ok (record { known = r3.known; nodes = 1 + r1.nodes + r2.nodes + r3.nodes; depth = 1 + max r1.depth (max r2.depth r3.depth) }))
        apply_ok r3 (walked v) (walked w) (ran x) = walked (v_apply v w x)

  pub ruleset applications = (apply_function, apply_argument, apply_run, apply_ok)

  -- operations
  module _ (o : Operation Ref BindId) (mark : Place) (ts : Terms Ref BindId) (is : is_visit o ts ≡ true) where
    pub strict_parts : (r : Stop) → Parts_to tops sc (level + 1) (spent + 1) ts (Err r) → Walked_to tops sc level spent (Strict o mark ts) (Err r)
    strict_parts r (parts_stopped h) = stopped (into (1) h (λ n sc' t i. in_part is i) (λ s. absurd s) refl refl)

    module _ (r1 : Parts) where
      pub strict_lost : (r : Stop) → Parts_to tops sc (level + 1) (spent + 1) ts (Ok r1) → Known_to (known_result o (knowns (map known_of r1.knowns.now))) (Err r) → Walked_to tops sc level spent (Strict o mark ts) (Err r)
      strict_lost _ (parts_walked v) (not_known n) = stopped (lost_here (no_result is v n))
      strict_lost _ (parts_walked v) no_memory_to_know = stopped no_memory

      pub strict_ok : (s : Held_known) → Parts_to tops sc (level + 1) (spent + 1) ts (Ok r1) → Known_to (known_result o (knowns (map known_of r1.knowns.now))) (Ok s) → Walked_to tops sc level spent (Strict o mark ts) (Ok (record { known = s; nodes = 1 + r1.nodes; depth = 1 + r1.depth }))
      strict_ok s (parts_walked v) (known_is q) = walked (v_strict is v q)

  pub ruleset operations = (strict_parts, strict_lost, strict_ok)
