-- What is made of the answers for parts.
use Rattle.std.proofs.Common.{◌≡◌, List, refl, sym, ◌∙◌, ap, Result, Ok, Err}
use Rattle.elab_scopes.specs.declared.refusal.Stop.{Stop}
use Rattle.elab_scopes.specs.declared.table.Names.{Names}
use Rattle.elab_scopes.specs.Names.{Refusal}
use Rattle.elab_scopes.specs.Scopes.{Scope}
use Rattle.elab_scopes.specs.Resolve.{after}
use Rattle.elab_scopes.specs.Table.{scope_of}
use Rattle.elab_scopes.specs.Answers.{Walked, went, refused, no_memory}
use Rattle.elab_nodes.specs.Built.{Built1, built1, stops1, no_memory1, Built2, built2, first_of_two, second_of_two, no_memory2, Built3, built3, first_of_three, second_of_three, third_of_three, no_memory3}

abbrev pub Does : Type 0 → Type 0 → Type 0
Does S A = Scope → S → Result (A × S) Refusal

module _ {S : Type 0} {state : Names → S} where
  -- nothing is numbered
  pub at_once : {A R : Type 0} {view : R → A} {a : A} {x : R} {s : Names} → view x ≡ a → Walked state view (λ sc m. Ok (a, m)) s s (Ok x)
  at_once {s = s} is = went (ap (λ y. Ok (y, state s)) (sym is)) refl

  -- by another definition that is equal
  pub by_same : {A R : Type 0} {view : R → A} {d e : Does S A} {s t : Names} {r : Result R Stop} → ((sc : Scope) (m : S) → e sc m ≡ d sc m) → Walked state view d s t r → Walked state view e s t r
  by_same {s = s} is (went gives same) = went (is (scope_of s) (state s) ∙ gives) same
  by_same {s = s} is (refused gives) = refused (is (scope_of s) (state s) ∙ gives)
  by_same is no_memory = no_memory

  -- a part, and then the next in the same scope
  pub and_next : {A B Q R : Type 0} {va : Q → A} {vb : R → B} {da : Does S A} {s t u : Names} {a : Q} {r : Result R Stop} (k : A → Does S B) → Walked state va da s t (Ok a) → Walked state vb (k (va a)) t u r → Walked state vb (λ sc m. after (da sc m) (λ x m. k x sc m)) s u r
  unfolding after
  and_next {va = va} {s = s} {t = t} {a = a} k (went gives same) (went more still) = went (ap (λ r. after r (λ x m. k x (scope_of s) m)) gives ∙ ap (λ sc. k (va a) sc (state t)) (sym same) ∙ more) (still ∙ same)
  and_next {va = va} {s = s} {t = t} {a = a} k (went gives same) (refused more) = refused (ap (λ r. after r (λ x m. k x (scope_of s) m)) gives ∙ ap (λ sc. k (va a) sc (state t)) (sym same) ∙ more)
  and_next k (went gives same) no_memory = no_memory

  pub stopped : {A B Q R : Type 0} {va : Q → A} {vb : R → B} {da : Does S A} {s t u : Names} {e : Stop} (k : A → Does S B) → Walked state va da s t (Err e) → Walked state vb (λ sc m. after (da sc m) (λ x m. k x sc m)) s u (Err e)
  unfolding after
  stopped {s = s} k (refused gives) = refused (ap (λ r. after r (λ x m. k x (scope_of s) m)) gives)
  stopped k no_memory = no_memory

  pub of_one : {A C Q R : Type 0} {va : Q → A} {vc : R → C} {da : Does S A} {s t : Names} {a : Result Q Stop} {c : Result R Stop} (f : A → C) → Walked state va da s t a → Built1 (λ a c. vc c ≡ f (va a)) a c → Walked state vc (λ sc m. after (da sc m) (λ x m. Ok (f x, m))) s t c
  unfolding after
  of_one {t = t} f (went gives same) (built1 is) = went (ap (λ r. after r (λ x m. Ok (f x, m))) gives ∙ ap (λ y. Ok (y, state t)) (sym is)) same
  of_one f (went gives same) no_memory1 = no_memory
  of_one f (refused gives) stops1 = refused (ap (λ r. after r (λ x m. Ok (f x, m))) gives)
  of_one f (refused gives) no_memory1 = no_memory
  of_one f no_memory stops1 = no_memory
  of_one f no_memory no_memory1 = no_memory

  pub of_two : {A B C P Q R : Type 0} {va : P → A} {vb : Q → B} {vc : R → C} {da : Does S A} {db : Does S B} {s t u : Names} {a : Result P Stop} {b : Result Q Stop} {c : Result R Stop} (f : A → B → C)
      → Walked state va da s t a → Walked state vb db t u b → Built2 (λ a b c. vc c ≡ f (va a) (vb b)) a b c
      → Walked state vc (λ sc m. after (da sc m) (λ x m. after (db sc m) (λ y m. Ok (f x y, m)))) s u c
  of_two {db = db} f p q (built2 is) = and_next (λ x sc m. after (db sc m) (λ y m. Ok (f x y, m))) p (of_one (f _) q (built1 is))
  of_two {db = db} f p q first_of_two = stopped (λ x sc m. after (db sc m) (λ y m. Ok (f x y, m))) p
  of_two {db = db} f p q second_of_two = and_next (λ x sc m. after (db sc m) (λ y m. Ok (f x y, m))) p (of_one (f _) q stops1)
  of_two f p q no_memory2 = no_memory

  pub of_three : {A B C D O P Q R : Type 0} {va : O → A} {vb : P → B} {vc : Q → C} {vd : R → D} {da : Does S A} {db : Does S B} {dc : Does S C} {s t u v : Names} {a : Result O Stop} {b : Result P Stop} {c : Result Q Stop} {d : Result R Stop} (f : A → B → C → D)
      → Walked state va da s t a → Walked state vb db t u b → Walked state vc dc u v c → Built3 (λ a b c d. vd d ≡ f (va a) (vb b) (vc c)) a b c d
      → Walked state vd (λ sc m. after (da sc m) (λ x m. after (db sc m) (λ y m. after (dc sc m) (λ z m. Ok (f x y z, m))))) s v d
  of_three {db = db} {dc = dc} f p q r (built3 is) = and_next (λ x sc m. after (db sc m) (λ y m. after (dc sc m) (λ z m. Ok (f x y z, m)))) p (of_two (f _) q r (built2 is))
  of_three {db = db} {dc = dc} f p q r first_of_three = stopped (λ x sc m. after (db sc m) (λ y m. after (dc sc m) (λ z m. Ok (f x y z, m)))) p
  of_three {db = db} {dc = dc} f p q r second_of_three = and_next (λ x sc m. after (db sc m) (λ y m. after (dc sc m) (λ z m. Ok (f x y z, m)))) p (of_two (f _) q r first_of_two)
  of_three {db = db} {dc = dc} f p q r third_of_three = and_next (λ x sc m. after (db sc m) (λ y m. after (dc sc m) (λ z m. Ok (f x y z, m)))) p (of_two (f _) q r second_of_two)
  of_three f p q r no_memory3 = no_memory
