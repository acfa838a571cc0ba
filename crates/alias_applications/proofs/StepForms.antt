-- Steps one after another.
use Rattle.std.proofs.Common.{◌≡◌, Bool, true, false, ◌++◌, Option, Some, None, Result, Ok, Err, sym, ap, ◌∙◌, append_assoc}
use Rattle.fut_aliases.specs.declared.refusals.Broken.{Broken}
use Rattle.fut_aliases.specs.Steps.{Losses, Step, give, and_then, then_do, demand}
use Rattle.uniqueness.specs.Answers.{Grows, Stepped, stepped, refused, no_memory}
use Rattle.uniqueness.specs.declared.held.Stop.{Stop}
use Rattle.uniqueness.specs.declared.held.Stop.TheVariants as stop
use Rattle.uniqueness.proofs.Growing.{grows_not}

pub grows_on : (ls ms ns : Losses) → Grows ls ms → Grows ms ns → Grows ls ns
grows_on ls ms ns (p, e) (q, f) = (p ++ q, f ∙ ap (λ z. z ++ q) e ∙ append_assoc ls p q)

module _ {A B C D : Type 0} (shown : B → A) (also : D → C) (m : Step A) (next : A → Step C) (old mid new : Losses) where
  -- where the first has no result, both have none
  pub bind_stop : (e : Stop) → Stepped shown m old mid (Err e) → Stepped also (and_then m next) old new (Err e)
  bind_stop e (refused q) = refused (ap (λ z. then_do z (λ d. next d.result d.losses)) q)
  bind_stop e no_memory = no_memory

  pub bind_ok : (b : B) (r : Result D Stop) → Stepped shown m old mid (Ok b) → Stepped also (next (shown b)) mid new r → Stepped also (and_then m next) old new r
  bind_ok b r (stepped q g) (stepped p h) = stepped (ap (λ z. then_do z (λ d. next d.result d.losses)) q ∙ p) (grows_on old mid new g h)
  bind_ok b r (stepped q g) (refused p) = refused (ap (λ z. then_do z (λ d. next d.result d.losses)) q ∙ p)
  bind_ok b r (stepped q g) no_memory = no_memory

-- a step that gives at once
pub given : {A B : Type 0} (shown : B → A) (a : A) (b : B) (ls : Losses) → shown b ≡ a → Stepped shown (give a) ls ls (Ok b)
given shown a b ls e = stepped (ap (λ z. Ok (record { result = z; losses = ls })) (sym e)) (grows_not ls)

-- the same step in other words
pub reworded : {A B : Type 0} (shown : B → A) (m n : Step A) (old new : Losses) (r : Result B Stop) → n old ≡ m old → Stepped shown m old new r → Stepped shown n old new r
reworded shown m n old new r e (stepped q g) = stepped (e ∙ q) g
reworded shown m n old new r e (refused q) = refused (e ∙ q)
reworded shown m n old new r e no_memory = no_memory

-- ---- one demand

pub demand_not : (asked : Bool) (b : Option Broken) (ls : Losses) → asked ≡ false → Stepped (λ (u : Unit {0}). tt) (demand asked b) ls ls (Ok tt)
demand_not asked b ls e = stepped (ap (λ z. demand z b ls) e) (grows_not ls)

pub demand_refused : (asked : Bool) (b : Option Broken) (rule : Broken) (ls : Losses) → asked ≡ true → b ≡ Some rule → Stepped (λ (u : Unit {0}). tt) (demand asked b) ls ls (Err (stop.Refused rule))
demand_refused asked b rule ls e f = refused (ap (λ z. demand z b ls) e ∙ ap (λ z. demand true z ls) f)

pub demand_done : (asked : Bool) (b : Option Broken) (ls : Losses) → asked ≡ true → b ≡ None → Stepped (λ (u : Unit {0}). tt) (demand asked b) ls ls (Ok tt)
demand_done asked b ls e f = stepped (ap (λ z. demand z b ls) e ∙ ap (λ z. demand true z ls) f) (grows_not ls)

pub ruleset demand_forms = (demand_not, demand_refused, demand_done)
