-- Steps one after another.
use Rattle.std.proofs.Common.{◌≡◌, Result, Ok, Err, refl, sym, ap, ◌∙◌, subst, append_assoc, ◌++◌}
use Rattle.fut_aliases.specs.Steps.{Answer, Losses, Step, give, and_then, then_do}
use Rattle.uniqueness.specs.Answers.{Grows, Stepped, stepped, refused, no_memory}
use Rattle.uniqueness.specs.declared.held.Stop.{Stop}
use Rattle.uniqueness.proofs.Growing.{grows_not}

pub grows_on : (ls ms ns : Losses) → Grows ls ms → Grows ms ns → Grows ls ns
grows_on ls ms ns (p, e) (q, f) = (p ++ q, f ∙ ap (λ z. z ++ q) e ∙ append_assoc ls p q)

module _ {A B C D : Type 0} {shown : B → A} {also : D → C} {m : Step A} (next : A → Step C) {old mid new : Losses} where
  -- where the first has no result, both have none
  pub bind_stop : {e : Stop} → Stepped shown m old mid (Err e) → Stepped also (and_then m next) old new (Err e)
  bind_stop (refused q) = refused (ap (λ z. then_do z (λ d. next d.result d.losses)) q)
  bind_stop no_memory = no_memory

  pub bind_ok : {b : B} {r : Result D Stop} → Stepped shown m old mid (Ok b) → Stepped also (next (shown b)) mid new r → Stepped also (and_then m next) old new r
  bind_ok (stepped q g) (stepped p h) = stepped (ap (λ z. then_do z (λ d. next d.result d.losses)) q ∙ p) (grows_on old mid new g h)
  bind_ok (stepped q g) (refused p) = refused (ap (λ z. then_do z (λ d. next d.result d.losses)) q ∙ p)
  bind_ok (stepped q g) no_memory = no_memory

module _ {A B : Type 0} {shown : B → A} where
  -- a step that gives at once
  pub given : {a : A} {b : B} {ls : Losses} → shown b ≡ a → Stepped shown (give a) ls ls (Ok b)
  given {ls = ls} e = stepped (ap (λ z. Ok (record { result = z; losses = ls })) (sym e)) (grows_not ls)

  -- the same step in other words
  pub reworded : {m n : Step A} {old new : Losses} {r : Result B Stop} → n ≡ m → Stepped shown m old new r → Stepped shown n old new r
  reworded {old = old} {new = new} {r = r} e h = subst (λ z. Stepped shown z old new r) (sym e) h

  pub grew : {m : Step A} {old new : Losses} {b : B} → Stepped shown m old new (Ok b) → Grows old new
  grew (stepped q g) = g

  pub gave : {m : Step A} {old new : Losses} {b : B} → Stepped shown m old new (Ok b) → m old ≡ Ok (record { result = shown b; losses = new })
  gave (stepped q g) = q

  -- a step that does the same from what was consumed
  pub from_here : {m n : Step A} {old new : Losses} {r : Result B Stop} → n old ≡ m old → Stepped shown m old new r → Stepped shown n old new r
  from_here e (stepped q g) = stepped (e ∙ q) g
  from_here e (refused q) = refused (e ∙ q)
  from_here e no_memory = no_memory

module _ {A B C : Type 0} {shown : B → A} {also : C → A} {m : Step A} {old new : Losses} where
  -- shown otherwise
  pub reshown : {b : B} {c : C} → also c ≡ shown b → Stepped shown m old new (Ok b) → Stepped also m old new (Ok c)
  reshown e (stepped q g) = stepped (q ∙ ap (λ z. Ok (record { result = z; losses = new })) (sym e)) g

  pub restopped : {end : Losses} {s : Stop} → Stepped shown m old new (Err s) → Stepped also m old end (Err s)
  restopped (refused q) = refused q
  restopped no_memory = no_memory

pub then_then : {A B C : Type 0} (x : Answer A) (f : A → Answer B) (g : B → Answer C) → then_do (then_do x f) g ≡ then_do x (λ a. then_do (f a) g)
then_then (Ok a) f g = refl
then_then (Err e) f g = refl

-- memory ran out
pub ruleset nothing = (no_memory)
