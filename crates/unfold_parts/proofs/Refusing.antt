-- Refusals and their causes.
use Rattle.std.proofs.Common.{◌≡◌, ℕ, Ok, Err, sym, subst}
use Rattle.std.specs.Prelude.{IfErr, Result}
use Rattle.unfold.specs.Unfolding.{Bindings}
use Rattle.unfold_parts.specs.Answers.{Answered, answered, unanswered}
use Rattle.unfold_parts.specs.Refused.{Refused, lost, no_memory}
use Rattle.unfold_parts.specs.declared.refusal.Refusal.{Refusal}
use Rattle.unfold_parts.specs.declared.refusal.Refusal.TheVariants.{Memory}

-- the same refusal for another cause
pub refused_as : {C D : Type 0} {r : Refusal} → (C → D) → Refused C r → Refused D r
refused_as f (lost c) = lost (f c)
refused_as f no_memory = no_memory

-- want of memory is a refusal for any cause
pub only_memory : {C : Type 0} {r : Refusal} → r ≡ Memory → Refused C r
only_memory {C = C} e = subst (Refused C) (sym e) no_memory

pub if_memory : {A : Type 0} (C : Type 0) (r : Result A Refusal) → IfErr r (λ x. x ≡ Memory) → IfErr r (Refused C)
if_memory C (Ok a) h = tt
if_memory C (Err x) h = only_memory h

-- what gives one thing gives another, and what lacks the one lacks the other
pub answered_as : {A : Type 0} {P Q : Bindings → A → ℕ → Type 0} {C D : Type 0} {before after : Bindings} {next : ℕ} {r : Result A Refusal} → ((bs : Bindings) (a : A) (n : ℕ) → P bs a n → Q bs a n) → (C → D) → Answered P C before after next r → Answered Q D before after next r
answered_as f g (answered bs e h) = answered bs e (f bs _ _ h)
answered_as f g (unanswered h) = unanswered (refused_as g h)
