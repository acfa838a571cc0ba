-- What a step of the checker answers.
use Rattle.std.specs.Prelude.{◌≡◌, ◌++◌, Result, Ok, Err}
use Rattle.fut_aliases.specs.declared.refusals.Broken.{Broken}
use Rattle.fut_aliases.specs.Steps.{Losses, Step}
use Rattle.uniqueness.specs.declared.held.Stop.{Stop}
use Rattle.uniqueness.specs.declared.held.Stop.TheVariants as stop

-- what was consumed before is the beginning of what is consumed then
abbrev pub Grows : Losses → Losses → Type 0
Grows old new = (more_of : Losses) × (new ≡ old ++ more_of)

-- The step of the definition from what was consumed before to what is consumed then, the rule that it breaks, or memory ran out.
pub data Stepped {A B : Type 0} (shown : B → A) (m : Step A) (old new : Losses) : Result B Stop → Type 0 where
  stepped : {b : B} → m old ≡ Ok (record { result = shown b; losses = new }) → Grows old new → Stepped shown m old new (Ok b)
  refused : {e : Broken} → m old ≡ Err e → Stepped shown m old new (Err (stop.Refused e))
  no_memory : Stepped shown m old new (Err stop.Memory)
