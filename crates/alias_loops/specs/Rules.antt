-- The rules of a loop in their order, as one.
use Rattle.std.specs.Prelude.{◌≡◌, ℕ, cond, List, [], Option, None, Ok}
use Rattle.fut_aliases.specs.declared.refusals.Broken.{Broken}
use Rattle.fut_aliases.specs.declared.aliases.Alias.{Alias}
use Rattle.fut_aliases.specs.declared.refusals.Broken.TheVariants.{Consumed, ResultAliases}
use Rattle.fut_aliases.specs.declared.refusals.Named.TheVariants.{ByAlias}
use Rattle.fut_aliases.specs.declared.refusals.Spot.TheVariants.{First}
use Rattle.fut_aliases.specs.Aliases.{Set, is_outside}
use Rattle.fut_aliases.specs.Calls.{Here, Held, first_broken, held_loss}
use Rattle.fut_aliases.specs.Loops.{Carried, eaten_captured, eaten_not_consumable, given_loss, kept_names, shared_firsts, shared_results}
use Rattle.fut_aliases.specs.Steps.{Losses, Step, consumed_at, lost_at, or_else, some_alias}
use Rattle.uniqueness.specs.Answers.{Grows}

-- before the first turn
abbrev pub enter_rules : Here → Losses → Held → Set → ℕ → List Carried → Option Broken
enter_rules h ls first over body cs =
    or_else (first_broken (eaten_not_consumable h) cs) (or_else (first_broken (eaten_captured h) cs) (or_else (held_loss ls first) (some_alias (λ n. ResultAliases n (First body)) (shared_firsts over [] cs))))

-- behind the body
abbrev pub leave_rules : Losses → ℕ → ℕ → List Carried → List Set → Option Broken
leave_rules ls from body cs gs = or_else (some_alias (λ n. ResultAliases n (First body)) (shared_results from (kept_names cs) [] cs gs)) (first_broken (given_loss ls from body) cs)

-- an alias from outside that was consumed
abbrev pub outside_loss : Losses → ℕ → ℕ → Alias → Option Broken
outside_loss ls from body a = cond (is_outside from a) (consumed_at (λ p. Consumed (ByAlias a) p (First body)) (lost_at ls a)) None

-- a step that consumes this and no more
pub record Consumes (m : Step (Unit {0})) (old new : Losses) : Type 0 where
  pub is : m old ≡ Ok (record { result = tt; losses = new })
  pub grows : Grows old new
