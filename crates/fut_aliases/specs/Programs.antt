-- The rules of a program: definitions stand in a row, and each sees those before it. What is defined at the top level may not be
-- consumed.
use Rattle.std.specs.Prelude.{ℕ, ◌+◌, true, false, List, [], ◌∷◌, Option, Some, None, Ok, Err}
use Rattle.fut_flat.specs.Numbers.{pattern_numbers, numbers}
use Rattle.fut_types.specs.Types.{Sub, Kinds}
use Rattle.fut_typing.specs.Names.{Names}
use Rattle.fut_typing.specs.Program.{Defined}
use Rattle.fut_aliases.specs.Aliases.{Naming, with_alias}
use Rattle.fut_aliases.specs.Steps.{Answer, then_do, Done}
use Rattle.fut_aliases.specs.declared.refusals.Broken.{Broken}
use Rattle.fut_aliases.specs.Patterns.{Scope, nothing, bound}
use Rattle.fut_aliases.specs.Calls.{Here, Held}
use Rattle.fut_aliases.specs.Looking.{value_looked}

abbrev pub at_top : ℕ → Scope → Here
at_top lo scope = record { scope = scope; fixed = []; loop_from = lo; function_from = lo; asked = true }

module _ (naming : Naming) (N : Names) (K : Kinds) (types : Sub) where
  abbrev pub definition_looked : Defined → ℕ → Scope → Answer (Done Held)
  definition_looked d lo scope = value_looked naming N K types d.value (lo + pattern_numbers d.name) (at_top lo scope) []

  abbrev pub definitions_looked : List Defined → ℕ → Scope → Answer (Unit {0})
  definitions_looked [] lo scope = Ok tt
  definitions_looked (d ∷ ds) lo scope =
      then_do (definition_looked d lo scope) (λ a. definitions_looked ds (lo + (pattern_numbers d.name + numbers d.value)) (bound naming N types false d.name lo a.result.value scope))

  -- the first rule that a program breaks, if it breaks one
  abbrev pub broken : Answer (Unit {0}) → Option Broken
  broken (Ok z) = None
  broken (Err b) = Some b

  unfoldable pub first_broken : List Defined → Option Broken
  first_broken ds = broken (definitions_looked ds 0 nothing)

-- by the rules each name stands in its own set
abbrev pub first_broken_rule : Names → Kinds → Sub → List Defined → Option Broken
first_broken_rule = first_broken with_alias
