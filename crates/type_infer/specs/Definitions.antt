-- What definitions in a row claim, and what stands in scope behind them.
use Rattle.std.specs.Prelude.{ℕ, ◌+◌, List, [], ◌∷◌}
use Rattle.fut_flat.specs.declared.program.Definition.{Definition}
use Rattle.fut_flat.specs.Numbers.{pattern_numbers, numbers}
use Rattle.fut_types.specs.declared.Kind.{Kind}
use Rattle.fut_typing.specs.Homes.{Env}
use Rattle.fut_typing.specs.Program.{Defined, defined, Definitions_typed}
use Rattle.type_scopes.specs.Definitions.{env_definition}
use Rattle.flat_numbers.specs.Listed.{Program_homed}
use Rattle.type_scopes.specs.Scopes.{Claim, Homes}

-- how many numbers a definition has: that of its name first
abbrev pub definition_numbers : Defined → ℕ
definition_numbers x = pattern_numbers x.name + numbers x.value

-- of definitions in a row
abbrev pub Definitions_claim : Kind → List Defined → ℕ → Claim
Definitions_claim places ds lo N scope = Definitions_typed N places ds lo scope

abbrev pub Definitions_homes : List Defined → ℕ → Homes
Definitions_homes ds lo home = Program_homed home ds lo

unfoldable pub env_definitions : List Definition → ℕ → Env → Env
env_definitions [] lo E = E
env_definitions (d ∷ ds) lo E = env_definitions ds (lo + definition_numbers (defined d)) (env_definition (defined d) lo E)
