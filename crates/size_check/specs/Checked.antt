-- A definition's step in a scope, and what code has of it and of a program.
use Rattle.std.specs.Prelude.{◌≡◌, ℕ}
use Rattle.fut_types.specs.Types.{Sub}
use Rattle.fut_typing.specs.Names.{Names}
use Rattle.fut_typing.specs.Program.{Defined}
use Rattle.sized_types.specs.Sizes.{Size}
use Rattle.fut_sizes.specs.Programs.{definition_sized}
use Rattle.fut_sizes.specs.Scopes.{Scope}
use Rattle.size_program.specs.Answers.{Going}
use Rattle.size_program.specs.Tables.{In_scope, node_at}
use Rattle.size_program.specs.declared.tables.Tables.{Tables}
use Rattle.size_check.specs.declared.definitions.Behind.{Behind}

abbrev pub defined_going : Sub → Defined → ℕ → Going Scope
defined_going types d lo N scope = definition_sized N types d lo scope

abbrev pub behind_is : Names → Behind → Scope → Type 0
behind_is N b scope = In_scope b.names.now scope

-- the tables have the sized type of each node
abbrev pub nodes_are : Tables → (ℕ → Size) → Type 0
nodes_are t nodes = (n : ℕ) → nodes n ≡ node_at t.nodes n
