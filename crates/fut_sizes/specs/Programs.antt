-- The sizing of a program: definitions stand in a row, and each sees those before it.
use Rattle.std.specs.Prelude.{ℕ, ◌+◌, List, [], ◌∷◌, Ok}
use Rattle.fut_flat.specs.Numbers.{pattern_numbers, numbers}
use Rattle.fut_types.specs.Types.{Sub}
use Rattle.fut_typing.specs.Names.{Names}
use Rattle.fut_typing.specs.Program.{Defined}
use Rattle.sized_types.specs.Sizes.{Size, Hole, Inferred}
use Rattle.fut_sizes.specs.Agreeing.{Answer, then_do}
use Rattle.fut_sizes.specs.Scopes.{Scope, nothing}
use Rattle.fut_sizes.specs.Functions.{size_names}
use Rattle.fut_sizes.specs.Steps.{State, Step, give, ask, and_then, note}
use Rattle.fut_sizes.specs.Sizing.{finished, has_parameters, with_head, with_general, sized}

-- before a program is sized nothing is said of any node, and no loop has dropped a level
abbrev pub no_state : State
no_state = record { nodes = λ n. Hole (Inferred n); dropped = λ n. [] }

module _ (N : Names) (types : Sub) where
  -- a definition, whose numbers begin at lo, and the scope behind it
  abbrev pub definition_sized : Defined → ℕ → Scope → Step Scope
  definition_sized d lo scope =
      and_then (ask (has_parameters N types (size_names d.parameters) d.value (lo + pattern_numbers d.name))) (λ z.
      and_then (sized N types d.value (size_names d.parameters) (lo + pattern_numbers d.name) (with_head N types (size_names d.parameters) scope)) (λ part.
      and_then (finished N types (lo + pattern_numbers d.name) part) (λ t.
      and_then (note lo t) (λ u. give (with_general N types d.name t scope)))))

  abbrev pub definitions_sized : List Defined → ℕ → Scope → Step Scope
  definitions_sized [] lo scope = give scope
  definitions_sized (d ∷ ds) lo scope = and_then (definition_sized d lo scope) (λ inner. definitions_sized ds (lo + (pattern_numbers d.name + numbers d.value)) inner)

  -- the sized types of a program's nodes, or the first refusal
  unfoldable pub sizing : List Defined → Answer (ℕ → Size)
  sizing ds = then_do (definitions_sized ds 0 nothing no_state) (λ d. Ok d.state.nodes)
