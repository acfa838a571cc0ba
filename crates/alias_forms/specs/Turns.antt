-- The turns of a loop, as steps one after another.
use Rattle.std.specs.Prelude.{ℕ, ◌+◌, List, None}
use Rattle.fut_flat.specs.Erased.{FlatPattern, FlatTerm, FlatTurns}
use Rattle.fut_flat.specs.Numbers.{turn_numbers}
use Rattle.fut_types.specs.Types.{Kinds, Sub}
use Rattle.fut_typing.specs.Names.{Names}
use Rattle.fut_aliases.specs.Aliases.{Naming}
use Rattle.fut_aliases.specs.Calls as definition
use Rattle.fut_aliases.specs.Calls.{Here}
use Rattle.fut_aliases.specs.Looking.{Flow, Going, by_itself, condition_looked, flow_of, looked, turned}
use Rattle.fut_aliases.specs.Loops.{Carried, leave}
use Rattle.fut_aliases.specs.Steps.{Step, and_then, give}
use Rattle.fut_aliases.specs.Values.{Value, components}

module _ (naming : Naming) (N : Names) (K : Kinds) (types : Sub) where
  -- a turn: the condition, and then the body
  abbrev pub turn_looked : FlatTurns → FlatTerm → ℕ → Here → Step definition.Held
  turn_looked turns body at h =
      and_then (condition_looked naming N K types turns at h) (λ z.
      by_itself naming N K types body (at + turn_numbers turns) h (looked naming N K types body (at + turn_numbers turns) h None))

  -- the last look at a turn, with what the parameters share with
  abbrev pub turn_again : Here → FlatTurns → FlatTerm → ℕ → ℕ → List Carried → Here → Step Value
  turn_again h turns body at lo cs inside =
      and_then (condition_looked naming N K types turns at inside) (λ y.
      and_then (by_itself naming N K types body (at + turn_numbers turns) inside (looked naming N K types body (at + turn_numbers turns) inside None)) (λ g.
      and_then (leave h lo (at + turn_numbers turns) cs (components g.value)) (λ x. give g.value)))

  -- the first look at the turns of a loop at a node
  abbrev pub flow_looked : Here → FlatPattern → FlatTurns → FlatTerm → ℕ → ℕ → Going naming N K types → Step (Flow naming N K types)
  flow_looked h p turns body at lo going =
      flow_of naming N K types h p lo going (condition_looked naming N K types turns at) (λ inside. by_itself naming N K types body (at + turn_numbers turns) inside (looked naming N K types body (at + turn_numbers turns) inside None))

  abbrev pub turned_looked : Here → FlatPattern → FlatTurns → FlatTerm → ℕ → ℕ → definition.Held → Going naming N K types → Flow naming N K types → List Carried → Step Value
  turned_looked h p turns body at lo a going flow cs =
      turned naming N K types h p lo (at + turn_numbers turns) a going (condition_looked naming N K types turns at) (λ inside. by_itself naming N K types body (at + turn_numbers turns) inside (looked naming N K types body (at + turn_numbers turns) inside None)) flow cs
