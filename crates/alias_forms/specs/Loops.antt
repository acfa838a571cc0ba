-- What a loop goes over and what its first look found, in the words of the definition.
use Rattle.std.specs.Prelude.{◌≡◌, ℕ, ◌+◌, ◌++◌, false, Option, Some}
use Rattle.std.specs.Borrow.{Bor}
use Rattle.fut_flat.specs.Erased.{FlatTerm, FlatTurns}
use Rattle.fut_flat.specs.Numbers.{numbers, turn_numbers}
use Rattle.fut_flat.specs.Terms.{Counted, Over, While}
use Rattle.fut_types.specs.Types.{Kinds, Sub}
use Rattle.fut_typing.specs.Names.{Names}
use Rattle.fut_aliases.specs.Aliases.{first_name_alone}
use Rattle.fut_aliases.specs.declared.refusals.Named.{Named}
use Rattle.fut_aliases.specs.Calls as definition
use Rattle.fut_aliases.specs.Capturing.{or_name, some_name, turns_name}
use Rattle.fut_aliases.specs.Looking.{Flow, Going}
use Rattle.fut_aliases.specs.Patterns.{Scope, bound, with_value}
use Rattle.fut_aliases.specs.Steps.{Losses}
use Rattle.alias_values.specs.declared.trees.ValueTree.{ValueTree}
use Rattle.alias_values.specs.Trees.{value_of}
use Rattle.uniqueness.specs.Held.{held_of}
use Rattle.alias_forms.specs.declared.loops.GoneOver.{GoneOver}
use Rattle.alias_forms.specs.declared.loops.LoopFlow.{LoopFlow}
use Rattle.alias_forms.specs.declared.loops.Passed.{Passed}
use Rattle.alias_forms.specs.declared.loops.Turn.{Turn}

-- what each turn binds, where this is the value of what it counts or goes over
abbrev pub brings : Names → Sub → FlatTurns → ℕ → Option (Bor ValueTree) → Scope → Scope
brings N types (Counted i m) at (Some v) = with_value i.0 (value_of v.now)
brings N types (Over p e) at (Some v) = bound first_name_alone N types false p at (value_of v.now)
brings N types turns at element = λ scope. scope

abbrev pub going_of : (N : Names) (K : Kinds) (types : Sub) → FlatTurns → ℕ → GoneOver → Going first_name_alone N K types
going_of N K types turns at g = record { over = g.over.now; bring = brings N types turns at g.element }

-- what is told of what a loop goes over, which is looked at before the first turn
abbrev pub GoingEnds : FlatTurns → ℕ → GoneOver → Type 0
GoingEnds (While c) at g = Unit {0}
GoingEnds turns at g = (g.first_name ≡ turns_name turns) × (g.after ≡ at + turn_numbers turns)

pub record PassedEnds (turns : FlatTurns) (at : ℕ) (p : Passed) : Type 0 where
  pub first : p.first_name ≡ turns_name turns
  pub next : p.after ≡ at + turn_numbers turns

abbrev pub turn_shown : Turn → definition.Held
turn_shown t = held_of t.held

module _ (N : Names) (K : Kinds) (types : Sub) where
  -- from what was consumed before
  abbrev pub flow_shown : Losses → LoopFlow → Flow first_name_alone N K types
  flow_shown before f = record { value = value_of f.value.now; losses = before ++ f.later.now }

-- what is told of a turn, and of the first look at one
pub record TurnEnds (turns : FlatTurns) (body : FlatTerm) (at : ℕ) (name : Option Named) (node next : ℕ) : Type 0 where
  pub first : name ≡ or_name (turns_name turns) (some_name body)
  pub begins : node ≡ at + turn_numbers turns
  pub behind : next ≡ node + numbers body

pub record Flows (t : Turn) (f : LoopFlow) : Type 0 where
  pub value : f.value ≡ t.held.value
  pub first : f.first_name ≡ t.first_name
  pub begins : f.body ≡ t.body
  pub behind : f.after ≡ t.after
