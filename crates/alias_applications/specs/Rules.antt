-- The rules of applications, one by one and in their order.
use Rattle.std.specs.Prelude.{ℕ, Bool, false, ◌||◌, List, [], ◌∷◌, ◌++◌, Option, None, map}
use Rattle.fut_aliases.specs.Aliases.{Set, is_in, is_outside, those}
use Rattle.fut_aliases.specs.Patterns.{Scope}
use Rattle.fut_aliases.specs.Stars.{no_stars}
use Rattle.fut_aliases.specs.Values.{Component, starring, taken}
use Rattle.fut_aliases.specs.Steps.{Step, and_then, demand, losses_now, or_else, some_alias}
use Rattle.fut_aliases.specs.declared.refusals.Broken.{Broken}
use Rattle.fut_aliases.specs.declared.refusals.Broken.TheVariants.{Captured, NotConsumable}
use Rattle.fut_aliases.specs.declared.refusals.Spot.TheVariants.{First}
use Rattle.fut_aliases.specs.Calls.{Held, Given, clashes, first_broken, given_sides, held_loss, sides, starred_argument, too_hungry, too_shared}
use Rattle.alias_calls.specs.declared.sides.Side.{Side}

-- no rule of an application asks what is in scope
abbrev pub nowhere : Scope
nowhere n = None

-- ---- of one argument; parameters without a star are fixed, and where the innermost loop and function begin are numbers

abbrev pub hungry : Given → Option Broken
hungry g = too_hungry g.stars g.argument

abbrev pub shared : Given → Option Broken
shared g = too_shared g.stars g.argument

abbrev pub unfit : Set → ℕ → Given → Option Broken
unfit fixed loop_from g = or_else (too_hungry g.stars g.argument) (some_alias (λ n. NotConsumable n (First g.argument.node)) (those (λ a. is_in a fixed || is_outside loop_from a) (taken g.stars g.argument.value)))

abbrev pub captured_argument : ℕ → Given → Option Broken
captured_argument function_from g = some_alias (λ n. Captured n (First g.argument.node)) (those (is_outside function_from) (taken g.stars g.argument.value))

-- ---- components

abbrev pub component_of : Side → Component
component_of s = record { starred = s.starred; set = s.set.now }

abbrev pub components_of : List Side → List Component
components_of = map component_of

abbrev pub has_starred : List Component → Bool
has_starred [] = false
has_starred (c ∷ cs) = c.starred || has_starred cs

-- ---- of all arguments

abbrev pub before_call : Set → ℕ → ℕ → List Given → Option Broken
before_call fixed loop_from function_from gs = or_else (first_broken (unfit fixed loop_from) gs) (first_broken (captured_argument function_from) gs)

abbrev pub behind_call : Held → List Given → Option Broken
behind_call f gs = or_else (clashes [] (sides f.node (starring no_stars f.value) ++ given_sides gs)) (first_broken shared gs)

abbrev pub before_partial : Held → List Given → Option Broken
before_partial f gs = or_else (first_broken hungry gs) (first_broken (starred_argument f.called) gs)

abbrev pub behind_partial : List Given → Option Broken
behind_partial gs = first_broken shared gs

-- no part shares with what a later part consumed
abbrev pub settled_if : Bool → List Held → Step (Unit {0})
settled_if asked parts = and_then losses_now (λ ls. demand asked (first_broken (held_loss ls) parts))

-- rules, then that the function and its arguments share with nothing that a later part consumed, then rules again
abbrev pub allowed : Bool → Option Broken → Held → List Held → Option Broken → Step (Unit {0})
allowed asked before f arguments behind = and_then (demand asked before) (λ z. and_then (settled_if asked (f ∷ [])) (λ y. and_then (settled_if asked arguments) (λ x. demand asked behind)))
