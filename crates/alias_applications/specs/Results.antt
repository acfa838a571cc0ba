-- What a function's body gives back may not share.
use Rattle.std.specs.Prelude.{ℕ, Bool, ◌||◌, cond, List, [], ◌∷◌, ◌++◌, Option}
use Rattle.fut_aliases.specs.declared.aliases.Alias.{Alias}
use Rattle.fut_aliases.specs.declared.refusals.Broken.{Broken}
use Rattle.fut_aliases.specs.declared.refusals.Broken.TheVariants.{ResultAliases}
use Rattle.fut_aliases.specs.declared.refusals.Spot.TheVariants.{First}
use Rattle.fut_aliases.specs.Aliases.{Set, is_in, is_outside, shared, those, union}
use Rattle.fut_aliases.specs.Calls.{Held, too_hungry, too_shared}
use Rattle.fut_aliases.specs.Stars.{Stars}
use Rattle.fut_aliases.specs.Steps.{or_else, some_alias}
use Rattle.fut_aliases.specs.Values.{Component, starring}

-- made outside of the innermost function, or a parameter without a star
abbrev pub from_outside : ℕ → Set → Alias → Bool
from_outside function_from fixed a = is_outside function_from a || is_in a fixed

-- all that components share with
abbrev pub sets_of : List Component → Set
sets_of [] = []
sets_of (c ∷ cs) = union c.set (sets_of cs)

-- of a component and all others
abbrev pub shared_component : ℕ → Set → Bool → Set → List Component → Set
shared_component function_from fixed starred set others = cond starred (union (those (from_outside function_from fixed) set) (shared set (sets_of others))) []

abbrev pub shared_components : ℕ → Set → List Component → List Component → Set
shared_components function_from fixed before [] = []
shared_components function_from fixed before (c ∷ cs) = union (shared_component function_from fixed c.starred c.set (before ++ cs)) (shared_components function_from fixed (before ++ c ∷ []) cs)

abbrev pub body_rules : ℕ → Set → Stars → Held → Option Broken
body_rules function_from fixed u a = or_else (too_hungry u a) (or_else (some_alias (λ n. ResultAliases n (First a.node)) (shared_components function_from fixed [] (starring u a.value))) (too_shared u a))
