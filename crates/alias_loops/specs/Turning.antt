-- What a component takes from a turn.
use Rattle.std.specs.Prelude.{Bool, false, ◌||◌, cond, [], ◌∷◌}
use Rattle.fut_aliases.specs.Aliases.{Set, is_in, union}
use Rattle.fut_aliases.specs.Loops.{Carried}

-- a set has one of these aliases
abbrev pub some_in : Set → Set → Bool
some_in s [] = false
some_in s (a ∷ as_well) = is_in a s || some_in s as_well

-- the result of a loop for a component, which shares with these over all turns and of which the last body gives these
abbrev pub result_of : Carried → Set → Set → Set
result_of c x g = cond c.is_eaten [] (union x g)
