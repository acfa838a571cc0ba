-- What a loop carries, in the words of the definition.
use Rattle.std.specs.Prelude.{List, [], cond, map}
use Rattle.fut_aliases.specs.Aliases.{Set}
use Rattle.fut_aliases.specs.Loops as definition
use Rattle.alias_loops.specs.declared.carried.Carried.{Carried}

abbrev pub carried_of : Carried → definition.Carried
carried_of c = record { node = c.node; own = c.own.now; first = c.first.now; gives = c.gives.now; is_eaten = c.is_eaten }

abbrev pub carrieds_of : List Carried → List definition.Carried
carrieds_of = map carried_of

-- the own name of a parameter that is not consumed
abbrev pub kept_of : Carried → Set
kept_of c = cond c.is_eaten [] c.own.now
