-- The components of a call that trees in the arena are.
use Rattle.std.specs.Prelude.{List, map}
use Rattle.fut_aliases.specs.Calls as definition
use Rattle.alias_calls.specs.declared.sides.Side.{Side}

abbrev pub side_of : Side → definition.Side
side_of c = record { node = c.node; component = record { starred = c.starred; set = c.set.now } }

abbrev pub sides_of : List Side → List definition.Side
sides_of = map side_of
