-- Arguments with the stars of their parameters, and one step along the arrows of a function.
use Rattle.std.specs.Prelude.{Bool, true, false, List, [], ◌∷◌, map}
use Rattle.fut_types.specs.declared.Head.{Head}
use Rattle.fut_types.specs.declared.Head.TheVariants as head
use Rattle.fut_types.specs.Types.{Ty, Made, none, more}
use Rattle.fut_aliases.specs.Calls as definition
use Rattle.fut_aliases.specs.Stars.{Stars, Arrow, no_stars}
use Rattle.alias_values.specs.Trees.{stars_of}
use Rattle.uniqueness.specs.Held.{held_of}
use Rattle.alias_applications.specs.declared.given.Given.{Given}

abbrev pub given_of : Given → definition.Given
given_of g = record { argument = held_of g.argument; stars = stars_of g.stars.now }

abbrev pub givens_of : List Given → List definition.Given
givens_of = map given_of

-- the arguments alone
abbrev pub arguments_of : List definition.Given → List definition.Held
arguments_of [] = []
arguments_of (g ∷ more_of) = g.argument ∷ arguments_of more_of

abbrev pub next_parameter : Stars → Stars
next_parameter (Arrow b p r) = p
next_parameter u = no_stars

abbrev pub next_stars : Stars → Stars
next_stars (Arrow b p r) = r
next_stars u = u

abbrev pub is_arrow : Stars → Bool
is_arrow (Arrow b p r) = true
is_arrow u = false

abbrev pub is_fun : Head → Bool
is_fun head.Fun = true
is_fun h = false

abbrev pub next_type : Ty → Ty
next_type (Made head.Fun (more p (more r none))) = r
next_type t = t
