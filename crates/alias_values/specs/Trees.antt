-- The stars, values and types that trees in the arena are.
use Rattle.std.specs.Prelude.{List, [], ◌∷◌, map}
use Rattle.fut_types.specs.Types.{Ty, Var, Made, Tys, none, more}
use Rattle.fut_aliases.specs.Stars.{Stars, Leaf, Arrow, Row, StarRow, no_star, star_and}
use Rattle.fut_aliases.specs.Values.{Value, Scalar, Array, Function, Parts, Values, no_value, value_and}
use Rattle.alias_values.specs.declared.trees.StarTree.{StarTree, StarTree-F, fold-StarTree}
use Rattle.alias_values.specs.declared.trees.StarTree.TheOpen as star
use Rattle.alias_values.specs.declared.trees.ValueTree.{ValueTree, ValueTree-F, fold-ValueTree}
use Rattle.alias_values.specs.declared.trees.ValueTree.TheOpen as value
use Rattle.alias_values.specs.declared.trees.TypeTree.{TypeTree, TypeTree-F, fold-TypeTree}
use Rattle.alias_values.specs.declared.trees.TypeTree.TheOpen as type

-- ---- stars

unfoldable pub row : List Stars → StarRow
row [] = no_star
row (u ∷ us) = star_and u (row us)

unfoldable pub star_form : StarTree-F Stars → Stars
star_form (star.Leaf b) = Leaf b
star_form (star.Arrow b p r) = Arrow b p.now r.now
star_form (star.Row us) = Row (row us.now)

unfoldable pub stars_of : StarTree → Stars
stars_of u = fold-StarTree Stars star_form u

unfoldable pub row_of : List StarTree → StarRow
row_of us = row (map stars_of us)

-- ---- types

unfoldable pub tys : List Ty → Tys
tys [] = none
tys (t ∷ ts) = more t (tys ts)

unfoldable pub type_form : TypeTree-F Ty → Ty
type_form (type.Var v) = Var v
type_form (type.Made h ts) = Made h (tys ts.now)

unfoldable pub type_of : TypeTree → Ty
type_of t = fold-TypeTree Ty type_form t

unfoldable pub types_of : List TypeTree → Tys
types_of ts = tys (map type_of ts)

-- ---- values

unfoldable pub values : List Value → Values
values [] = no_value
values (v ∷ vs) = value_and v (values vs)

unfoldable pub value_form : ValueTree-F Value → Value
value_form value.Scalar = Scalar
value_form (value.Array s) = Array s.now
value_form (value.Function s u) = Function s.now (stars_of u.now)
value_form (value.Parts h vs) = Parts h (values vs.now)

unfoldable pub value_of : ValueTree → Value
value_of v = fold-ValueTree Value value_form v

unfoldable pub values_of : List ValueTree → Values
values_of vs = values (map value_of vs)
