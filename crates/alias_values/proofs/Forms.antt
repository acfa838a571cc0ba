-- What trees are, one level at a time.
use Rattle.std.proofs.Common.{◌≡◌, ℕ, Bool, List, sym, ap, ◌∙◌}
use Rattle.std.specs.Borrow.{Bor}
use Rattle.fut_types.specs.declared.Head.{Head}
use Rattle.fut_types.specs.Types.{Var, Made}
use Rattle.fut_aliases.specs.Aliases.{Set}
use Rattle.fut_aliases.specs.Stars.{Leaf, Arrow, Row}
use Rattle.fut_aliases.specs.Values.{Scalar, Array, Function, Parts}
use Rattle.alias_values.specs.declared.trees.StarTree.{StarTree, fold-roll-StarTree}
use Rattle.alias_values.specs.declared.trees.StarTree.TheOpen as star_layer
use Rattle.alias_values.specs.declared.trees.StarTree.TheVariants as star
use Rattle.alias_values.specs.declared.trees.ValueTree.{ValueTree, fold-roll-ValueTree}
use Rattle.alias_values.specs.declared.trees.ValueTree.TheOpen as value_layer
use Rattle.alias_values.specs.declared.trees.ValueTree.TheVariants as value
use Rattle.alias_values.specs.declared.trees.TypeTree.{TypeTree, fold-roll-TypeTree}
use Rattle.alias_values.specs.declared.trees.TypeTree.TheOpen as type_layer
use Rattle.alias_values.specs.declared.trees.TypeTree.TheVariants as type
use Rattle.alias_values.specs.Trees.{star_form, stars_of, row_of, type_form, type_of, types_of, value_form, value_of, values_of}

pub star_leaf : (b : Bool) → stars_of (star.Leaf b) ≡ Leaf b
unfolding stars_of star_form
star_leaf b = ap stars_of (sym (star.rolls-Leaf b)) ∙ fold-roll-StarTree _ star_form (star_layer.Leaf b)

pub star_arrow : (b : Bool) (p r : Bor StarTree) → stars_of (star.Arrow b p r) ≡ Arrow b (stars_of p.now) (stars_of r.now)
unfolding stars_of star_form
star_arrow b p r = ap stars_of (sym (star.rolls-Arrow b p r)) ∙ fold-roll-StarTree _ star_form (star_layer.Arrow b p r)

pub star_row : (us : Bor (List StarTree)) → stars_of (star.Row us) ≡ Row (row_of us.now)
unfolding stars_of star_form row_of
star_row us = ap stars_of (sym (star.rolls-Row us)) ∙ fold-roll-StarTree _ star_form (star_layer.Row us)

pub ruleset star_forms = (star_leaf, star_arrow, star_row)

pub type_var : (v : ℕ) → type_of (type.Var v) ≡ Var v
unfolding type_of type_form
type_var v = ap type_of (sym (type.rolls-Var v)) ∙ fold-roll-TypeTree _ type_form (type_layer.Var v)

pub type_made : (h : Head) (ts : Bor (List TypeTree)) → type_of (type.Made h ts) ≡ Made h (types_of ts.now)
unfolding type_of type_form types_of
type_made h ts = ap type_of (sym (type.rolls-Made h ts)) ∙ fold-roll-TypeTree _ type_form (type_layer.Made h ts)

pub ruleset type_forms = (type_var, type_made)

pub value_scalar : value_of value.Scalar ≡ Scalar
unfolding value_of value_form
value_scalar = ap value_of (sym value.rolls-Scalar) ∙ fold-roll-ValueTree _ value_form value_layer.Scalar

pub value_array : (s : Bor Set) → value_of (value.Array s) ≡ Array s.now
unfolding value_of value_form
value_array s = ap value_of (sym (value.rolls-Array s)) ∙ fold-roll-ValueTree _ value_form (value_layer.Array s)

pub value_function : (s : Bor Set) (u : Bor StarTree) → value_of (value.Function s u) ≡ Function s.now (stars_of u.now)
unfolding value_of value_form
value_function s u = ap value_of (sym (value.rolls-Function s u)) ∙ fold-roll-ValueTree _ value_form (value_layer.Function s u)

pub value_parts : (h : Head) (vs : Bor (List ValueTree)) → value_of (value.Parts h vs) ≡ Parts h (values_of vs.now)
unfolding value_of value_form values_of
value_parts h vs = ap value_of (sym (value.rolls-Parts h vs)) ∙ fold-roll-ValueTree _ value_form (value_layer.Parts h vs)

pub ruleset value_forms = (value_scalar, value_array, value_function, value_parts)
