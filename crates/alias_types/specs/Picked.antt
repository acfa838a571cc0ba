-- The components of a value that are picked by their stars.
use Rattle.std.specs.Prelude.{Bool, true, false, not, cond, List, [], ◌∷◌}
use Rattle.fut_aliases.specs.Aliases.{Set, union}
use Rattle.fut_aliases.specs.Values.{Component}

-- whether two are both so, or both not
abbrev pub is_same : Bool → Bool → Bool
is_same true b = b
is_same false b = not b

-- the components with a star, or those without one, before those of a set
abbrev pub those_onto : Bool → List Component → Set → Set
those_onto b [] t = t
those_onto b (c ∷ cs) t = cond (is_same b c.starred) (union c.set (those_onto b cs t)) (those_onto b cs t)
