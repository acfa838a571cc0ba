-- What the components of a value are together.
use Rattle.std.specs.Prelude.{ℕ, List, [], ◌∷◌}
use Rattle.fut_aliases.specs.Aliases.{Set, union}
use Rattle.fut_aliases.specs.Values.{Values, all_components, count}

-- how many components a row of values has
abbrev pub all_how_many : Values → ℕ
all_how_many vs = count (all_components vs)

-- the aliases of the components before those of a set
abbrev pub onto : List Set → Set → Set
onto [] t = t
onto (s ∷ ss) t = union s (onto ss t)
