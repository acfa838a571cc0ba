-- The least alias of a set.
use Rattle.std.specs.Prelude.{[], ◌∷◌, cond, Option, Some, None}
use Rattle.fut_aliases.specs.declared.aliases.Alias.{Alias}
use Rattle.fut_aliases.specs.Aliases.{Set, is_before}

-- of an alias and the least of others
abbrev pub lesser : Alias → Option Alias → Option Alias
lesser a None = Some a
lesser a (Some b) = cond (is_before a b) (Some a) (Some b)

-- of a set and one more
abbrev pub lowest : Set → Option Alias → Option Alias
lowest [] o = o
lowest (a ∷ s) o = lesser a (lowest s o)
