-- Rows of sets in the arena.
use Rattle.std.specs.Prelude.{List, map}
use Rattle.std.specs.Borrow.{Bor}
use Rattle.fut_aliases.specs.Aliases.{Set}

abbrev pub sets_of : List (Bor Set) → List Set
sets_of = map (λ (s : Bor Set). s.now)
