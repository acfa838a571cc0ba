-- Flat definitions of whose sizes a sizing is right.
use Rattle.std.specs.Prelude.{ℕ, ◌+◌, List, [], ◌∷◌, Option}
use Rattle.fut_flat.specs.Numbers.{numbers}
use Rattle.fut_meaning.specs.Found.{Sizing}
use Rattle.fut_meaning.specs.Uses.{Parameter_sizes, Sizes_told}
use Rattle.elab_scopes.specs.Programs.{FlatDefinition}

-- nodes are numbered from `lo` on
abbrev pub Sizes_are_told : Option Sizing → ℕ → List FlatDefinition → Type 0
Sizes_are_told z lo [] = Unit {0}
Sizes_are_told z lo (d ∷ ds) = Parameter_sizes z d.parameters × Sizes_told z (1 + lo) d.value × Sizes_are_told z (lo + (1 + numbers d.value)) ds
