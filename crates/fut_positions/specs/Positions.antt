-- The position that a name spells.
use Rattle.std.specs.Prelude.{◌≡◌, ◌<◌, ℕ, List, Option, Some, None}
use Rattle.std.specs.Fmt.{decimal}

-- of the positions below a count the name spells this one alone, or none
abbrev pub Spelled : List ℕ → ℕ → Option ℕ → Type 0
Spelled name count (Some at) = (at < count) × (decimal at ≡ name) × ((k : ℕ) → k < count → decimal k ≡ name → k ≡ at)
Spelled name count None = (k : ℕ) → k < count → decimal k ≡ name → ⊥
