-- Names that are sizes.
use Rattle.std.specs.Prelude.{◌≡◌, ℕ, List, [], ◌∷◌}
use Rattle.fut_sizes.specs.Scopes.{Scope, i64_size, with_name}

-- a test is passed
abbrev pub Done : Unit {0} → Unit {0} → Type 0
Done u y = y ≡ u

-- names of these numbers are sizes
abbrev pub with_numbers : List ℕ → Scope → Scope
with_numbers [] scope = scope
with_numbers (b ∷ bs) scope = with_numbers bs (with_name b i64_size scope)
