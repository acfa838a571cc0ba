-- How many levels a sized type has in all.
use Rattle.std.specs.Prelude.{ℕ, ◌+◌}
use Rattle.sized_types.specs.Sizes.{Size, Hole, Open, Level, Built, Fun, Sizes, no_size, size_and}

-- also inside of functions: no frame of its own has more positions that are met
unfoldable mutual
  pub levels_within : Size → ℕ
  levels_within (Hole v) = 0
  levels_within (Open n v u) = 0
  levels_within (Level d t) = 1 + levels_within t
  levels_within (Built h ts) = all_levels_within ts
  levels_within (Fun k p r) = levels_within p + levels_within r

  pub all_levels_within : Sizes → ℕ
  all_levels_within no_size = 0
  all_levels_within (size_and t ts) = levels_within t + all_levels_within ts
