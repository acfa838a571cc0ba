-- The parts of tuples and records.
use Rattle.std.specs.Prelude.{◌≡◌, Bool, false, true, Option, Some, None}
use Rattle.sized_types.specs.Sizes.{Size, Built}
use Rattle.size_arena.specs.Trees.{sizes_of}
use Rattle.size_patterns.specs.declared.rows.Row.{Row}

abbrev pub is_row : Size → Bool
is_row (Built h ts) = true
is_row t = false

pub data Is_row (t : Size) : Option Row → Type 0 where
  a_row : {r : Row} → t ≡ Built r.head (sizes_of r.parts.now) → Is_row t (Some r)
  no_row : is_row t ≡ false → Is_row t None
