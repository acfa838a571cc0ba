-- What a sized type is, by its outermost form.
use Rattle.std.specs.Prelude.{◌≡◌, Bool, true, false, Option, Some, None}
use Rattle.sized_types.specs.Sizes.{Size, Level, Fun}
use Rattle.size_arena.specs.Trees.{dim_of, size_of}
use Rattle.entry_sizes.specs.declared.heads.Arrow.{Arrow}
use Rattle.entry_sizes.specs.declared.heads.Level.{Level as HeldLevel}

abbrev pub is_array : Size → Bool
is_array (Level d t) = true
is_array t = false

abbrev pub is_function : Size → Bool
is_function (Fun k p r) = true
is_function t = false

-- its outermost level and its rows, or that it is no array
abbrev pub Level_of : Size → Option HeldLevel → Type 0
Level_of t (Some l) = t ≡ Level (dim_of l.size) (size_of l.row.now)
Level_of t None = is_array t ≡ false

abbrev pub Arrow_of : Size → Option Arrow → Type 0
Arrow_of t (Some a) = t ≡ Fun a.chosen (size_of a.from.now) (size_of a.to.now)
Arrow_of t None = is_function t ≡ false
