-- What a sized type is, by its outermost form.
use Rattle.std.specs.Prelude.{◌≡◌, Bool, true, false, Option, Some, None}
use Rattle.sized_types.specs.Sizes.{Size, Level, Built, Fun}
use Rattle.size_arena.specs.Trees.{dim_of, size_of, sizes_of}
use Rattle.size_written.specs.declared.heads.ArrayParts.{ArrayParts}
use Rattle.size_written.specs.declared.heads.FunctionParts.{FunctionParts}
use Rattle.size_written.specs.declared.heads.Row.{Row}

abbrev pub is_array : Size → Bool
is_array (Level d t) = true
is_array t = false

abbrev pub is_built : Size → Bool
is_built (Built h ts) = true
is_built t = false

abbrev pub is_function : Size → Bool
is_function (Fun k p r) = true
is_function t = false

-- its outermost level and its rows, or that it is no array
abbrev pub Array_parts : Size → Option ArrayParts → Type 0
Array_parts t (Some a) = t ≡ Level (dim_of a.size) (size_of a.row.now)
Array_parts t None = is_array t ≡ false

abbrev pub Function_parts : Size → Option FunctionParts → Type 0
Function_parts t (Some f) = t ≡ Fun f.chosen (size_of f.from.now) (size_of f.to.now)
Function_parts t None = is_function t ≡ false

-- what it is made by, and its parts
abbrev pub Row_of : Size → Option Row → Type 0
Row_of t (Some r) = t ≡ Built r.head (sizes_of r.parts.now)
Row_of t None = is_built t ≡ false
