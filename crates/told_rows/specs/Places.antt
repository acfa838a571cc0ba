-- Where what is sought stands in a sized type, as code tells it, and what stands there.
use Rattle.std.specs.Prelude.{ℕ, Bool, false, cond, ◌&&◌, List, Option, Some, None}
use Rattle.std.specs.Borrow.{Bor}
use Rattle.fut_ast.specs.Sorts.{Text}
use Rattle.fut_blocks.specs.declared.row.RowShape.{RowShape}
use Rattle.fut_blocks.specs.Rows.{Row, Extent, row_of}
use Rattle.fut_meaning.specs.Places as places
use Rattle.fut_meaning.specs.Places.{Whole, In_rows, In_part, In_field, place, on_place}
use Rattle.sized_types.specs.Sizes.{Dim, Variable, is_dim, is_variable, Size, Fun}
use Rattle.sized_types.specs.Standing.{is_known, gives_chosen}
use Rattle.size_arena.specs.Trees.{dim_of, variable_of}
use Rattle.unfold.specs.Knowns.{Known}
use Rattle.unfold.specs.Telling.{at_row, length_of, known_row}
use Rattle.told_rows.specs.declared.places.Path.{Path, Path-F, fold-Path}
use Rattle.told_rows.specs.declared.places.Sought.{Sought}
use Rattle.told_rows.specs.declared.places.Sought.TheVariants as sought

unfoldable pub path_form : Path-F places.Path → places.Path
path_form Path-F.Whole = Whole
path_form (Path-F.Rows p) = In_rows p.now
path_form (Path-F.Part k p) = In_part k p.now
path_form (Path-F.Field f p) = In_field f.now p.now

unfoldable pub path_of : Path → places.Path
path_of p = fold-Path places.Path path_form p

abbrev pub maybe_path : Option (Bor Path) → Option places.Path
maybe_path None = None
maybe_path (Some p) = Some (path_of p.now)

abbrev pub maybe_row : Option (Bor RowShape) → Option Row
maybe_row None = None
maybe_row (Some r) = Some (row_of r.now)

-- ---- a size or a type variable is sought

abbrev pub size_sought : Sought → Dim → Bool
size_sought (sought.Size x) d = is_dim d (dim_of x)
size_sought (sought.Type x) d = false

abbrev pub type_sought : Sought → Variable → Bool
type_sought (sought.Size x) v = false
type_sought (sought.Type x) v = is_variable v (variable_of x)

abbrev pub place_of : (ℕ → List Text) → Sought → Size → Option places.Path
place_of fields x t = place fields (size_sought x) (type_sought x) t

-- what stands where it is first in data of a sized type that has a shape
abbrev pub there : (ℕ → List Text) → Sought → Size → Row → Option Row → Option Row
there fields x t r otherwise = on_place (place_of fields x t) (λ p. Some (at_row p r)) otherwise

-- in what a function tells of its results
abbrev pub results_there : (ℕ → List Text) → Sought → Size → Row → Option Row
results_there fields x (Fun k p q) r = cond (is_known p && gives_chosen k q) (there fields x q r None) None
results_there fields x t r = None

-- in what a pattern was entered with
abbrev pub entry_there : (ℕ → List Text) → Sought → Size → Known → Row → Option Row
entry_there fields x t s r = there fields x t (known_row s) (results_there fields x t r)

abbrev pub or_row : Option Row → Row → Row
or_row None r = r
or_row (Some q) r = q

abbrev pub or_length : Option Row → Extent → Extent
or_length None e = e
or_length (Some q) e = length_of q
