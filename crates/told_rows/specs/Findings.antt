-- What sizes are worth, and what type variables stand for, where code reads a sized type.
use Rattle.std.specs.Prelude.{ℕ, List, [], ◌∷◌, Option, None}
use Rattle.fut_ast.specs.Sorts.{Text}
use Rattle.fut_blocks.specs.Rows.{Row, Extent, row_of}
use Rattle.fut_meaning.specs.Found.{Sizing}
use Rattle.fut_meaning.specs.Places.{or_else}
use Rattle.sized_types.specs.Sizes.{Dim, Variable}
use Rattle.size_arena.specs.Trees.{size_of}
use Rattle.unfold.specs.Held.{entered_of}
use Rattle.unfold.specs.Telling.{Found, found, number, with_data, pushed, typed_by}
use Rattle.told_rows.specs.declared.findings.Findings.{Findings}
use Rattle.told_rows.specs.declared.findings.Shaped.{Shaped}
use Rattle.told_rows.specs.declared.places.Sought.{Sought}
use Rattle.told_rows.specs.Places.{there}

-- data of sized types, one after the other
abbrev pub with_all : (ℕ → List Text) → List Shaped → Found → Found
with_all fields [] W = W
with_all fields (x ∷ xs) W = with_all fields xs (with_data fields (size_of x.tree.now) (row_of x.row.now) W)

-- the parameters of function types, in one another
abbrev pub pushed_all : (ℕ → List Text) → List Shaped → (Dim → Extent) → Dim → Extent
pushed_all fields [] number = number
pushed_all fields (x ∷ xs) number = pushed_all fields xs (pushed fields (size_of x.tree.now) (row_of x.row.now) number)

abbrev pub typed_all : (ℕ → List Text) → List Shaped → (Variable → Row) → Variable → Row
typed_all fields [] type = type
typed_all fields (x ∷ xs) type = typed_all fields xs (typed_by fields (size_of x.tree.now) (row_of x.row.now) type)

-- what was entered, and the data behind it
abbrev pub found_in : Sizing → Findings → Found
found_in Z f = with_all Z.fields f.given.now (found Z (entered_of f.entered.now))

abbrev pub number_in : Sizing → Findings → Dim → Extent
number_in Z f = pushed_all Z.fields f.frames.now (number (found_in Z f))

abbrev pub type_in : Sizing → Findings → Variable → Row
type_in Z f = typed_all Z.fields f.frames.now (found_in Z f).type

-- what stands where something is first, in the last data that has it
abbrev pub last_there : (ℕ → List Text) → Sought → List Shaped → Option Row
last_there fields x [] = None
last_there fields x (d ∷ ds) = or_else (last_there fields x ds) (there fields x (size_of d.tree.now) (row_of d.row.now) None)
