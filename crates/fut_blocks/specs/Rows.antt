-- What is said in blocks of sizes that are known when a program runs: the shape of rows that are missing, what a size is worth, and
-- the sizes that data has to have.
use Rattle.std.specs.Prelude.{ℕ, List, [], ◌∷◌}
use Rattle.fut_scalar.specs.declared.scalar.ScalarType.{ScalarType}
use Rattle.fut_ast.specs.Sorts.{Text}
use Rattle.fut_blocks.specs.declared.block.Atom.{Atom}
use Rattle.fut_blocks.specs.declared.row.Extent.{Extent as Held_extent, Extent-F, fold-Extent}
use Rattle.fut_blocks.specs.declared.row.RowShape.{RowShape, RowShape-F, fold-RowShape}
use Rattle.fut_blocks.specs.declared.row.FieldShape.{FieldShape, FieldShape-F, fold-FieldShape}
use Rattle.fut_blocks.specs.declared.row.SizeTest.{SizeTest, SizeTest-F, fold-SizeTest}
use Rattle.fut_blocks.specs.declared.row.FieldTest.{FieldTest, FieldTest-F, fold-FieldTest}

-- a shape, where there is one
mutual
  pub data Row : Type 0 where
    -- nothing tells it
    Unknown_row : Row
    Scalar_row : ScalarType → Row
    Tuple_row : Rows → Row
    Record_row : Named_rows → Row
    -- as many rows of one shape as an extent says
    Array_row : Extent → Row → Row
    -- that of an atom's data
    Shape_of : Atom → Row
    -- that of an array's rows, of a part of a tuple, of a field
    Rows_of : Row → Row
    Part_of : ℕ → Row → Row
    Field_of : Text → Row → Row
    -- a tuple of arrays, each of so many of one part of a tuple
    Unzipped_row : Extent → Row → Row

  pub data Rows : Type 0 where
    no_row : Rows
    row_and : Row → Rows → Rows

  -- in order of their names
  pub data Named_rows : Type 0 where
    no_named_row : Named_rows
    named_row_and : Text → Row → Named_rows → Named_rows

  -- an integer that a size is worth
  pub data Extent : Type 0 where
    -- nothing tells it
    Nowhere : Extent
    Exactly : ℕ → Extent
    -- an integer that an atom stands for
    Worth_of : Atom → Extent
    -- how many rows an array of this shape has
    Length_of : Row → Extent

-- the sizes that data has to have, wherever it has arrays there
mutual
  pub data Size_test : Type 0 where
    Any_size : Size_test
    Array_test : Extent → Size_test → Size_test
    Tuple_test : Size_tests → Size_test
    Record_test : Named_tests → Size_test

  pub data Size_tests : Type 0 where
    no_test : Size_tests
    test_and : Size_test → Size_tests → Size_tests

  pub data Named_tests : Type 0 where
    no_named_test : Named_tests
    named_test_and : Text → Size_test → Named_tests → Named_tests

abbrev pub rows : List Row → Rows
rows [] = no_row
rows (r ∷ rs) = row_and r (rows rs)

abbrev pub named_rows : List (Text × Row) → Named_rows
named_rows [] = no_named_row
named_rows (f ∷ fs) = named_row_and f.0 f.1 (named_rows fs)

abbrev pub tests : List Size_test → Size_tests
tests [] = no_test
tests (t ∷ ts) = test_and t (tests ts)

abbrev pub named_tests : List (Text × Size_test) → Named_tests
named_tests [] = no_named_test
named_tests (f ∷ fs) = named_test_and f.0 f.1 (named_tests fs)

-- ---- what the code has

unfoldable pub row_form : RowShape-F Extent Row (Text × Row) → Row
row_form RowShape-F.Unknown = Unknown_row
row_form (RowShape-F.Scalar t) = Scalar_row t
row_form (RowShape-F.Tuple rs) = Tuple_row (rows rs.now)
row_form (RowShape-F.Record fs) = Record_row (named_rows fs.now)
row_form (RowShape-F.Array e r) = Array_row e r.now
row_form (RowShape-F.Data u) = Shape_of u
row_form (RowShape-F.Rows r) = Rows_of r.now
row_form (RowShape-F.Part k r) = Part_of k r.now
row_form (RowShape-F.Field f r) = Field_of f.now r.now
row_form (RowShape-F.Unzipped e r) = Unzipped_row e r.now

unfoldable pub extent_form : Extent-F Extent Row (Text × Row) → Extent
extent_form Extent-F.Nowhere = Nowhere
extent_form (Extent-F.Exactly n) = Exactly n
extent_form (Extent-F.Worth u) = Worth_of u
extent_form (Extent-F.Length r) = Length_of r.now

unfoldable pub field_form : FieldShape-F Extent Row (Text × Row) → Text × Row
field_form f = (f.name.now, f.row)

unfoldable pub row_of : RowShape → Row
row_of = fold-RowShape Extent Row (Text × Row) extent_form row_form field_form

unfoldable pub extent_of : Held_extent → Extent
extent_of = fold-Extent Extent Row (Text × Row) extent_form row_form field_form

unfoldable pub named_row_of : FieldShape → Text × Row
named_row_of = fold-FieldShape Extent Row (Text × Row) extent_form row_form field_form

unfoldable pub test_form : SizeTest-F Size_test (Text × Size_test) → Size_test
test_form SizeTest-F.Any = Any_size
test_form (SizeTest-F.Array e t) = Array_test (extent_of e) t.now
test_form (SizeTest-F.Tuple ts) = Tuple_test (tests ts.now)
test_form (SizeTest-F.Record fs) = Record_test (named_tests fs.now)

unfoldable pub named_test_form : FieldTest-F Size_test (Text × Size_test) → Text × Size_test
named_test_form f = (f.name.now, f.test)

unfoldable pub test_of : SizeTest → Size_test
test_of = fold-SizeTest Size_test (Text × Size_test) test_form named_test_form

unfoldable pub named_test_of : FieldTest → Text × Size_test
named_test_of = fold-FieldTest Size_test (Text × Size_test) test_form named_test_form
