-- All atoms of a row's shape, of an extent and of a test of sizes. That each of them stands for something is all that blocks ask of
-- them: what is not there, and what is of another form, says nothing.
use Rattle.fut_blocks.specs.declared.block.Atom.{Atom}
use Rattle.fut_blocks.specs.Rows.{Row, Unknown_row, Scalar_row, Tuple_row, Record_row, Array_row, Shape_of, Rows_of, Part_of, Field_of, Unzipped_row, Rows, no_row, row_and, Named_rows, no_named_row, named_row_and, Extent, Nowhere, Exactly, Worth_of, Length_of, Size_test, Any_size, Array_test, Tuple_test, Record_test, Size_tests, no_test, test_and, Named_tests, no_named_test, named_test_and}

module _ (P : Atom → Type 0) where
  abbrev mutual
    pub All_in_row : Row → Type 0
    All_in_row Unknown_row = Unit {0}
    All_in_row (Scalar_row t) = Unit {0}
    All_in_row (Tuple_row rs) = All_in_rows rs
    All_in_row (Record_row fs) = All_in_fields fs
    All_in_row (Array_row e r) = All_in_extent e × All_in_row r
    All_in_row (Shape_of u) = P u
    All_in_row (Rows_of r) = All_in_row r
    All_in_row (Part_of k r) = All_in_row r
    All_in_row (Field_of f r) = All_in_row r
    All_in_row (Unzipped_row e r) = All_in_extent e × All_in_row r

    pub All_in_rows : Rows → Type 0
    All_in_rows no_row = Unit {0}
    All_in_rows (row_and r rs) = All_in_row r × All_in_rows rs

    pub All_in_fields : Named_rows → Type 0
    All_in_fields no_named_row = Unit {0}
    All_in_fields (named_row_and f r fs) = All_in_row r × All_in_fields fs

    pub All_in_extent : Extent → Type 0
    All_in_extent Nowhere = Unit {0}
    All_in_extent (Exactly n) = Unit {0}
    All_in_extent (Worth_of u) = P u
    All_in_extent (Length_of r) = All_in_row r

  abbrev mutual
    pub All_in_test : Size_test → Type 0
    All_in_test Any_size = Unit {0}
    All_in_test (Array_test e t) = All_in_extent e × All_in_test t
    All_in_test (Tuple_test ts) = All_in_tests ts
    All_in_test (Record_test ts) = All_in_field_tests ts

    pub All_in_tests : Size_tests → Type 0
    All_in_tests no_test = Unit {0}
    All_in_tests (test_and t ts) = All_in_test t × All_in_tests ts

    pub All_in_field_tests : Named_tests → Type 0
    All_in_field_tests no_named_test = Unit {0}
    All_in_field_tests (named_test_and f t ts) = All_in_test t × All_in_field_tests ts
