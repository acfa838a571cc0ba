-- What holds of all atoms of rows and tests: it may be weakened, and where each stands for something no row, extent or test goes wrong.
use Rattle.std.proofs.Common.{Bool, true, false, Option, Some, None}
use Rattle.fut_value.specs.Data.{Shape, Scalar_shape, Tuple_shape, Record_shape, Array_shape, Unmet_shape, Shapes, no_shape, shape_and, Named_shapes}
use Rattle.fut_meaning.specs.Claims.{HasOut}
use Rattle.fut_meaning.specs.Found.{agrees}
use Rattle.fut_meaning.specs.Outcomes.{Out}
use Rattle.fut_meaning.specs.Places.{field_shape}
use Rattle.fut_blocks.specs.declared.block.Atom.{Atom}
use Rattle.fut_blocks.specs.Names.{Component, Names, value_of}
use Rattle.fut_blocks.specs.Rows.{Row, Unknown_row, Scalar_row, Tuple_row, Record_row, Array_row, Shape_of, Rows_of, Part_of, Field_of, Unzipped_row, Rows, no_row, row_and, Named_rows, no_named_row, named_row_and, Extent, Nowhere, Exactly, Worth_of, Length_of, Size_test, Any_size, Array_test, Tuple_test, Record_test, Size_tests, no_test, test_and, Named_tests, no_named_test, named_test_and}
use Rattle.fut_blocks.specs.Sizes.{row_shape, row_shapes, named_shapes, extent_worth, where_there, and_also, passes, all_pass, named_pass}
use Rattle.type_soundness.proofs.Binding.{has_then}
use Rattle.unfold_laws.specs.Standing.{All_in_row, All_in_rows, All_in_fields, All_in_extent, All_in_test, All_in_tests, All_in_field_tests}

module _ (P Q : Atom → Type 0) (go : (u : Atom) → P u → Q u) where
  mutual
    pub row_as : (r : Row) → All_in_row P r → All_in_row Q r
    row_as Unknown_row h = tt
    row_as (Scalar_row t) h = tt
    row_as (Tuple_row rs) h = rows_as rs h
    row_as (Record_row fs) h = fields_as fs h
    row_as (Array_row e r) h = (extent_as e h.0, row_as r h.1)
    row_as (Shape_of u) h = go u h
    row_as (Rows_of r) h = row_as r h
    row_as (Part_of k r) h = row_as r h
    row_as (Field_of f r) h = row_as r h
    row_as (Unzipped_row e r) h = (extent_as e h.0, row_as r h.1)

    rows_as : (rs : Rows) → All_in_rows P rs → All_in_rows Q rs
    rows_as no_row h = tt
    rows_as (row_and r rs) h = (row_as r h.0, rows_as rs h.1)

    fields_as : (fs : Named_rows) → All_in_fields P fs → All_in_fields Q fs
    fields_as no_named_row h = tt
    fields_as (named_row_and f r fs) h = (row_as r h.0, fields_as fs h.1)

    pub extent_as : (e : Extent) → All_in_extent P e → All_in_extent Q e
    extent_as Nowhere h = tt
    extent_as (Exactly n) h = tt
    extent_as (Worth_of u) h = go u h
    extent_as (Length_of r) h = row_as r h

  mutual
    pub test_as : (t : Size_test) → All_in_test P t → All_in_test Q t
    test_as Any_size h = tt
    test_as (Array_test e t) h = (extent_as e h.0, test_as t h.1)
    test_as (Tuple_test ts) h = tests_as ts h
    test_as (Record_test ts) h = field_tests_as ts h

    tests_as : (ts : Size_tests) → All_in_tests P ts → All_in_tests Q ts
    tests_as no_test h = tt
    tests_as (test_and t ts) h = (test_as t h.0, tests_as ts h.1)

    field_tests_as : (ts : Named_tests) → All_in_field_tests P ts → All_in_field_tests Q ts
    field_tests_as no_named_test h = tt
    field_tests_as (named_test_and f t ts) h = (test_as t h.0, field_tests_as ts h.1)

-- it is not wrong
abbrev pub Any : {A : Type 0} → A → Type 0
Any a = Unit {0}

also_out : (b : Bool) (o : Out Bool) → HasOut Any o → HasOut Any (and_also b o)
also_out true o h = h
also_out false o h = tt

there_out : (o : Option Shape) (test : Shape → Out Bool) → ((h : Shape) → HasOut Any (test h)) → HasOut Any (where_there o test)
there_out (Some h) test a = a h
there_out None test a = tt

module _ (env : Names Component) (P : Atom → Type 0) (stands : (u : Atom) → P u → HasOut Any (value_of env u)) where
  mutual
    pub row_out : (r : Row) → All_in_row P r → HasOut Any (row_shape env r)
    row_out Unknown_row h = tt
    row_out (Scalar_row t) h = tt
    row_out (Tuple_row rs) h = has_then Any Any (row_shapes env rs) _ (shapes_out rs h) (λ hs x. tt)
    row_out (Record_row fs) h = has_then Any Any (named_shapes env fs) _ (named_out fs h) (λ hs x. tt)
    row_out (Array_row e r) h = has_then Any Any (extent_worth env e) _ (extent_out e h.0) (λ z x. has_then Any Any (row_shape env r) _ (row_out r h.1) (λ s y. tt))
    row_out (Shape_of u) h = has_then Any Any (value_of env u) _ (stands u h) (λ d x. tt)
    row_out (Rows_of r) h = has_then Any Any (row_shape env r) _ (row_out r h) (λ s x. tt)
    row_out (Part_of k r) h = has_then Any Any (row_shape env r) _ (row_out r h) (λ s x. tt)
    row_out (Field_of f r) h = has_then Any Any (row_shape env r) _ (row_out r h) (λ s x. tt)
    row_out (Unzipped_row e r) h = has_then Any Any (extent_worth env e) _ (extent_out e h.0) (λ z x. has_then Any Any (row_shape env r) _ (row_out r h.1) (λ s y. tt))

    shapes_out : (rs : Rows) → All_in_rows P rs → HasOut Any (row_shapes env rs)
    shapes_out no_row h = tt
    shapes_out (row_and r rs) h = has_then Any Any (row_shape env r) _ (row_out r h.0) (λ s x. has_then Any Any (row_shapes env rs) _ (shapes_out rs h.1) (λ hs y. tt))

    named_out : (fs : Named_rows) → All_in_fields P fs → HasOut Any (named_shapes env fs)
    named_out no_named_row h = tt
    named_out (named_row_and f r fs) h = has_then Any Any (row_shape env r) _ (row_out r h.0) (λ s x. has_then Any Any (named_shapes env fs) _ (named_out fs h.1) (λ hs y. tt))

    pub extent_out : (e : Extent) → All_in_extent P e → HasOut Any (extent_worth env e)
    extent_out Nowhere h = tt
    extent_out (Exactly n) h = tt
    extent_out (Worth_of u) h = has_then Any Any (value_of env u) _ (stands u h) (λ d x. tt)
    extent_out (Length_of r) h = has_then Any Any (row_shape env r) _ (row_out r h) (λ s x. tt)

  mutual
    pub test_out : (t : Size_test) (h : Shape) → All_in_test P t → HasOut Any (passes env t h)
    test_out Any_size h a = tt
    test_out (Array_test e t) (Array_shape n h) a = has_then Any Any (extent_worth env e) _ (extent_out e a.0) (λ z x. also_out (agrees z n) (passes env t h) (test_out t h a.1))
    test_out (Array_test e t) Unmet_shape a = has_then Any Any (extent_worth env e) _ (extent_out e a.0) (λ z x. also_out (agrees z 0) (passes env t Unmet_shape) (test_out t Unmet_shape a.1))
    test_out (Array_test e t) (Scalar_shape s) a = tt
    test_out (Array_test e t) (Tuple_shape hs) a = tt
    test_out (Array_test e t) (Record_shape hs) a = tt
    test_out (Tuple_test ts) (Tuple_shape hs) a = tests_out ts hs a
    test_out (Tuple_test ts) (Array_shape n h) a = tt
    test_out (Tuple_test ts) Unmet_shape a = tt
    test_out (Tuple_test ts) (Scalar_shape s) a = tt
    test_out (Tuple_test ts) (Record_shape hs) a = tt
    test_out (Record_test ts) (Record_shape hs) a = field_tests_out ts hs a
    test_out (Record_test ts) (Array_shape n h) a = tt
    test_out (Record_test ts) Unmet_shape a = tt
    test_out (Record_test ts) (Scalar_shape s) a = tt
    test_out (Record_test ts) (Tuple_shape hs) a = tt

    tests_out : (ts : Size_tests) (hs : Shapes) → All_in_tests P ts → HasOut Any (all_pass env ts hs)
    tests_out no_test hs a = tt
    tests_out (test_and t ts) no_shape a = tt
    tests_out (test_and t ts) (shape_and h hs) a = has_then Any Any (passes env t h) _ (test_out t h a.0) (λ b x. also_out b (all_pass env ts hs) (tests_out ts hs a.1))

    field_tests_out : (ts : Named_tests) (hs : Named_shapes) → All_in_field_tests P ts → HasOut Any (named_pass env ts hs)
    field_tests_out no_named_test hs a = tt
    field_tests_out (named_test_and f t ts) hs a =
        has_then Any Any (where_there (field_shape f hs) (passes env t)) _ (there_out (field_shape f hs) (passes env t) (λ h. test_out t h a.0)) (λ b x. also_out b (named_pass env ts hs) (field_tests_out ts hs a.1))
