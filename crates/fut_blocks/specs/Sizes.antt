-- What sizes are worth when a program runs, what rows look like that are missing, and whether data has the sizes that it has to
-- have. Only a name that stands for nothing is wrong; what is not there tells nothing.
use Rattle.std.specs.Prelude.{Bool, true, false, cond, Option, Some, None, ℤ, pos}
use Rattle.fut_meaning.specs.Found.{count, agrees}
use Rattle.fut_meaning.specs.Outcomes.{Out, Val, and_then}
use Rattle.fut_meaning.specs.Places.{field_shape, row_of, size_of, part_of, field_of}
use Rattle.fut_meaning.specs.Telling.{scalar_worth, parts_of}
use Rattle.fut_value.specs.Data.{Shape, Scalar_shape, Tuple_shape, Record_shape, Array_shape, Unmet_shape, Shapes, no_shape, shape_and, Named_shapes, no_named_shape, named_shape_and, Datum, Scalar_datum, shape_of}
use Rattle.fut_blocks.specs.Names.{Component, Names, value_of}
use Rattle.fut_blocks.specs.Rows.{Row, Unknown_row, Scalar_row, Tuple_row, Record_row, Array_row, Shape_of, Rows_of, Part_of, Field_of, Unzipped_row, Rows, no_row, row_and, Named_rows, no_named_row, named_row_and, Extent, Nowhere, Exactly, Worth_of, Length_of, Size_test, Any_size, Array_test, Tuple_test, Record_test, Size_tests, no_test, test_and, Named_tests, no_named_test, named_test_and}

abbrev pub datum_worth : Datum → Option ℤ
datum_worth (Scalar_datum s) = scalar_worth s
datum_worth d = None

-- ---- rows and extents

abbrev mutual
  -- the shape; a part that is not there is unmet
  pub row_shape : Names Component → Row → Out Shape
  row_shape env Unknown_row = Val Unmet_shape
  row_shape env (Scalar_row t) = Val (Scalar_shape t)
  row_shape env (Tuple_row rs) = and_then (row_shapes env rs) (λ hs. Val (Tuple_shape hs))
  row_shape env (Record_row fs) = and_then (named_shapes env fs) (λ hs. Val (Record_shape hs))
  row_shape env (Array_row e r) = and_then (extent_worth env e) (λ z. and_then (row_shape env r) (λ h. Val (Array_shape (count z) h)))
  row_shape env (Shape_of u) = and_then (value_of env u) (λ d. Val (shape_of d))
  row_shape env (Rows_of r) = and_then (row_shape env r) (λ h. Val (row_of h))
  row_shape env (Part_of k r) = and_then (row_shape env r) (λ h. Val (part_of k h))
  row_shape env (Field_of f r) = and_then (row_shape env r) (λ h. Val (field_of f h))
  row_shape env (Unzipped_row e r) = and_then (extent_worth env e) (λ z. and_then (row_shape env r) (λ h. Val (parts_of (count z) h)))

  pub row_shapes : Names Component → Rows → Out Shapes
  row_shapes env no_row = Val no_shape
  row_shapes env (row_and r rs) = and_then (row_shape env r) (λ h. and_then (row_shapes env rs) (λ hs. Val (shape_and h hs)))

  pub named_shapes : Names Component → Named_rows → Out Named_shapes
  named_shapes env no_named_row = Val no_named_shape
  named_shapes env (named_row_and f r fs) = and_then (row_shape env r) (λ h. and_then (named_shapes env fs) (λ hs. Val (named_shape_and f h hs)))

  -- the integer, where one is told; what is no array has no rows
  pub extent_worth : Names Component → Extent → Out (Option ℤ)
  extent_worth env Nowhere = Val None
  extent_worth env (Exactly n) = Val (Some (pos n))
  extent_worth env (Worth_of u) = and_then (value_of env u) (λ d. Val (datum_worth d))
  extent_worth env (Length_of r) = and_then (row_shape env r) (λ h. Val (Some (pos (size_of h))))

-- ---- whether data of a shape has the sizes that it has to have

abbrev pub where_there : Option Shape → (Shape → Out Bool) → Out Bool
where_there (Some h) test = test h
where_there None test = Val true

-- where one thing holds, another
abbrev pub and_also : Bool → Out Bool → Out Bool
and_also b o = cond b o (Val false)

abbrev mutual
  pub passes : Names Component → Size_test → Shape → Out Bool
  passes env Any_size h = Val true
  passes env (Array_test e t) (Array_shape n h) = and_then (extent_worth env e) (λ z. and_also (agrees z n) (passes env t h))
  -- each size of what nothing has given is 0
  passes env (Array_test e t) Unmet_shape = and_then (extent_worth env e) (λ z. and_also (agrees z 0) (passes env t Unmet_shape))
  passes env (Array_test e t) h = Val true
  passes env (Tuple_test ts) (Tuple_shape hs) = all_pass env ts hs
  passes env (Tuple_test ts) h = Val true
  passes env (Record_test ts) (Record_shape hs) = named_pass env ts hs
  passes env (Record_test ts) h = Val true

  pub all_pass : Names Component → Size_tests → Shapes → Out Bool
  all_pass env no_test hs = Val true
  all_pass env (test_and t ts) no_shape = Val true
  all_pass env (test_and t ts) (shape_and h hs) = and_then (passes env t h) (λ b. and_also b (all_pass env ts hs))

  pub named_pass : Names Component → Named_tests → Named_shapes → Out Bool
  named_pass env no_named_test hs = Val true
  named_pass env (named_test_and f t ts) hs = and_then (where_there (field_shape f hs) (passes env t)) (λ b. and_also b (named_pass env ts hs))
