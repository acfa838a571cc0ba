-- What forms and data stand for.
use Rattle.std.specs.Prelude.{ℕ, ◌%◌, ◌^◌, List, [], ◌∷◌, ◌++◌, map, Result, Ok, Err}
use Rattle.fut_scalar.specs.Integers.{width_of}
use Rattle.fut_scalar.specs.declared.scalar.Scalar.{Scalar}
use Rattle.fut_scalar.specs.declared.scalar.Scalar.TheVariants as scalar
use Rattle.fut_scalar.specs.declared.scalar.ScalarType.{ScalarType}
use Rattle.fut_arithmetic.specs.Words.{scalar_of_word}
use Rattle.fut_ast.specs.Sorts.{Text}
use Rattle.fut_value.specs.Data.{Shape, Scalar_shape, Tuple_shape, Record_shape, Array_shape, Unmet_shape, Shapes, no_shape, shape_and, Named_shapes, no_named_shape, named_shape_and, Datum, Scalar_datum, Tuple_datum, Record_datum, Array_datum, Named_datums, no_named, named_and, datums, listed, shape_of}
use Rattle.array_data.specs.declared.form.Form.{Form, Form-F, fold-Form}
use Rattle.array_data.specs.declared.data.Data.{Data, Data-F, fold-Data}
use Rattle.array_data.specs.declared.built.Built.{Built}
use Rattle.array_data.specs.declared.stop.Stop.{Stop}

abbrev pub shapes : List Shape → Shapes
shapes [] = no_shape
shapes (h ∷ hs) = shape_and h (shapes hs)

-- the name of the first of some parts, and the names of the others
abbrev pub first_name : List Text → Text
first_name [] = []
first_name (f ∷ fs) = f

abbrev pub other_names : List Text → List Text
other_names [] = []
other_names (f ∷ fs) = fs

-- parts with their names; one for which there is no name has an empty one
abbrev pub named_parts : List Text → List Datum → Named_datums
named_parts fs [] = no_named
named_parts fs (d ∷ ds) = named_and (first_name fs) d (named_parts (other_names fs) ds)

abbrev pub named_shapes : List Text → List Shape → Named_shapes
named_shapes fs [] = no_named_shape
named_shapes fs (h ∷ hs) = named_shape_and (first_name fs) h (named_shapes (other_names fs) hs)

unfoldable pub form_step : Form-F Shape → Shape
form_step Form-F.Unmet = Unmet_shape
form_step (Form-F.Scalar t) = Scalar_shape t
form_step (Form-F.Tuple hs) = Tuple_shape (shapes hs)
form_step (Form-F.Record fs hs) = Record_shape (named_shapes fs hs)
form_step (Form-F.Array n h) = Array_shape n h

-- the shape that a form stands for
unfoldable pub shape_held : Form → Shape
shape_held = fold-Form Shape form_step

-- a scalar of the lowest bits, as many as the type has
abbrev pub fitted : Scalar → Scalar
fitted (scalar.Int t n) = scalar.Int t (n % 2 ^ width_of t)
fitted (scalar.Bool b) = scalar.Bool b

-- scalars of words
unfoldable pub scalars : ScalarType → List ℕ → List Datum
scalars t ws = map (λ w. Scalar_datum (scalar_of_word t w)) ws

unfoldable pub data_step : Data-F Datum → Datum
data_step (Data-F.Scalar s) = Scalar_datum (fitted s)
data_step (Data-F.Words t ws) = Array_datum (Scalar_shape t) (datums (scalars t ws))
data_step (Data-F.Rows n h rows) = Array_datum (shape_held h) (datums rows)
data_step (Data-F.Tuple n parts) = Tuple_datum (datums parts)
data_step (Data-F.Record n fs parts) = Record_datum (named_parts fs parts)

-- the datum that data stands for
unfoldable pub held : Data → Datum
held = fold-Data Datum data_step

unfoldable pub held_all : List Data → List Datum
held_all = map held

abbrev pub as_held : Result Data Stop → Result Datum Stop
as_held (Ok d) = Ok (held d)
as_held (Err e) = Err e

-- the shapes of forms, and of data
unfoldable pub shapes_held : List Form → Shapes
shapes_held hs = shapes (map shape_held hs)

unfoldable pub held_shapes : List Data → List Shape
held_shapes ds = map (λ d. shape_of (held d)) ds

-- the rows of an array, and what they look like
abbrev pub rows_in : Datum → List Datum
rows_in (Array_datum row ds) = listed ds
rows_in d = []

abbrev pub row_shape_in : Datum → Shape
row_shape_in (Array_datum row ds) = row
row_shape_in d = Unmet_shape

-- rows that were put together
unfoldable pub built_rows : Built → List Datum
built_rows b = scalars b.ty b.words ++ held_all b.rows
