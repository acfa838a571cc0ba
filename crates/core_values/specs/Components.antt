-- Which components data has: a scalar is one, a tuple and a record have those of their parts, and an array is a bundle of its
-- rows, an array for each leaf. And which data is regular.
use Rattle.std.specs.Prelude.{◌≡◌, ℕ, List, [], ◌∷◌, ◌++◌, map, length}
use Rattle.fut_scalar.specs.declared.scalar.Scalar.{Scalar}
use Rattle.fut_scalar.specs.declared.scalar.ScalarType.{ScalarType}
use Rattle.fut_ast.specs.Sorts.{Text}
use Rattle.fut_value.specs.Data.{Shape, Scalar_shape, Tuple_shape, Record_shape, Array_shape, Shapes, no_shape, shape_and, Named_shapes, no_named_shape, named_shape_and, Datum, Scalar_datum, Tuple_datum, Record_datum, Array_datum, Datums, no_datum, datum_and, Named_datums, no_named, named_and, listed, shape_of}
use Rattle.fut_value.specs.Leaves.{leaves}
use Rattle.core_ir.specs.Bundles.{One, Row, bundle}

unfoldable mutual
  pub components : Datum → Row
  components (Scalar_datum s) = One s ∷ []
  components (Tuple_datum ds) = all_components ds
  components (Record_datum fs) = named_components fs
  components (Array_datum row ds) = bundle (length (listed ds)) (leaves row) (each_components ds)

  pub all_components : Datums → Row
  all_components no_datum = []
  all_components (datum_and d ds) = components d ++ all_components ds

  pub named_components : Named_datums → Row
  named_components no_named = []
  named_components (named_and f d fs) = components d ++ named_components fs

  -- of each row
  pub each_components : Datums → List Row
  each_components no_datum = []
  each_components (datum_and d ds) = components d ∷ each_components ds

-- ---- shapes of one type, which differ in their sizes alone; nothing in them is unmet

mutual
  pub data One_type : Shape → Shape → Type 0 where
    scalars : {t : ScalarType} → One_type (Scalar_shape t) (Scalar_shape t)
    tuples : {hs ks : Shapes} → All_one_type hs ks → One_type (Tuple_shape hs) (Tuple_shape ks)
    records : {hs ks : Named_shapes} → Named_one_type hs ks → One_type (Record_shape hs) (Record_shape ks)
    arrays : {n m : ℕ} {h k : Shape} → One_type h k → One_type (Array_shape n h) (Array_shape m k)

  pub data All_one_type : Shapes → Shapes → Type 0 where
    no_part : All_one_type no_shape no_shape
    part_and : {h k : Shape} {hs ks : Shapes} → One_type h k → All_one_type hs ks → All_one_type (shape_and h hs) (shape_and k ks)

  pub data Named_one_type : Named_shapes → Named_shapes → Type 0 where
    no_field : Named_one_type no_named_shape no_named_shape
    field_and : {f : Text} {h k : Shape} {hs ks : Named_shapes} → One_type h k → Named_one_type hs ks → Named_one_type (named_shape_and f h hs) (named_shape_and f k ks)

-- ---- regular data

mutual
  pub data Regular : Datum → Type 0 where
    a_scalar : {s : Scalar} → Regular (Scalar_datum s)
    a_tuple : {ds : Datums} → All_regular ds → Regular (Tuple_datum ds)
    a_record : {fs : Named_datums} → Named_regular fs → Regular (Record_datum fs)
    an_array : {row : Shape} {ds : Datums} → One_type row row → Rows_regular row ds → Regular (Array_datum row ds)

  pub data All_regular : Datums → Type 0 where
    no_more : All_regular no_datum
    and_more : {d : Datum} {ds : Datums} → Regular d → All_regular ds → All_regular (datum_and d ds)

  pub data Named_regular : Named_datums → Type 0 where
    no_named_more : Named_regular no_named
    and_named : {f : Text} {d : Datum} {fs : Named_datums} → Regular d → Named_regular fs → Named_regular (named_and f d fs)

  -- each of the shape that the array tells
  pub data Rows_regular : Shape → Datums → Type 0 where
    no_row : {row : Shape} → Rows_regular row no_datum
    and_row : {row : Shape} {d : Datum} {ds : Datums} → Regular d → shape_of d ≡ row → Rows_regular row ds → Rows_regular row (datum_and d ds)

-- regular data of one type
pub data Of_type (h : Shape) : List Datum → Type 0 where
  none_of : Of_type h []
  one_of : {d : Datum} {ds : List Datum} → Regular d → One_type h (shape_of d) → Of_type h ds → Of_type h (d ∷ ds)

-- these are the components of regular data of a type
pub record Components_of (h : Shape) (cs : Row) (d : Datum) : Type 0 where
  pub are : cs ≡ components d
  pub regular : Regular d
  pub typed : One_type h (shape_of d)

-- ---- several arrays

-- an array: the shape of its rows, and the rows
abbrev pub Told : Type 0
Told = Shape × Datums

abbrev pub array_in : Told → Datum
array_in a = Array_datum a.0 a.1

abbrev pub wide : Told → ℕ
wide a = length (leaves a.0)

abbrev pub all_arrays : List Told → List Datum
all_arrays rest = map array_in rest

-- all of them regular
pub data All_arrays : List Told → Type 0 where
  no_array : All_arrays []
  array_and : {a : Told} {rest : List Told} → Regular (array_in a) → All_arrays rest → All_arrays (a ∷ rest)

-- the shape of a tuple of a row of each
abbrev pub row_shapes : List Told → Shapes
row_shapes [] = no_shape
row_shapes (a ∷ rest) = shape_and a.0 (row_shapes rest)
