-- Whether data looks as a shape says. A shape that nothing has given says that there are no rows. What stands in records is
-- not asked for: no operation on arrays opens them.
use Rattle.std.specs.Prelude.{◌≡◌, length}
use Rattle.fut_value.specs.Data.{Shape, Scalar_shape, Tuple_shape, Record_shape, Array_shape, Unmet_shape, Shapes, no_shape, shape_and, Datum, Scalar_datum, Tuple_datum, Record_datum, Array_datum, Datums, no_datum, datum_and, listed}

-- of each row of an array
abbrev pub All_datums : (Datum → Type 0) → Datums → Type 0
All_datums P no_datum = Unit {0}
All_datums P (datum_and d ds) = P d × All_datums P ds

-- no array in it has rows
unfoldable mutual
  pub Is_empty : Datum → Type 0
  Is_empty (Scalar_datum s) = Unit {0}
  Is_empty (Record_datum fs) = Unit {0}
  Is_empty (Tuple_datum ds) = All_empty ds
  Is_empty (Array_datum row ds) = length (listed ds) ≡ 0

  pub All_empty : Datums → Type 0
  All_empty no_datum = Unit {0}
  All_empty (datum_and d ds) = Is_empty d × All_empty ds

-- it has neither rows nor positions
abbrev pub Is_plain : Datum → Type 0
Is_plain (Scalar_datum s) = Unit {0}
Is_plain (Record_datum fs) = Unit {0}
Is_plain (Tuple_datum ds) = ⊥
Is_plain (Array_datum row ds) = ⊥

abbrev pub On_parts : (Datums → Type 0) → Datum → Type 0
On_parts P (Scalar_datum s) = Unit {0}
On_parts P (Record_datum fs) = Unit {0}
On_parts P (Tuple_datum ds) = P ds
On_parts P (Array_datum row ds) = ⊥

abbrev pub On_rows : (Datums → Type 0) → Datum → Type 0
On_rows P (Scalar_datum s) = Unit {0}
On_rows P (Record_datum fs) = Unit {0}
On_rows P (Tuple_datum ds) = ⊥
On_rows P (Array_datum row ds) = P ds

abbrev pub Each_like : (Datum → Type 0) → (Datums → Type 0) → Datums → Type 0
Each_like P Q no_datum = ⊥
Each_like P Q (datum_and d ds) = P d × Q ds

abbrev pub No_datum : Datums → Type 0
No_datum no_datum = Unit {0}
No_datum (datum_and d ds) = ⊥

unfoldable mutual
  pub Like : Shape → Datum → Type 0
  Like (Scalar_shape t) d = Is_plain d
  Like (Record_shape hs) d = Is_plain d
  Like (Tuple_shape hs) d = On_parts (All_like hs) d
  Like (Array_shape n h) d = On_rows (λ ds. (length (listed ds) ≡ n) × All_datums (Like h) ds) d
  Like Unmet_shape d = Is_empty d

  pub All_like : Shapes → Datums → Type 0
  All_like no_shape ds = No_datum ds
  All_like (shape_and h hs) ds = Each_like (Like h) (All_like hs) ds
