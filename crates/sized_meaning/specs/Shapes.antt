-- Which shapes data of a sized type has, and which data is of it.
use Rattle.std.specs.Prelude.{◌≡◌, ℕ, suc, ◌<◌, true, List, [], ◌∷◌, cond, length, Option, Some, None}
use Rattle.std.specs.Str.{bytes_eq}
use Rattle.fut_ast.specs.Sorts.{Text}
use Rattle.fut_arithmetic.specs.Types.{type_of}
use Rattle.fut_scalar.specs.declared.scalar.ScalarType.{ScalarType}
use Rattle.fut_types.specs.declared.Head.{Head}
use Rattle.fut_types.specs.declared.Head.TheVariants as head
use Rattle.fut_types.specs.Shapes.{place}
use Rattle.fut_typing.specs.Names.{Names}
use Rattle.fut_value.specs.Data.{Shape, Scalar_shape, Tuple_shape, Record_shape, Array_shape, Shapes, no_shape, shape_and, Named_shapes, no_named_shape, named_shape_and, Datum, Scalar_datum, Tuple_datum, Record_datum, Array_datum, Datums, no_datum, datum_and, Named_datums, no_named, named_and, listed, shape_of}
use Rattle.fut_meaning.specs.Places.{field_shape}
use Rattle.fut_meaning.specs.Values.{is_before}
use Rattle.sized_types.specs.Sizes.{Variable, Size, Hole, Open, Level, Built, Fun, Sizes, no_size, size_and}
use Rattle.sized_meaning.specs.Worth.{Worth, Frames, number}

-- each row of an array has the shape that the array keeps, in its parts too
unfoldable mutual
  pub Whole : Datum → Type 0
  Whole (Scalar_datum s) = Unit {0}
  Whole (Tuple_datum ds) = All_whole ds
  Whole (Record_datum fs) = Named_whole fs
  Whole (Array_datum row ds) = Rows_whole row ds

  pub All_whole : Datums → Type 0
  All_whole no_datum = Unit {0}
  All_whole (datum_and d ds) = Whole d × All_whole ds

  pub Named_whole : Named_datums → Type 0
  Named_whole no_named = Unit {0}
  Named_whole (named_and f d fs) = Whole d × Named_whole fs

  pub Rows_whole : Shape → Datums → Type 0
  Rows_whole row no_datum = Unit {0}
  Rows_whole row (datum_and d ds) = (shape_of d ≡ row) × Whole d × Rows_whole row ds

-- ---- what a type variable stands for: whole data, of one shape

pub record Kind_of_data : Type 1 where
  pub shape : Shape → Type 0
  pub datum : Datum → Type 0
  pub shaped : (d : Datum) → datum d → shape (shape_of d)
  pub whole : (d : Datum) → datum d → Whole d
  pub one : Shape
  pub alone : (h : Shape) → shape h → h ≡ one

abbrev pub Meant : Type 1
Meant = Variable → Kind_of_data

abbrev pub exactly : (Variable → Shape) → Meant
exactly τ v = record { shape = λ h. h ≡ τ v; datum = λ d. (shape_of d ≡ τ v) × Whole d; shaped = λ d e. e.0; whole = λ d e. e.1; one = τ v; alone = λ h e. e }

-- ---- the fields of records stand in the order of their names

abbrev pub Each_name : (Text → Type 0) → List Text → Type 0
Each_name P [] = Unit {0}
Each_name P (f ∷ fs) = P f × Each_name P fs

abbrev pub In_order : List Text → Type 0
In_order [] = Unit {0}
In_order (f ∷ fs) = Each_name (λ g. is_before f g ≡ true) fs × In_order fs

-- each has a part of the record with this number, one of the first ones, which are so many
abbrev pub Record_names : Names → ℕ → ℕ → List Text → Type 0
Record_names N n k fs = Each_name (λ f. (i : ℕ) × (place N.shapes (N.label f) (head.Record n) ≡ Some i) × (i < k)) fs × In_order fs

abbrev pub shape_names : Named_shapes → List Text
shape_names no_named_shape = []
shape_names (named_shape_and f h hs) = f ∷ shape_names hs

abbrev pub datum_names : Named_datums → List Text
datum_names no_named = []
datum_names (named_and f d ds) = f ∷ datum_names ds

-- ---- shapes

abbrev pub On_array_shape : (ℕ → Shape → Type 0) → Shape → Type 0
On_array_shape P (Array_shape n h) = P n h
On_array_shape P h = ⊥

abbrev pub On_tuple_shape : (Shapes → Type 0) → Shape → Type 0
On_tuple_shape P (Tuple_shape hs) = P hs
On_tuple_shape P h = ⊥

abbrev pub On_record_shape : (Named_shapes → Type 0) → Shape → Type 0
On_record_shape P (Record_shape hs) = P hs
On_record_shape P h = ⊥

abbrev pub No_shape : Shapes → Type 0
No_shape no_shape = Unit {0}
No_shape (shape_and h hs) = ⊥

abbrev pub First_shape : (Shape → Type 0) → (Shapes → Type 0) → Shapes → Type 0
First_shape P Q no_shape = ⊥
First_shape P Q (shape_and h hs) = P h × Q hs

-- by what a type is made of; a type of its own has no values
abbrev pub Shape_of_head : Head → (Shapes → Type 0) → (ℕ → Named_shapes → Type 0) → Shape → Type 0
Shape_of_head (head.Scalar s) P Q h = h ≡ Scalar_shape s
Shape_of_head head.Tuple P Q h = On_tuple_shape P h
Shape_of_head (head.Record n) P Q h = On_record_shape (Q n) h
Shape_of_head (head.Abstract n d) P Q h = ⊥
Shape_of_head head.Array P Q h = ⊥
Shape_of_head head.Fun P Q h = ⊥
Shape_of_head (head.Rigid n k) P Q h = ⊥

-- ---- data

abbrev pub On_array_datum : (Shape → Datums → Type 0) → Datum → Type 0
On_array_datum P (Array_datum row ds) = P row ds
On_array_datum P d = ⊥

abbrev pub On_tuple_datum : (Datums → Type 0) → Datum → Type 0
On_tuple_datum P (Tuple_datum ds) = P ds
On_tuple_datum P d = ⊥

abbrev pub On_record_datum : (Named_datums → Type 0) → Datum → Type 0
On_record_datum P (Record_datum fs) = P fs
On_record_datum P d = ⊥

abbrev pub Is_scalar_datum : ScalarType → Datum → Type 0
Is_scalar_datum s (Scalar_datum c) = type_of c ≡ s
Is_scalar_datum s d = ⊥

abbrev pub No_datum : Datums → Type 0
No_datum no_datum = Unit {0}
No_datum (datum_and d ds) = ⊥

abbrev pub First_datum : (Datum → Type 0) → (Datums → Type 0) → Datums → Type 0
First_datum P Q no_datum = ⊥
First_datum P Q (datum_and d ds) = P d × Q ds

abbrev pub Every_datum : (Datum → Type 0) → Datums → Type 0
Every_datum P no_datum = Unit {0}
Every_datum P (datum_and d ds) = P d × Every_datum P ds

abbrev pub field_datum : Text → Named_datums → Option Datum
field_datum f no_named = None
field_datum f (named_and g d fs) = cond (bytes_eq g f) (Some d) (field_datum f fs)

abbrev pub Datum_of_head : Head → (Datums → Type 0) → (ℕ → Named_datums → Type 0) → Datum → Type 0
Datum_of_head (head.Scalar s) P Q d = Is_scalar_datum s d
Datum_of_head head.Tuple P Q d = On_tuple_datum P d
Datum_of_head (head.Record n) P Q d = On_record_datum (Q n) d
Datum_of_head (head.Abstract n k) P Q d = ⊥
Datum_of_head head.Array P Q d = ⊥
Datum_of_head head.Fun P Q d = ⊥
Datum_of_head (head.Rigid n k) P Q d = ⊥

-- where type variables stand for these
module _ (N : Names) (τ : Meant) where
  unfoldable mutual
    pub Has_shape : Worth → Frames → Size → Shape → Type 0
    Has_shape m φ (Hole v) h = (τ v).shape h
    Has_shape m φ (Open n v u) h = ⊥
    Has_shape m φ (Level d t) h = On_array_shape (λ n row. (n ≡ number m φ d) × Has_shape m φ t row) h
    Has_shape m φ (Built k ts) h = Shape_of_head k (Have_shapes m φ ts) (λ n. Have_named m φ n 0 ts) h
    Has_shape m φ (Fun k p r) h = ⊥

    pub Have_shapes : Worth → Frames → Sizes → Shapes → Type 0
    Have_shapes m φ no_size hs = No_shape hs
    Have_shapes m φ (size_and t ts) hs = First_shape (Has_shape m φ t) (Have_shapes m φ ts) hs

    -- the record with this number has its fields, from a part on, and no others
    pub Have_named : Worth → Frames → ℕ → ℕ → Sizes → Named_shapes → Type 0
    Have_named m φ n i no_size hs = Record_names N n i (shape_names hs)
    Have_named m φ n i (size_and t ts) hs = ((f : Text) → place N.shapes (N.label f) (head.Record n) ≡ Some i → (h : Shape) × (field_shape f hs ≡ Some h) × Has_shape m φ t h) × Have_named m φ n (suc i) ts hs

  -- data of a sized type: an array keeps the shape of its rows, also where it has none
  unfoldable mutual
    pub Has_datum : Worth → Frames → Size → Datum → Type 0
    Has_datum m φ (Hole v) x = (τ v).datum x
    Has_datum m φ (Open n v u) x = ⊥
    Has_datum m φ (Level d t) x = On_array_datum (λ row ds. (length (listed ds) ≡ number m φ d) × Has_shape m φ t row × Every_datum (Has_datum m φ t) ds) x
    Has_datum m φ (Built k ts) x = Datum_of_head k (Have_data m φ ts) (λ n. Named_data m φ n 0 ts) x
    Has_datum m φ (Fun k p r) x = ⊥

    pub Have_data : Worth → Frames → Sizes → Datums → Type 0
    Have_data m φ no_size ds = No_datum ds
    Have_data m φ (size_and t ts) ds = First_datum (Has_datum m φ t) (Have_data m φ ts) ds

    pub Named_data : Worth → Frames → ℕ → ℕ → Sizes → Named_datums → Type 0
    Named_data m φ n i no_size fs = Record_names N n i (datum_names fs)
    Named_data m φ n i (size_and t ts) fs = ((f : Text) → place N.shapes (N.label f) (head.Record n) ≡ Some i → (x : Datum) × (field_datum f fs ≡ Some x) × Has_datum m φ t x) × Named_data m φ n (suc i) ts fs
