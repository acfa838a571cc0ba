-- Where a size or a type variable stands in a sized type (Futhark Language Reference, "Size Types"): at the first place outside of
-- functions, told by the way from the whole of the data to its part there.
use Rattle.std.specs.Prelude.{ℕ, zero, suc, Bool, false, cond, List, [], ◌∷◌, Option, Some, None}
use Rattle.std.specs.Str.{bytes_eq}
use Rattle.fut_ast.specs.Sorts.{Text}
use Rattle.fut_types.specs.declared.Head.{Head}
use Rattle.fut_types.specs.declared.Head.TheVariants as head
use Rattle.fut_value.specs.Data.{Shape, Tuple_shape, Record_shape, Array_shape, Unmet_shape, Shapes, no_shape, shape_and, Named_shapes, no_named_shape, named_shape_and}
use Rattle.sized_types.specs.Sizes.{Dim, Variable, is_variable, Size, Hole, Open, Level, Built, Fun, Sizes, no_size, size_and, is_dim}

pub data Path : Type 0 where
  Whole : Path
  -- in the rows of an array, in a part of a tuple, in a field of a record
  In_rows : Path → Path
  In_part : ℕ → Path → Path
  In_field : Text → Path → Path

abbrev pub or_else : {A : Type 0} → Option A → Option A → Option A
or_else (Some a) o = Some a
or_else None o = o

abbrev pub below : (Path → Path) → Option Path → Option Path
below step (Some p) = Some (step p)
below step None = None

-- by what a type is made of
abbrev pub in_head : Head → Option Path → (ℕ → Option Path) → Option Path
in_head head.Tuple parts named = parts
in_head (head.Record n) parts named = named n
in_head h parts named = None

module _ (fields : ℕ → List Text) (is_size : Dim → Bool) (is_type : Variable → Bool) where
  unfoldable mutual
    pub place : Size → Option Path
    place (Hole v) = cond (is_type v) (Some Whole) None
    place (Open n v u) = None
    place (Level d t) = cond (is_size d) (Some Whole) (below In_rows (place t))
    place (Built h ts) = in_head h (part_place 0 ts) (λ n. field_place (fields n) ts)
    place (Fun k p r) = None

    -- in parts from one on
    pub part_place : ℕ → Sizes → Option Path
    part_place k no_size = None
    part_place k (size_and t ts) = or_else (below (In_part k) (place t)) (part_place (suc k) ts)

    pub field_place : List Text → Sizes → Option Path
    field_place fs no_size = None
    field_place [] (size_and t ts) = None
    field_place (f ∷ fs) (size_and t ts) = or_else (below (In_field f) (place t)) (field_place fs ts)

-- of a size: the way to the array whose length it is
abbrev pub size_place : (ℕ → List Text) → Dim → Size → Option Path
size_place fields x = place fields (λ d. is_dim d x) (λ v. false)

-- of a type variable: the way to the data that is of it
abbrev pub type_place : (ℕ → List Text) → Variable → Size → Option Path
type_place fields x = place fields (λ d. false) (λ v. is_variable v x)

abbrev pub on_place : {A : Type 0} → Option Path → (Path → A) → A → A
on_place (Some p) there otherwise = there p
on_place None there otherwise = otherwise

-- ---- what stands there in data of a shape: nothing is told of a part that the shape has not

abbrev pub row_of : Shape → Shape
row_of (Array_shape n h) = h
row_of h = Unmet_shape

abbrev pub size_of : Shape → ℕ
size_of (Array_shape n h) = n
size_of h = 0

abbrev pub shape_at : ℕ → Shapes → Shape
shape_at k no_shape = Unmet_shape
shape_at zero (shape_and h hs) = h
shape_at (suc k) (shape_and h hs) = shape_at k hs

abbrev pub part_of : ℕ → Shape → Shape
part_of k (Tuple_shape hs) = shape_at k hs
part_of k h = Unmet_shape

abbrev pub field_shape : Text → Named_shapes → Option Shape
field_shape f no_named_shape = None
field_shape f (named_shape_and g h hs) = cond (bytes_eq g f) (Some h) (field_shape f hs)

abbrev pub or_unmet : Option Shape → Shape
or_unmet (Some h) = h
or_unmet None = Unmet_shape

abbrev pub field_of : Text → Shape → Shape
field_of f (Record_shape hs) = or_unmet (field_shape f hs)
field_of f h = Unmet_shape

abbrev pub at_path : Path → Shape → Shape
at_path Whole h = h
at_path (In_rows p) h = at_path p (row_of h)
at_path (In_part k p) h = at_path p (part_of k h)
at_path (In_field f p) h = at_path p (field_of f h)
