-- On data of one shape no test of sizes misfits: each primitive and each operation that tests sizes does the same whether what does
-- not fit is reported or goes wrong. The types are those of the table of primitives, where each size is a number and each type
-- variable stands for data of one shape.
use Rattle.std.specs.Prelude.{◌≡◌, ℕ, Bool, true, false, List, [], ◌∷◌}
use Rattle.fut_ast.specs.Sorts.{Text}
use Rattle.fut_scalar.specs.declared.place.Place.{Place}
use Rattle.fut_scalar.specs.declared.scalar.ScalarType.{ScalarType}
use Rattle.fut_flat.specs.declared.prim.Primitive.{Primitive}
use Rattle.fut_primitives.specs.declared.written.Letter.{Letter}
use Rattle.fut_primitives.specs.declared.written.Size.{Size as Length}
use Rattle.fut_primitives.specs.Table.{written, parameters_of, own_of, from_of}
use Rattle.fut_primitives.specs.Written.{Written, Variable, Scalar, Own, From, Array, Unique, Pair, Triple, Named, Function}
use Rattle.fut_value.specs.Data.{Shape, Scalar_shape, Tuple_shape, no_shape, shape_and, Array_shape, Unmet_shape, Datum, shape_of}
use Rattle.fut_meaning.specs.Arrays.{Making, Make_array, Make_update, made}
use Rattle.fut_meaning.specs.Datums.{takes}
use Rattle.fut_meaning.specs.Flats.{FlatValue, flat_names}
use Rattle.fut_meaning.specs.Found.{told_shape}
use Rattle.fut_meaning.specs.Jobs.{Applied, job}
use Rattle.fut_meaning.specs.Meaning.{unrestricted, called_on, job_of}
use Rattle.fut_meaning.specs.Outcomes.{Out, Rel, the, Then}
use Rattle.sized_types.specs.Sizes.{Variable as TypeVariable, Size}
use Rattle.fut_typing.specs.Names.{Names, AreNames}
use Rattle.sized_meaning.specs.Worth.{Worth, Frames, number}
use Rattle.sized_meaning.specs.Shapes.{exactly, Whole, Has_datum}
use Rattle.sized_meaning.specs.Finding.{Fields_are, Formed}
use Rattle.sized_meaning.specs.There.{There, anywhere}
use Rattle.sized_meaning.specs.Fits.{Gives}
use Rattle.sized_meaning.specs.Law.{World, told, means}

-- whole data of a shape
abbrev pub Of_shape : Shape → Datum → Type 0
Of_shape h d = (shape_of d ≡ h) × Whole d

abbrev pub Of_shapes : List Shape → List Datum → Type 0
Of_shapes [] [] = Unit {0}
Of_shapes (h ∷ hs) (d ∷ ds) = Of_shape h d × Of_shapes hs ds
Of_shapes hs ds = ⊥

-- ---- what primitives take and give

module _ (size : Length → ℕ) (shape : Letter → Shape) (own from : ScalarType) where
  abbrev pub shape_meant : Written → Shape
  shape_meant (Variable x) = shape x
  shape_meant (Scalar s) = Scalar_shape s
  shape_meant Own = Scalar_shape own
  shape_meant From = Scalar_shape from
  shape_meant (Array n t) = Array_shape (size n) (shape_meant t)
  shape_meant (Unique t) = shape_meant t
  shape_meant (Pair t u) = Tuple_shape (shape_and (shape_meant t) (shape_and (shape_meant u) no_shape))
  shape_meant (Triple t u v) = Tuple_shape (shape_and (shape_meant t) (shape_and (shape_meant u) (shape_and (shape_meant v) no_shape)))
  shape_meant (Named n t) = shape_meant t
  shape_meant (Function t u) = Unmet_shape

  -- the shapes of the arguments that are data
  abbrev pub data_taken : Written → List Shape
  data_taken (Function (Function t u) r) = data_taken r
  data_taken (Function t r) = shape_meant t ∷ data_taken r
  data_taken w = []

  abbrev pub given_last : Written → Shape
  given_last (Function t u) = given_last u
  given_last w = shape_meant w

  -- the argument that is a function, where there is one: it gives data of its shape for data of the shapes that it takes
  abbrev pub Function_fits : Applied → Written → Type 0
  Function_fits f (Function (Function t u) r) = (ds : List Datum) → Of_shapes (data_taken (Function t u)) ds → Gives (There anywhere) (Of_shape (given_last u)) (f ds)
  Function_fits f (Function t r) = Function_fits f r
  Function_fits f w = Unit {0}

-- the same outcomes, with the same words
abbrev pub Same_outcomes : {A : Type 0} → Rel A → Rel A → Type 0
Same_outcomes {A} m k = (o : Out A) (words : ℕ) → (m o words → k o words) × (k o words → m o words)

-- the function of a primitive, applied to data
abbrev pub applies : World → Primitive → FlatValue → Applied
applies W p f = called_on (takes (parameters_of p)) (means W) f

-- what a primitive gives for its data and its function, where rows that are missing are told to be of a shape
abbrev pub primitive_gives : World → (misfit : Bool) → (row : Shape) → Primitive → Place → List Datum → FlatValue → Rel FlatValue
primitive_gives W misfit row p at ds f = Then (the (job misfit row p at ds)) (job_of ((flat_names (told W)).lang W.tops) (unrestricted W.tight misfit) W.budget (means W) (takes (parameters_of p)) f)

abbrev pub NoPrimitiveMisfits : Type 0
NoPrimitiveMisfits = (size : Length → ℕ) (shape : Letter → Shape) (W : World) (row : Shape) (p : Primitive) (at : Place) (ds : List Datum) (f : FlatValue)
    → Of_shapes (data_taken size shape (own_of p) (from_of p) (written p)) ds → Function_fits size shape (own_of p) (from_of p) (applies W p f) (written p)
    → Same_outcomes (primitive_gives W true row p at ds f) (primitive_gives W false row p at ds f)

-- ---- operations on arrays

abbrev pub All_of_shape : Shape → List Datum → Type 0
All_of_shape h [] = Unit {0}
All_of_shape h (d ∷ ds) = (shape_of d ≡ h) × All_of_shape h ds

-- an index for each of some levels, and data of the shape of what is left
abbrev pub Updates : Shape → List Datum → Type 0
Updates h (v ∷ []) = shape_of v ≡ h
Updates (Array_shape n h) (i ∷ j ∷ ds) = Updates h (j ∷ ds)
Updates h ds = ⊥

-- elements of one shape; and for an array what updates it
abbrev pub Made_of_shapes : Making → List Datum → Type 0
Made_of_shapes Make_array ds = (h : Shape) × All_of_shape h ds
Made_of_shapes Make_update (d ∷ ds) = Whole d × Updates (shape_of d) ds
Made_of_shapes m ds = Unit {0}

abbrev pub NoOperationMisfits : Type 0
NoOperationMisfits = (told : Shape) (m : Making) (at : Place) (ds : List Datum) → Made_of_shapes m ds → made true told m at ds ≡ made false told m at ds

-- ---- data of a sized type is of one shape

abbrev pub DataIsOfItsShape : Type 0
DataIsOfItsShape = (N : Names) → AreNames N → (fields : ℕ → List Text) (τ : TypeVariable → Shape) (m : Worth) (φ : Frames) (t : Size) (d : Datum) → Fields_are N fields → Formed fields t
    → Has_datum N (exactly τ) m φ t d → Of_shape (told_shape fields (number m φ) τ t) d
