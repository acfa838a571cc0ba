-- Operands that are arrays, indices, and rows: which types they have, and which atoms of Core stand for them.
use Rattle.core_ir.specs.Plain.{Bundle}
use Rattle.std.specs.Prelude.{◌≡◌, ℕ, suc, Bool, true, false, List, [], ◌∷◌}
use Rattle.fut_scalar.specs.declared.scalar.IntType.{IntType}
use Rattle.fut_scalar.specs.declared.scalar.ScalarType.TheVariants as sort
use Rattle.fut_flat.specs.declared.prim.Primitive.{Primitive}
use Rattle.fut_flat.specs.declared.prim.Primitive.TheVariants as prim
use Rattle.fut_flat.specs.declared.act.Part.{Part}
use Rattle.fut_flat.specs.declared.act.Part.TheVariants as part
use Rattle.fut_value.specs.Data.{Shape, Scalar_shape, Array_shape}
use Rattle.fut_blocks.specs.declared.block.Atom.{Atom as Source_atom}
use Rattle.fut_blocks.specs.Rows.{Row, Unknown_row, Scalar_row, Tuple_row, Record_row, Array_row, Shape_of, Rows_of, Part_of, Field_of, Unzipped_row, Rows, no_row, row_and, Named_rows, no_named_row, named_row_and, Extent, Nowhere, Exactly, Worth_of, Length_of}
use Rattle.core_ir.specs.declared.block.Atom.{Atom}
use Rattle.core_values.specs.Components.{One_type}
use Rattle.lowering.specs.Knowns.{Scope, width, Lowers, Operand}

-- arrays of rows of a type
abbrev pub array : Shape → Shape
array h = Array_shape 0 h

-- an array as an operand: as many components as a row has, and one where it has none
abbrev pub bundle_of : Shape → List Atom → Bundle
bundle_of h us = record { width = width h; arrays = us }

-- types of integers
pub data Integers : List Shape → Type 0 where
  no_integer : Integers []
  integer_and : {t : IntType} {hs : List Shape} → Integers hs → Integers (Scalar_shape (sort.Int t) ∷ hs)

-- operands of one type, each with its atoms
pub data Each_operand (sc : Scope) (h : Shape) : List Source_atom → List (List Atom) → Type 0 where
  no_more : Each_operand sc h [] []
  and_more : {u : Source_atom} {us : List Source_atom} {ws : List Atom} {wss : List (List Atom)} → Operand sc u h ws → Each_operand sc h us wss → Each_operand sc h (u ∷ us) (ws ∷ wss)

-- what the parts of an index take of data of a type, with the width of a row behind the last part
pub data Indexed (w : ℕ) : List Part → Shape → Shape → Type 0 where
  at_end : {h : Shape} → Indexed w [] h h
  last_row : {n : ℕ} {h : Shape} → w ≡ width h → Indexed w (part.At ∷ []) (Array_shape n h) h
  row_then : {n : ℕ} {h k : Shape} {p : Part} {ps : List Part} → Indexed w (p ∷ ps) h k → Indexed w (part.At ∷ p ∷ ps) (Array_shape n h) k
  slice_then : {a b : Bool} {n : ℕ} {h k : Shape} {ps : List Part} → Indexed w ps h k → Indexed w (part.Slice a b ∷ ps) (Array_shape n h) (array k)
  reverse_then : {n : ℕ} {h k : Shape} {ps : List Part} → Indexed w ps h k → Indexed w (part.Backwards ∷ ps) (Array_shape n h) (array k)

-- data in which so many indices name a row of a type
pub data Has_rows (k : Shape) : ℕ → Shape → Type 0 where
  its_row : {n : ℕ} {h : Shape} → One_type h k → Has_rows k 1 (Array_shape n h)
  in_row : {n m : ℕ} {h : Shape} → Has_rows k (suc m) h → Has_rows k (suc (suc m)) (Array_shape n h)

-- a reduction of rows in their order, or in any
abbrev pub reduction_of : (any : Bool) → Primitive
reduction_of false = prim.Reduce
reduction_of true = prim.ReduceComm

-- ---- rows that are told

-- a name or a constant
abbrev pub Is_known : Scope → Source_atom → Type 0
Is_known sc u = (h : Shape) × (us : List Atom) × Lowers sc u h us

-- every name in it is known
abbrev mutual
  pub Row_in : Scope → Row → Type 0
  Row_in sc Unknown_row = Unit {0}
  Row_in sc (Scalar_row t) = Unit {0}
  Row_in sc (Tuple_row rs) = Rows_in sc rs
  Row_in sc (Record_row fs) = Named_in sc fs
  Row_in sc (Array_row e r) = Extent_in sc e × Row_in sc r
  Row_in sc (Shape_of u) = Is_known sc u
  Row_in sc (Rows_of r) = Row_in sc r
  Row_in sc (Part_of k r) = Row_in sc r
  Row_in sc (Field_of f r) = Row_in sc r
  Row_in sc (Unzipped_row e r) = Extent_in sc e × Row_in sc r

  pub Rows_in : Scope → Rows → Type 0
  Rows_in sc no_row = Unit {0}
  Rows_in sc (row_and r rs) = Row_in sc r × Rows_in sc rs

  pub Named_in : Scope → Named_rows → Type 0
  Named_in sc no_named_row = Unit {0}
  Named_in sc (named_row_and f r fs) = Row_in sc r × Named_in sc fs

  pub Extent_in : Scope → Extent → Type 0
  Extent_in sc Nowhere = Unit {0}
  Extent_in sc (Exactly n) = Unit {0}
  Extent_in sc (Worth_of u) = Is_known sc u
  Extent_in sc (Length_of r) = Row_in sc r

-- ---- functions on rows

-- arrays as operands, with the types of their rows
pub data Array_operands (sc : Scope) : List Source_atom → List Shape → List Bundle → Type 0 where
  no_array : Array_operands sc [] [] []
  array_and : {u : Source_atom} {us : List Source_atom} {n : ℕ} {h : Shape} {hs : List Shape} {ws : List Atom} {rs : List Bundle} → Operand sc u (Array_shape n h) ws → Array_operands sc us hs rs → Array_operands sc (u ∷ us) (h ∷ hs) (bundle_of h ws ∷ rs)

pub data Is_map : Primitive → Type 0 where
  is_map : Is_map prim.Map
  is_map2 : Is_map prim.Map2
  is_map3 : Is_map prim.Map3
  is_map4 : Is_map prim.Map4
  is_map5 : Is_map prim.Map5
