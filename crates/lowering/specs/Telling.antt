-- Rows that are told, in Core: the sizes of each component of such a row, as atoms. A size is an integer that an atom stands for, or
-- how long an array is in one of its dimensions, which a step reads.
use Rattle.std.specs.Prelude.{ℕ, ◌<◌, ◌^◌, ◌++◌, List, [], ◌∷◌, map, drop, length}
use Rattle.fut_scalar.specs.declared.place.Place.{Place}
use Rattle.fut_scalar.specs.declared.scalar.IntType.{IntType}
use Rattle.fut_scalar.specs.declared.scalar.IntType.TheVariants.{I64, U64}
use Rattle.fut_scalar.specs.declared.scalar.Scalar.TheVariants as scalar
use Rattle.fut_scalar.specs.declared.scalar.ScalarType.{ScalarType}
use Rattle.fut_scalar.specs.declared.scalar.ScalarType.TheVariants as sort
use Rattle.fut_ast.specs.Sorts.{Text}
use Rattle.fut_value.specs.Data.{Shape, Scalar_shape, Tuple_shape, Record_shape, Array_shape, Shapes, no_shape, shape_and, Named_shapes, no_named_shape, named_shape_and}
use Rattle.fut_value.specs.Leaves.{leaves}
use Rattle.fut_meaning.specs.Meaning.{counts}
use Rattle.fut_blocks.specs.declared.block.Atom.{Atom as Source_atom}
use Rattle.fut_blocks.specs.Rows.{Row, Scalar_row, Tuple_row, Record_row, Array_row, Shape_of, Rows_of, Rows, no_row, row_and, Named_rows, no_named_row, named_row_and, Extent, Nowhere, Exactly, Worth_of, Length_of}
use Rattle.core_ir.specs.declared.block.Atom.{Atom}
use Rattle.core_ir.specs.declared.block.Atom.TheVariants as atom
use Rattle.core_ir.specs.declared.block.Operation.TheVariants as operation
use Rattle.core_ir.specs.declared.block.Var.{Var}
use Rattle.core_ir.specs.Bundles.{of_width}
use Rattle.core_ir.specs.Plain.{Action, Operate}
use Rattle.lowering.specs.Arrays.{array, Row_in}
use Rattle.lowering.specs.Knowns.{Scope, width, New, Lowers, Operand}

pub data Sized : Type 0 where
  Worth : Atom → Sized
  Along : Atom → ℕ → Sized

abbrev pub no_size : Sized
no_size = Worth (atom.Constant (scalar.Int I64 0))

-- arrays with as many rows of these sizes
abbrev pub in_sized : Sized → List (List Sized) → List (List Sized)
in_sized s [] = (s ∷ no_size ∷ []) ∷ []
in_sized s (ss ∷ sss) = map (λ ss. s ∷ ss) (ss ∷ sss)

-- the sizes of components of these ranks
abbrev pub all_along : List (List ℕ) → List Atom → List (List Sized)
all_along [] us = []
all_along (ds ∷ dss) [] = []
all_along (ds ∷ dss) (u ∷ us) = map (Along u) (counts (length ds) 0) ∷ all_along dss us

-- the type of a row, and the sizes of its components
mutual
  pub data Row_told (sc : Scope) : Row → Shape → List (List Sized) → Type 0 where
    scalar_told : {t : ScalarType} → Row_told sc (Scalar_row t) (Scalar_shape t) ([] ∷ [])
    tuple_told : {rs : Rows} {hs : Shapes} {sss : List (List Sized)} → Rows_told sc rs hs sss → Row_told sc (Tuple_row rs) (Tuple_shape hs) sss
    record_told : {fs : Named_rows} {hs : Named_shapes} {sss : List (List Sized)} → Named_told sc fs hs sss → Row_told sc (Record_row fs) (Record_shape hs) sss
    array_told : {e : Extent} {r : Row} {h : Shape} {s : Sized} {sss : List (List Sized)} → Extent_told sc e s → Row_told sc r h sss → Row_told sc (Array_row e r) (array h) (in_sized s sss)
    data_told : {u : Source_atom} {h : Shape} {us : List Atom} → Lowers sc u h us → Row_told sc (Shape_of u) h (all_along (leaves h) us)
    rows_told : {r : Row} {n : ℕ} {h : Shape} {sss : List (List Sized)} → Row_told sc r (Array_shape n h) sss → Row_told sc (Rows_of r) h (map (drop 1) (of_width (width h) sss))

  pub data Rows_told (sc : Scope) : Rows → Shapes → List (List Sized) → Type 0 where
    no_part_told : Rows_told sc no_row no_shape []
    part_and_told : {r : Row} {rs : Rows} {h : Shape} {hs : Shapes} {sss rest : List (List Sized)} → Row_told sc r h sss → Rows_told sc rs hs rest → Rows_told sc (row_and r rs) (shape_and h hs) (sss ++ rest)

  pub data Named_told (sc : Scope) : Named_rows → Named_shapes → List (List Sized) → Type 0 where
    no_field_told : Named_told sc no_named_row no_named_shape []
    field_and_told : {f : Text} {r : Row} {rs : Named_rows} {h : Shape} {hs : Named_shapes} {sss rest : List (List Sized)} → Row_told sc r h sss → Named_told sc rs hs rest → Named_told sc (named_row_and f r rs) (named_shape_and f h hs) (sss ++ rest)

  -- what counts as a number of rows
  pub data Extent_told (sc : Scope) : Extent → Sized → Type 0 where
    nowhere_told : Extent_told sc Nowhere no_size
    exactly_told : {n : ℕ} → n < 2 ^ 64 → Extent_told sc (Exactly n) (Worth (atom.Constant (scalar.Int U64 n)))
    worth_told : {u : Source_atom} {t : IntType} {w : Atom} → Operand sc u (Scalar_shape (sort.Int t)) (w ∷ []) → Extent_told sc (Worth_of u) (Worth w)
    length_told : {r : Row} {n : ℕ} {h : Shape} {s : Sized} {ss : List Sized} {sss : List (List Sized)} → Row_told sc r (Array_shape n h) ((s ∷ ss) ∷ sss) → Extent_told sc (Length_of r) s
    counted_told : {e : Extent} {r : Row} {s : Sized} → Extent_told sc e s → Row_in sc r → Extent_told sc (Length_of (Array_row e r)) s

-- a step for each size that is read of an array, and atoms for all
pub data Tells : List Sized → ℕ → List (List Var × Action) → List Atom → ℕ → Type 0 where
  tell_none : {n : ℕ} → Tells [] n [] [] n
  tell_worth : {u : Atom} {ss : List Sized} {n m : ℕ} {bs : List (List Var × Action)} {us : List Atom} → Tells ss n bs us m → Tells (Worth u ∷ ss) n bs (u ∷ us) m
  tell_along : {u : Atom} {j : ℕ} {ss : List Sized} {at : Place} {x : Var} {n k m : ℕ} {bs : List (List Var × Action)} {us : List Atom} → New n (x ∷ []) (Scalar_shape (sort.Int U64) ∷ []) k → Tells ss k bs us m → Tells (Along u j ∷ ss) n ((x ∷ [], Operate (operation.Dimension u j) at) ∷ bs) (atom.Var x ∷ us) m

pub data All_tell : List (List Sized) → ℕ → List (List Var × Action) → List (List Atom) → ℕ → Type 0 where
  all_told_none : {n : ℕ} → All_tell [] n [] [] n
  all_told_more : {ss : List Sized} {sss : List (List Sized)} {n k m : ℕ} {bs cs : List (List Var × Action)} {us : List Atom} {uss : List (List Atom)} → Tells ss n bs us k → All_tell sss k cs uss m → All_tell (ss ∷ sss) n (bs ++ cs) (us ∷ uss) m
