-- What is known of the names of blocks: of which type the data is, and which atoms of Core stand for its components. A type is said
-- by a shape, at whose sizes nothing looks.
use Rattle.std.specs.Prelude.{◌≡◌, ℕ, List, [], ◌∷◌, ◌++◌, map, take, drop, length, Some}
use Rattle.fut_scalar.specs.declared.scalar.Scalar.{Scalar}
use Rattle.fut_scalar.specs.declared.scalar.ScalarType.TheVariants as sort
use Rattle.fut_arithmetic.specs.Types.{type_of}
use Rattle.fut_value.specs.Data.{Shape, Scalar_shape, Tuple_shape, Record_shape, Array_shape, Unmet_shape, Shapes, no_shape, shape_and, Named_shapes, no_named_shape, named_shape_and}
use Rattle.fut_value.specs.Leaves.{leaves}
use Rattle.fut_blocks.specs.Meaning.{Names, look}
use Rattle.fut_blocks.specs.declared.block.Atom.{Atom as Operand_atom}
use Rattle.fut_blocks.specs.declared.block.Atom.TheVariants as source
use Rattle.core_ir.specs.declared.block.Var.{Var}
use Rattle.core_ir.specs.declared.block.Atom.{Atom}
use Rattle.core_ir.specs.declared.block.Atom.TheVariants as atom
use Rattle.core_ir.specs.Numbered.{Rise}
use Rattle.core_ir.specs.Typed.{Sort, sort_of, lifted}
use Rattle.core_values.specs.Components.{One_type}

pub record Known : Type 0 where
  pub type : Shape
  pub atoms : List Atom

abbrev pub known : Shape → List Atom → Known
known h us = record { type = h; atoms = us }

abbrev pub Scope : Type 0
Scope = Names Known

-- how many components data of a type has
abbrev pub width : Shape → ℕ
width h = length (leaves h)

-- data of several types, one behind the other
abbrev pub knowns : List Shape → List Atom → List Known
knowns [] us = []
knowns (h ∷ hs) us = known h (take (width h) us) ∷ knowns hs (drop (width h) us)

-- ---- types

abbrev pub parts_of : Shapes → List Shape
parts_of no_shape = []
parts_of (shape_and h hs) = h ∷ parts_of hs

abbrev pub shapes : List Shape → Shapes
shapes [] = no_shape
shapes (h ∷ hs) = shape_and h (shapes hs)

abbrev pub fields_of : Named_shapes → List Shape
fields_of no_named_shape = []
fields_of (named_shape_and f h hs) = h ∷ fields_of hs

-- arrays with rows of these sorts; where a row has no component, one array without cells, of truth values
abbrev pub bundled : List Sort → List Sort
bundled [] = (sort.Bool, 2) ∷ []
bundled (s ∷ ss) = lifted (s ∷ ss)

-- the sorts of the components of data of a type
unfoldable mutual
  pub sorts : Shape → List Sort
  sorts (Scalar_shape t) = (t, 0) ∷ []
  sorts (Tuple_shape hs) = sorts_of_all hs
  sorts (Record_shape hs) = sorts_of_named hs
  sorts (Array_shape n h) = bundled (sorts h)
  sorts Unmet_shape = []

  pub sorts_of_all : Shapes → List Sort
  sorts_of_all no_shape = []
  sorts_of_all (shape_and h hs) = sorts h ++ sorts_of_all hs

  pub sorts_of_named : Named_shapes → List Sort
  sorts_of_named no_named_shape = []
  sorts_of_named (named_shape_and f h hs) = sorts h ++ sorts_of_named hs

abbrev pub all_sorts : List Shape → List Sort
all_sorts [] = []
all_sorts (h ∷ hs) = sorts h ++ all_sorts hs

-- ---- names

abbrev pub names : List Var → List Atom
names = map atom.Var

-- new variables for the components of data of these types
pub record New (n : ℕ) (xs : List Var) (hs : List Shape) (m : ℕ) : Type 0 where
  pub rise : Rise n xs m
  pub sorted : map sort_of xs ≡ all_sorts hs

-- what a name is known as, and what is known of a constant
pub data Lowers (sc : Scope) : Operand_atom → Shape → List Atom → Type 0 where
  name_lowers : {x : ℕ} {h : Shape} {us : List Atom} → look sc x ≡ Some (known h us) → Lowers sc (source.Name x) h us
  constant_lowers : {s : Scalar} → Lowers sc (source.Constant s) (Scalar_shape (type_of s)) (atom.Constant s ∷ [])

-- an operand of a type
pub data Operand (sc : Scope) : Operand_atom → Shape → List Atom → Type 0 where
  operand : {u : Operand_atom} {h k : Shape} {us : List Atom} → Lowers sc u k us → One_type h k → Operand sc u h us

pub data Operands (sc : Scope) : List Operand_atom → List Shape → List Atom → Type 0 where
  no_operand : Operands sc [] [] []
  operand_and : {u : Operand_atom} {us : List Operand_atom} {h : Shape} {hs : List Shape} {ws vs : List Atom} → Operand sc u h ws → Operands sc us hs vs → Operands sc (u ∷ us) (h ∷ hs) (ws ++ vs)
