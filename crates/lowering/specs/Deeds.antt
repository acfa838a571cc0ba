-- Primitives without a function: which step each becomes.
use Rattle.std.specs.Prelude.{ℕ, List, [], ◌∷◌, map}
use Rattle.fut_scalar.specs.declared.scalar.IntType.{IntType}
use Rattle.fut_scalar.specs.declared.scalar.IntType.TheVariants.{I64}
use Rattle.fut_scalar.specs.declared.scalar.ScalarType.TheVariants as sort
use Rattle.fut_flat.specs.declared.act.Part.TheVariants as part
use Rattle.fut_flat.specs.declared.prim.Primitive.{Primitive}
use Rattle.fut_flat.specs.declared.prim.Primitive.TheVariants as prim
use Rattle.fut_value.specs.Data.{Shape, Scalar_shape, Tuple_shape, Array_shape}
use Rattle.fut_blocks.specs.declared.block.Atom.{Atom as Source_atom}
use Rattle.core_ir.specs.declared.block.Atom.{Atom}
use Rattle.core_ir.specs.Plain.{Bundle, Deed}
use Rattle.core_ir.specs.Plain as core
use Rattle.lowering.specs.Arrays.{array, Array_operands}
use Rattle.lowering.specs.Knowns.{Scope, width, shapes, Operand}

-- a primitive on its data, the step with its operands, and the type of what it gives
pub data Deed_lowers (sc : Scope) : Primitive → List Source_atom → Deed → List (List Atom) → Shape → Type 0 where
  iota_lowers : {a : Source_atom} {t : IntType} {u : Atom} → Operand sc a (Scalar_shape (sort.Int t)) (u ∷ []) → Deed_lowers sc prim.Iota (a ∷ []) core.Iota ((u ∷ []) ∷ []) (array (Scalar_shape (sort.Int I64)))
  replicate_lowers : {a b : Source_atom} {t : IntType} {u : Atom} {h : Shape} {ws : List Atom} → Operand sc a (Scalar_shape (sort.Int t)) (u ∷ []) → Operand sc b h ws → Deed_lowers sc prim.Replicate (a ∷ b ∷ []) core.Replicate ((u ∷ []) ∷ ws ∷ []) (array h)
  rotate_lowers : {a b : Source_atom} {t : IntType} {u : Atom} {n : ℕ} {h : Shape} {ws : List Atom} → Operand sc a (Scalar_shape (sort.Int t)) (u ∷ []) → Operand sc b (Array_shape n h) ws → Deed_lowers sc prim.Rotate (a ∷ b ∷ []) core.Rotate ((u ∷ []) ∷ ws ∷ []) (array h)
  -- a view, which counts nothing
  reverse_lowers : {a : Source_atom} {n : ℕ} {h : Shape} {ws : List Atom} → Operand sc a (Array_shape n h) ws → Deed_lowers sc prim.Reverse (a ∷ []) (core.Index (width h) (part.Backwards ∷ [])) (ws ∷ [] ∷ []) (array h)
  copy_lowers : {a : Source_atom} {n : ℕ} {h : Shape} {ws : List Atom} → Operand sc a (Array_shape n h) ws → Deed_lowers sc prim.Copy (a ∷ []) core.Copy (ws ∷ []) (array h)
  zip_lowers : {a b : Source_atom} {h k : Shape} {rs : List Bundle} → Array_operands sc (a ∷ b ∷ []) (h ∷ k ∷ []) rs → Deed_lowers sc prim.Zip (a ∷ b ∷ []) (core.Zip (map (λ r. r.width) rs)) (map (λ r. r.arrays) rs) (array (Tuple_shape (shapes (h ∷ k ∷ []))))
  zip3_lowers : {a b c : Source_atom} {h k l : Shape} {rs : List Bundle} → Array_operands sc (a ∷ b ∷ c ∷ []) (h ∷ k ∷ l ∷ []) rs → Deed_lowers sc prim.Zip3 (a ∷ b ∷ c ∷ []) (core.Zip (map (λ r. r.width) rs)) (map (λ r. r.arrays) rs) (array (Tuple_shape (shapes (h ∷ k ∷ l ∷ []))))
  concat_lowers : {a b : Source_atom} {n m : ℕ} {h : Shape} {ws vs : List Atom} → Operand sc a (Array_shape n h) ws → Operand sc b (Array_shape m h) vs → Deed_lowers sc prim.Concat (a ∷ b ∷ []) core.Concat (ws ∷ vs ∷ []) (array h)
