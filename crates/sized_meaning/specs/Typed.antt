-- What a typing tells of the operations on scalars: the scalar types of what they take and give.
use Rattle.std.specs.Prelude.{◌≡◌, Some, None}
use Rattle.fut_arithmetic.specs.Types.{result_type}
use Rattle.fut_scalar.specs.declared.operator.BinOp.{BinOp}
use Rattle.fut_scalar.specs.declared.operator.BinOp.TheVariants as op
use Rattle.fut_scalar.specs.declared.place.BindId.{BindId}
use Rattle.fut_scalar.specs.declared.scalar.IntType.{IntType}
use Rattle.fut_scalar.specs.declared.scalar.ScalarType.{ScalarType}
use Rattle.fut_scalar.specs.declared.scalar.ScalarType.TheVariants as scalar
use Rattle.fut_flat.specs.declared.prim.Ref.{Ref}
use Rattle.fut_flat.specs.Terms.{Operation, Integer, Truth, Binary, Negate, Complement, Assert}
use Rattle.fut_types.specs.Types.{Ty, Tys, none, more, scalar_ty}

-- `==` and `!=` take any data
abbrev pub Operand : BinOp → ScalarType → Ty → Type 0
Operand op.Eq c t = Unit {0}
Operand op.Ne c t = Unit {0}
Operand o c t = t ≡ scalar_ty c

-- of an operation on scalars: the type of its result and those of its parts, where an integer without a suffix is of type i
abbrev pub Scalar_rule : IntType → Operation Ref BindId → Ty → Tys → Type 0
Scalar_rule i (Integer n None) t none = t ≡ scalar_ty (scalar.Int i)
Scalar_rule i (Integer n (Some j)) t none = t ≡ scalar_ty (scalar.Int j)
Scalar_rule i (Truth b) t none = t ≡ scalar_ty scalar.Bool
Scalar_rule i (Binary o) t (more x (more y none)) = (c : ScalarType) × (t ≡ scalar_ty (result_type o c)) × Operand o c x
Scalar_rule i Negate t (more x none) = (c : ScalarType) × (t ≡ scalar_ty c) × (x ≡ scalar_ty c)
Scalar_rule i Complement t (more x none) = (c : ScalarType) × (t ≡ scalar_ty c) × (x ≡ scalar_ty c)
Scalar_rule i Assert t (more x none) = (t ≡ scalar_ty scalar.Bool) × (x ≡ scalar_ty scalar.Bool)
Scalar_rule i o t ts = ⊥
