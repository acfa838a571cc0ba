use Rattle.size_operations.proofs.ElementForms.{integer_scalar}
use Rattle.size_operations.proofs.elements.is_i64.Goals as goal

pub returns-in-Scalar : goal.returns-in-Scalar
returns-in-Scalar c = integer_scalar c.args.ty.now _ c.in-Made.head _ c.in-Made.is c.in-Scalar.scalar c.is_i64_scalar.result c.in-Scalar.is c.is_i64_scalar.ensures
