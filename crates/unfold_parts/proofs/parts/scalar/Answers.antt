use Rattle.unfold_parts.proofs.Parting.{scalar_ok, scalar_none}
use Rattle.unfold_parts.proofs.parts.scalar.Goals as goal

pub returns-in-Scalar : goal.returns-in-Scalar
returns-in-Scalar c = scalar_ok _ _ c.in-Scalar.is

pub returns-in_default : goal.returns-in_default
returns-in_default c = scalar_none _ c.in_default.not-Scalar
