use Rattle.unfold.proofs.Mirror.{known_scalar}
use Rattle.unfold_parts.specs.Refused.{lost}
use Rattle.unfold_parts.proofs.Forms.{form_no_scalar}
use Rattle.unfold_program.specs.Answers.{scalar_to, no_scalar}
use Rattle.unfold_program.proofs.enter.scalar_of.Goals as goal

pub returns-in-Scalar : goal.returns-in-Scalar
returns-in-Scalar c = scalar_to (known_scalar _ _ c.in-Scalar.is)

pub returns-in_default : goal.returns-in_default
returns-in_default c = no_scalar (lost (form_no_scalar _ c.in_default.not-Scalar))
