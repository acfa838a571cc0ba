use Rattle.std.proofs.Common.{ap, sym}
use Rattle.unfold.proofs.Mirror.{known_scalar}
use Rattle.unfold_program.specs.Answers.{is_component}
use Rattle.unfold_program.proofs.Growing.{no_component}
use Rattle.unfold_program.proofs.give.is_component.Goals as goal

pub returns-in-Scalar : goal.returns-in-Scalar
returns-in-Scalar c = sym (ap is_component (known_scalar _ _ c.in-Scalar.is))

pub returns-in_default : goal.returns-in_default
returns-in_default c = sym (no_component _ c.in_default.not-Scalar)
