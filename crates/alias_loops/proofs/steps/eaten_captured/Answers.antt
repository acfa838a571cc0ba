use Rattle.alias_loops.proofs.StepForms.{eaten_so}
use Rattle.alias_loops.proofs.steps.eaten_captured.Goals as goal

pub returns-then-one : goal.returns-then-one
returns-then-one c = λ scope. eaten_so _ _ _ c.if-one.true (c.captured.ensures scope)
