use Rattle.lowering.proofs.Programs.{adds_no_outcome, fitted_adds_no_outcome}
use Rattle.lowering.proofs.laws.lowering_adds_no_outcome.Goals as goal

pub returns-clause-adds_nothing : goal.returns-clause-adds_nothing
returns-clause-adds_nothing c = adds_no_outcome

pub returns-clause-fitted : goal.returns-clause-fitted
returns-clause-fitted c = fitted_adds_no_outcome
