use Rattle.unfold_measure.proofs.Stepping.{counted_test, over_test, while_test}
use Rattle.unfold_measure.proofs.steps.test_of.Goals as goal

pub returns-in-For : goal.returns-in-For
returns-in-For c = counted_test _ _ _ c.in-For.is

pub returns-in-ForIn : goal.returns-in-ForIn
returns-in-ForIn c = over_test _ _ _ c.in-ForIn.is

pub returns-in-While : goal.returns-in-While
returns-in-While c = while_test _ _ c.in-While.is
