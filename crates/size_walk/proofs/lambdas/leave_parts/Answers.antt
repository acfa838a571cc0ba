use Rattle.size_walk.proofs.LeavingForms.{part_named}
use Rattle.size_walk.proofs.lambdas.leave_parts.Goals as goal

pub returns-then-has : goal.returns-then-has
returns-then-has c = part_named _ _ _ _ _ c.loop-parameter.invariant _ c.loop-parameter-test.true c.has.result c.has.ensures c.if-has.true
