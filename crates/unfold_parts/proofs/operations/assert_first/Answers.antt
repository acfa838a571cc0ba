use Rattle.std.proofs.Common.{arith}
use Rattle.unfold_parts.proofs.Operated.{assert_many, assert_none, assert_err}
use Rattle.unfold_parts.proofs.operations.assert_first.Goals as goal

pub returns-then-parts-ne1 : goal.returns-then-parts-ne1
returns-then-parts-ne1 c = assert_many _ _ _ _ _ _ _ c.if-parts-ne1.true

pub returns-in-Err : goal.returns-in-Err
returns-in-Err c = assert_err _ _ _ _ _ _ _ _ c.in-Err.ensures.steps

pub returns-in-None : goal.returns-in-None
returns-in-None c = assert_none _ _ _ _ _ _ _ _ (omega (arith, c.if-parts-ne1.false)) c.in-None.ensures
