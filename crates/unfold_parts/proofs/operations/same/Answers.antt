use Rattle.std.proofs.Common.{arith}
use Rattle.unfold_parts.proofs.Operated.{same_one, same_many}
use Rattle.unfold_parts.proofs.operations.same.Goals as goal

pub returns-then-parts-ne1 : goal.returns-then-parts-ne1
returns-then-parts-ne1 c = same_many _ c.if-parts-ne1.true

pub returns : goal.returns
returns c = same_one _ _ (omega (arith, c.if-parts-ne1.false))
