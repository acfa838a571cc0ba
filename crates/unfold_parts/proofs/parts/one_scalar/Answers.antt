use Rattle.std.proofs.Common.{arith}
use Rattle.unfold_parts.proofs.Parting.{one_scalar_is, one_scalar_many}
use Rattle.unfold_parts.proofs.parts.one_scalar.Goals as goal

pub returns-then-parts-ne1 : goal.returns-then-parts-ne1
returns-then-parts-ne1 c = one_scalar_many _ c.if-parts-ne1.true

pub returns : goal.returns
returns c = one_scalar_is _ _ _ (omega (arith, c.if-parts-ne1.false)) c.scalar.ensures
