use Rattle.std.proofs.Common.{arith}
use Rattle.unfold_parts.proofs.Operated.{both_is, both_many}
use Rattle.unfold_parts.proofs.operations.both_equal.Goals as goal

pub returns-then-parts-ne2 : goal.returns-then-parts-ne2
returns-then-parts-ne2 c = both_many _ _ _ _ _ _ c.if-parts-ne2.true

pub returns : goal.returns
returns c = both_is _ _ _ _ _ _ _ _ _ (omega (arith, c.if-parts-ne2.false)) c.equal.ensures
