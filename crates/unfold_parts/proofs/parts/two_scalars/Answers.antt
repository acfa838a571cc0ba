use Rattle.std.proofs.Common.{arith}
use Rattle.unfold_parts.proofs.Parting.{two_scalars_ok, two_scalars_many, two_scalars_first, two_scalars_second}
use Rattle.unfold_parts.proofs.parts.two_scalars.Goals as goal

pub returns-then-parts-ne2 : goal.returns-then-parts-ne2
returns-then-parts-ne2 c = two_scalars_many _ c.if-parts-ne2.true

pub returns-in-Some-scalar : goal.returns-in-Some-scalar
returns-in-Some-scalar c = two_scalars_ok _ _ _ _ (omega (arith, c.if-parts-ne2.false)) c.in-Some.ensures c.in-Some-scalar.ensures

pub returns-in-None-scalar : goal.returns-in-None-scalar
returns-in-None-scalar c = two_scalars_second _ _ (omega (arith, c.if-parts-ne2.false)) c.in-None-scalar.ensures

pub returns-in-None : goal.returns-in-None
returns-in-None c = two_scalars_first _ _ (omega (arith, c.if-parts-ne2.false)) c.in-None.ensures
