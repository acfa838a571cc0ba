use Rattle.std.proofs.Common.{arith}
use Rattle.typed_programs.proofs.Ordering.{one_below}
use Rattle.typed_programs.proofs.ordered.are_below.Goals as goal

pub loop-at-preserved : goal.loop-at-preserved
loop-at-preserved c = record { within = omega (arith, c.loop-at-test.true); below = one_below c.args.labels.now c.args.many c.loop-at.at _ c.loop-at-test.true c.loop-at.invariant.below c.if-labels-at.false }
