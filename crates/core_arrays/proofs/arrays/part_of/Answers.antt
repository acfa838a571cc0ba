use Rattle.std.proofs.Common.{arith}
use Rattle.core_arrays.proofs.Finding.{of_own, of_part}
use Rattle.core_arrays.proofs.arrays.part_of.Goals as goal

pub returns-in-Own : goal.returns-in-Own
returns-in-Own c = of_own c.args.wholes.now c.args.at c.in_ok-whole.whole.now c.in-Own.field-0 c.args.from c.args.count c.in_ok-whole.ensures c.in-Own.is

pub returns-in_ok-from-in-Part : goal.returns-in_ok-from-in-Part
returns-in_ok-from-in-Part c =
    of_part c.args.wholes.now c.args.at c.in_ok-whole.whole.now c.in-Part.owner c.in-Part.base c.in-Part.all c.args.from c.in_ok-from-in-Part.from c.args.count c.in_ok-whole.ensures c.in-Part.is
    (omega (arith, c.if-owner-at.false)) (omega (arith, c.if-from-all.false)) (omega (arith, c.if-count-all.false, c.if-from-all.false)) (omega (arith, c.in_ok-from-in-Part.ensures.1))
