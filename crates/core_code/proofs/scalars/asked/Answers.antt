use Rattle.core_code.proofs.ScalarWords.{asked_8, asked_16, asked_32, asked_64}
use Rattle.core_code.proofs.scalars.asked.Goals as goal

pub returns-in-I8 : goal.returns-in-I8
returns-in-I8 c = rw c.in-I8.is (asked_8 c.args.bits c.below.result (rw c.in-I8.is at c.requires) c.below.ensures.low c.below.ensures.high)

pub returns-in-I16 : goal.returns-in-I16
returns-in-I16 c = rw c.in-I16.is (asked_16 c.args.bits c.below-in-I16.result (rw c.in-I16.is at c.requires) c.below-in-I16.ensures.low c.below-in-I16.ensures.high)

pub returns-in-I32 : goal.returns-in-I32
returns-in-I32 c = rw c.in-I32.is (asked_32 c.args.bits c.below-in-I32.result (rw c.in-I32.is at c.requires) c.below-in-I32.ensures.low c.below-in-I32.ensures.high)

pub returns-in-I64 : goal.returns-in-I64
returns-in-I64 c = rw c.in-I64.is (asked_64 c.args.bits c.below-in-I64.result (rw c.in-I64.is at c.requires) c.below-in-I64.ensures.low c.below-in-I64.ensures.high)
