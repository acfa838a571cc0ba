use Rattle.core_code.proofs.ScalarWords.{count_8, count_16, count_32, count_64, no_more}
use Rattle.core_code.proofs.scalars.count_of.Goals as goal

pub returns-in-I8-clause-value : goal.returns-in-I8-clause-value
returns-in-I8-clause-value c = rw c.in-I8.is (count_8 c.args.bits c.up_to.result (rw c.in-I8.is at c.requires) c.up_to.ensures.low c.up_to.ensures.high)

pub returns-in-I8-clause-fits : goal.returns-in-I8-clause-fits
returns-in-I8-clause-fits c = no_more c.args.bits c.up_to.result 0x80 _ c.requires c.up_to.ensures.low c.up_to.ensures.high

pub returns-in-I16-clause-value : goal.returns-in-I16-clause-value
returns-in-I16-clause-value c = rw c.in-I16.is (count_16 c.args.bits c.up_to-in-I16.result (rw c.in-I16.is at c.requires) c.up_to-in-I16.ensures.low c.up_to-in-I16.ensures.high)

pub returns-in-I16-clause-fits : goal.returns-in-I16-clause-fits
returns-in-I16-clause-fits c = no_more c.args.bits c.up_to-in-I16.result 0x8000 _ c.requires c.up_to-in-I16.ensures.low c.up_to-in-I16.ensures.high

pub returns-in-I32-clause-value : goal.returns-in-I32-clause-value
returns-in-I32-clause-value c = rw c.in-I32.is (count_32 c.args.bits c.up_to-in-I32.result (rw c.in-I32.is at c.requires) c.up_to-in-I32.ensures.low c.up_to-in-I32.ensures.high)

pub returns-in-I32-clause-fits : goal.returns-in-I32-clause-fits
returns-in-I32-clause-fits c = no_more c.args.bits c.up_to-in-I32.result 0x8000_0000 _ c.requires c.up_to-in-I32.ensures.low c.up_to-in-I32.ensures.high

pub returns-in-I64-clause-value : goal.returns-in-I64-clause-value
returns-in-I64-clause-value c = rw c.in-I64.is (count_64 c.args.bits c.up_to-in-I64.result (rw c.in-I64.is at c.requires) c.up_to-in-I64.ensures.low c.up_to-in-I64.ensures.high)

pub returns-in-I64-clause-fits : goal.returns-in-I64-clause-fits
returns-in-I64-clause-fits c = no_more c.args.bits c.up_to-in-I64.result 0x8000_0000_0000_0000 _ c.requires c.up_to-in-I64.ensures.low c.up_to-in-I64.ensures.high
