use Rattle.array_data.proofs.Sizing.{exact_8, exact_16, exact_32, exact_64, natural_same}
use Rattle.array_data.proofs.sizes.exact_bits.Goals as goal

pub returns-in-I8 : goal.returns-in-I8
returns-in-I8 c = rw c.in-I8.is (exact_8 c.args.bits c.two_sided.result (rw c.in-I8.is at c.requires) c.two_sided.ensures.low c.two_sided.ensures.high)

pub returns-in-I16 : goal.returns-in-I16
returns-in-I16 c = rw c.in-I16.is (exact_16 c.args.bits c.two_sided-in-I16.result (rw c.in-I16.is at c.requires) c.two_sided-in-I16.ensures.low c.two_sided-in-I16.ensures.high)

pub returns-in-I32 : goal.returns-in-I32
returns-in-I32 c = rw c.in-I32.is (exact_32 c.args.bits c.two_sided-in-I32.result (rw c.in-I32.is at c.requires) c.two_sided-in-I32.ensures.low c.two_sided-in-I32.ensures.high)

pub returns-in-I64 : goal.returns-in-I64
returns-in-I64 c = rw c.in-I64.is (exact_64 c.args.bits c.two_sided-in-I64.result (rw c.in-I64.is at c.requires) c.two_sided-in-I64.ensures.low c.two_sided-in-I64.ensures.high)

pub returns-in-U8 : goal.returns-in-U8
returns-in-U8 c = rw c.in-U8.is (natural_same c.args.bits)

pub returns-in-U16 : goal.returns-in-U16
returns-in-U16 c = rw c.in-U16.is (natural_same c.args.bits)

pub returns-in-U32 : goal.returns-in-U32
returns-in-U32 c = rw c.in-U32.is (natural_same c.args.bits)

pub returns-in-U64 : goal.returns-in-U64
returns-in-U64 c = rw c.in-U64.is (natural_same c.args.bits)
