use Rattle.std.proofs.Common.{rules, arith}
use Rattle.test_calls.proofs.Anything.{any_fault, any_range}
use Rattle.test_calls.proofs.words.GeneratorRangeCodeU64Words.run_range.Goals as goal

pub returns-then-self-hi : goal.returns-then-self-hi
returns-then-self-hi c = any_fault c.args.lo c.args.hi c.fault.result 0 c.args.self.now.first c.fault.ensures (omega arith) (search rules) (search rules)

pub returns-then-self-hi-2 : goal.returns-then-self-hi-2
returns-then-self-hi-2 c = any_fault c.args.lo c.args.hi c.fault-then-self-hi-2.result 1 c.args.self.now.second c.fault-then-self-hi-2.ensures (omega arith) (search rules) (search rules)

pub returns : goal.returns
returns c = any_range c.args.lo c.args.hi c.loop-element.words.items (search rules)
