use Rattle.std.proofs.Common.{arith}
use Rattle.fut_meaning.specs.Outcomes.{Val, Fail}
use Rattle.test_calls.proofs.Anything.{any_of}
use Rattle.test_calls.proofs.words.SumOperatorCodeU64Words.fold.Goals as goal

pub returns-in_default : goal.returns-in_default
returns-in_default c = (0, any_of 0 c.args.words.now.words.items (Fail c.report.result) c.requires)

pub returns : goal.returns
returns c = (c.loop-word.sum, c.in_ok-words.ensures, 0, omega arith, any_of 0 c.args.words.now.words.items (Val c.loop-word.sum) c.requires)
