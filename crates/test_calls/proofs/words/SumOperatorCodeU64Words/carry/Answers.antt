use Rattle.std.proofs.Common.{rules, arith}
use Rattle.test_calls.proofs.Anything.{any_carried, any_carry_fails}
use Rattle.test_calls.proofs.words.SumOperatorCodeU64Words.carry.Goals as goal

pub returns-in_default : goal.returns-in_default
returns-in_default c = λ z e. any_carry_fails z c.args.words.now.words.items c.report.result (search rules)

pub returns : goal.returns
returns c = λ z e. (0, omega arith, any_carried z c.args.words.now.words.items c.loop-k.all.items (search rules))
