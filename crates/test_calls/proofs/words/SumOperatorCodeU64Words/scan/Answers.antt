use Rattle.std.proofs.Common.{rules, [], arith}
use Rattle.test_calls.proofs.Anything.{any_scanned, any_scan_fails}
use Rattle.test_calls.proofs.words.SumOperatorCodeU64Words.scan.Goals as goal

pub returns-in_default : goal.returns-in_default
returns-in_default c = any_scan_fails 0 c.args.words.now.words.items c.report.result c.requires

pub returns : goal.returns
returns c = (0, omega arith, any_scanned 0 [] c.args.words.now.words.items c.loop-k.all.items (search rules))
