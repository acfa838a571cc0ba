use Rattle.std.proofs.Common.{◌≡◌, length}
use Rattle.test_calls.proofs.words.SumOperatorCodeU64Words.scan.Given as goal

abbrev pub invariant-loop-k : goal.invariant-loop-k
invariant-loop-k l = length l.all.items ≡ l.k
