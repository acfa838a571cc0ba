use Rattle.std.proofs.Common.{◌≡◌, ◌-◌, ◌≤◌, length}
use Rattle.test_calls.proofs.words.GeneratorRangeCodeU64Words.run_range.Given as goal

abbrev pub invariant-loop-element : goal.invariant-loop-element
invariant-loop-element l = record { low : l.lo ≤ l.element; long : length l.words.items ≡ l.element - l.lo }
