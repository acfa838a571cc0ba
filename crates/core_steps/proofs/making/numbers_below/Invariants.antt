use Rattle.std.proofs.Common.{◌≡◌}
use Rattle.fut_meaning.specs.Meaning.{counts}
use Rattle.core_steps.proofs.making.numbers_below.Given as goal

abbrev pub invariant-loop-i : goal.invariant-loop-i
invariant-loop-i l = l.numbers ≡ counts l.i 0
