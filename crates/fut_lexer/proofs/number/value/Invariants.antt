use Rattle.std.proofs.Common.{◌≡◌, drop}
use Rattle.fut_lexer.specs.Numbers.{value, value_on}
use Rattle.fut_lexer.proofs.number.value.Given as goal

abbrev pub invariant-loop-c : goal.invariant-loop-c
invariant-loop-c l = value_on l.base l.n (drop l.c-index l.digits) ≡ value l.base l.digits
