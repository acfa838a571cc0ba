use Rattle.std.proofs.Common.{◌≡◌, ◌+◌, drop}
use Rattle.value_text.specs.Numbers.{number_on}
use Rattle.value_text.proofs.numbers.value_of.Given as goal

abbrev pub invariant-loop-digit : goal.invariant-loop-digit
invariant-loop-digit l = record {
  counted : l.at ≡ l.position + l.digit-index;
  same : number_on l.base l.value l.at (drop l.digit-index l.digits) ≡ number_on l.base 0 l.position l.digits;
}
