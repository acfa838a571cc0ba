use Rattle.std.proofs.Common.{◌≡◌, ◌+◌, drop, length}
use Rattle.value_text.specs.Arguments.{values_on}
use Rattle.value_text.proofs.ArgumentValues.{behind_front}
use Rattle.value_text.proofs.arguments.read_values.Given as goal

abbrev pub invariant-loop-at : goal.invariant-loop-at
invariant-loop-at l = record {
  within : l.position + length l.rest ≡ length l.text;
  same : behind_front l.values (values_on (drop l.at l.types) (l.at + 1) l.position l.rest) ≡ values_on l.types 1 0 l.text;
}
