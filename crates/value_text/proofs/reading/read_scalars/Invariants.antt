use Rattle.std.proofs.Common.{◌≡◌, ◌+◌, All, drop, take, length, map}
use Rattle.fut_scalar.specs.Integers.{FitsType}
use Rattle.fut_arithmetic.specs.Types.{type_of}
use Rattle.value_text.specs.Reading.{values_on}
use Rattle.value_text.proofs.Values.{behind_front}
use Rattle.value_text.proofs.reading.read_scalars.Given as goal

abbrev pub invariant-loop-param : goal.invariant-loop-param
invariant-loop-param l = record {
  within : l.position + length l.rest ≡ length l.initial.rest;
  same : behind_front l.values (values_on (drop l.param l.types) (l.param + 1) l.position l.rest) ≡ values_on l.types 1 0 l.text;
  typed : map type_of l.values ≡ take l.param l.types;
  fit : All FitsType l.values;
}
