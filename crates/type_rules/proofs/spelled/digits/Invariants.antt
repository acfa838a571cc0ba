use Rattle.std.proofs.Common.{◌↔◌, ◌≤◌, ◌-◌, ℕ, length, drop}
use Rattle.fut_typing.specs.Names.{Digits}
use Rattle.type_rules.proofs.spelled.digits.Given as goal

abbrev pub invariant-loop-at : goal.invariant-loop-at
invariant-loop-at l = record {
  so_far : (m : ℕ) → Digits 0 l.bytes m ↔ Digits l.value (drop l.at l.bytes) m;
  within : l.at ≤ length l.bytes;
}

abbrev pub decreases-loop-at : goal.decreases-loop-at
decreases-loop-at l = length l.bytes - l.at
