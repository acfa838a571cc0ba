use Rattle.std.proofs.Common.{◌≡◌, ◌+◌, ◌-◌, length}
use Rattle.value_text.specs.Empties.{dimensions, dimensions_up_to, shift}
use Rattle.value_text.proofs.empties.dimensions.Given as goal

abbrev pub invariant-loop-turn : goal.invariant-loop-turn
invariant-loop-turn l = record {
  within : l.length + length l.rest ≡ length l.text;
  same : shift l.length (dimensions_up_to (length l.text - l.turn) l.rest) ≡ dimensions l.text;
}
