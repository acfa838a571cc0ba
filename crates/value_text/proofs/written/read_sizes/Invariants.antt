use Rattle.std.proofs.Common.{◌≡◌, ◌+◌, ◌-◌, ◌≤◌, length}
use Rattle.std.specs.Prelude.{IfSome}
use Rattle.value_text.proofs.WrittenSizes.{Going}
use Rattle.value_text.proofs.written.read_sizes.Given as goal

abbrev pub invariant-loop-turn : goal.invariant-loop-turn
invariant-loop-turn l = record {
  within : l.end + length l.rest ≡ length l.text;
  place : IfSome l.beyond (λ at. at ≤ length l.text);
  going : Going l.text l.initial.sizes l.sizes l.beyond (length l.text - l.turn) l.end l.rest;
}
