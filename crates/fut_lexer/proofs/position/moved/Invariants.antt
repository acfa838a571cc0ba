use Rattle.std.proofs.Common.{◌≡◌, ◌-◌, drop, length}
use Rattle.fut_lexer.specs.Positions.{HasRoom, moved}
use Rattle.fut_lexer.proofs.position.moved.Given as goal

abbrev pub invariant-loop-c : goal.invariant-loop-c
invariant-loop-c l = (moved l.position (drop l.c-index l.chars) ≡ moved l.fn.position l.chars) × HasRoom l.position (length l.chars - l.c-index)
