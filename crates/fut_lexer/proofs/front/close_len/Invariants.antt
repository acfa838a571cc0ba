use Rattle.std.proofs.Common.{◌≡◌, ◌≤◌, drop}
use Rattle.fut_lexer.specs.Rules.{close_len}
use Rattle.fut_lexer.proofs.front.close_len.Given as goal

abbrev pub invariant-loop-c : goal.invariant-loop-c
invariant-loop-c l = (close_len l.seen l.depth (drop l.c-index l.text) ≡ close_len 0 0 l.text) × (l.seen ≡ l.c-index) × (l.depth ≤ l.c-index)
