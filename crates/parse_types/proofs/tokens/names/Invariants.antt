-- What is left to read gives the rest of the path.
use Rattle.std.proofs.Common.{◌≡◌, ◌-◌, length}
use Rattle.fut_grammar.specs.Reading.{names_at}
use Rattle.fut_tree.specs.Names.{names}
use Rattle.fut_grammar.proofs.Loops.{names_front}
use Rattle.parse_types.proofs.tokens.names.Given as goal

abbrev pub invariant-names : goal.invariant-names
invariant-names l = names_front (names l.made.items) (names_at (length l.tokens - l._turn) l.rest) ≡ names_at (length l.tokens) l.tokens
