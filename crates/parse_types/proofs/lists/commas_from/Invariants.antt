-- What is left to read gives the rest of the phrases.
use Rattle.std.proofs.Common.{◌≡◌, ◌-◌, ◌≤◌, length, map}
use Rattle.fut_grammar.specs.Reading.{commas_at}
use Rattle.fut_grammar.specs.Phrases.{phrases, read_at}
use Rattle.fut_grammar.proofs.Loops.{with_front}
use Rattle.parse_types.proofs.lists.commas_from.Given as goal

abbrev pub invariant-items : goal.invariant-items
invariant-items g l = (with_front (map g.R.ReadItem.seen l.made.items) (commas_at (phrases (read_at l.inner)) (length l.tokens - l._turn) g.R.ReadItem.sort l.height l.rest) ≡ commas_at (phrases (read_at l.inner)) (length l.tokens) g.R.ReadItem.sort l.first_height l.tokens) × (l.height ≤ l.inner)
