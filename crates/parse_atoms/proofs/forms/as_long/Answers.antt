-- The test behind the sign.
use Rattle.std.proofs.Common.{sym, refl}
use Rattle.std.proofs.Math.Nat.{zero-max}
use Rattle.fut_grammar.specs.Phrases.{items}
use Rattle.fut_grammar.specs.Reading.{expect, has_at, parts_at, row_at, sub_at}
use Rattle.parse_types.proofs.ReadLaws.{fails_as, low_as}
use Rattle.parse_atoms.proofs.forms.as_long.Goals as goal

pub returns-in-Ok : goal.returns-in-Ok
unfolding row_at parts_at has_at expect sub_at items
returns-in-Ok g c = record { exact = rw (c.requires.first, sym c.rest_of.ensures, c.in-Ok.ensures.exact, zero-max c.in-Ok.test.height) (c.loop_made.ensures.exact _ c.while_loop.ensures); low = low_as c.loop_made.result c.loop_made.ensures.low c.in-Ok.ensures.low }

pub returns-in-Err : goal.returns-in-Err
unfolding row_at parts_at has_at expect sub_at items
returns-in-Err g c = record { exact = fails_as c.in-Err.stop c.in-Err.ensures.exact (λ f read. rw (c.requires.first, sym c.rest_of.ensures, read) refl); low = tt }
