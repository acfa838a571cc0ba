-- A colon and what stands behind it, or nothing.
use Rattle.std.proofs.Common.{sym, ◌∙◌, refl}
use Rattle.fut_grammar.specs.Reading.{upto_at}
use Rattle.parse_types.proofs.ReadLaws.{fails_as}
use Rattle.parse_atoms.proofs.indices.up_to.Goals as goal

pub returns-then-not-starts_with : goal.returns-then-not-starts_with
unfolding upto_at
returns-then-not-starts_with g c = record { exact = rw (sym c.starts_with.ensures ∙ c.if-not-starts_with.true) refl; low = c.requires.room.1 }

pub returns-in-Err : goal.returns-in-Err
unfolding upto_at
returns-in-Err g c = record { exact = fails_as c.in-Err.stop c.in-Err.ensures.exact (λ f read. rw (sym c.starts_with.ensures ∙ c.if-not-starts_with.false, sym c.rest_of.ensures, read) refl); low = tt }

pub returns : goal.returns
unfolding upto_at
returns g c = record { exact = rw (sym c.starts_with.ensures ∙ c.if-not-starts_with.false, sym c.rest_of.ensures, c.in-Ok.ensures.exact, sym c.next_spot-colon.ensures) refl; low = c.in-Ok.ensures.low }
