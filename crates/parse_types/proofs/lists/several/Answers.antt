-- The first phrase, and those behind it.
use Rattle.std.proofs.Common.{sym, refl}
use Rattle.fut_grammar.specs.Reading.{several_at}
use Rattle.parse_types.proofs.ReadLaws.{fails_as}
use Rattle.parse_types.proofs.lists.several.Goals as goal

pub returns-in-Ok-led_by-clause-exact : goal.returns-in-Ok-led_by-clause-exact
unfolding several_at
returns-in-Ok-led_by-clause-exact g c =
    rw (c.in-Ok.ensures.exact, sym c.greater-height.ensures, c.in-Ok-many.ensures.exact, c.in-Ok-led_by.ensures) refl

pub returns-in-Err-many-clause-exact : goal.returns-in-Err-many-clause-exact
unfolding several_at
returns-in-Err-many-clause-exact g c =
    fails_as c.in-Err-many.stop c.in-Err-many.ensures.exact (λ f read. rw (c.in-Ok.ensures.exact, sym c.greater-height.ensures, read) refl)

pub returns-in-Err-clause-exact : goal.returns-in-Err-clause-exact
unfolding several_at
returns-in-Err-clause-exact g c = fails_as c.in-Err.stop c.in-Err.ensures.exact (λ f read. rw read refl)
