-- The type behind the colon.
use Rattle.std.proofs.Common.{sym, refl, ◌∙◌}
use Rattle.fut_grammar.specs.Phrases.{items}
use Rattle.fut_grammar.specs.Reading.{maybe_at}
use Rattle.parse_types.proofs.ReadLaws.{fails_as}
use Rattle.parse_types.proofs.params.maybe_type_inside.Goals as goal

pub returns-in-Ok-clause-exact : goal.returns-in-Ok-clause-exact
unfolding maybe_at items
returns-in-Ok-clause-exact c =
    rw (sym c.starts_with.ensures ∙ c.if-not-starts_with.false, sym c.rest_of.ensures, c.in-Ok.ensures.exact, sym c.greater.ensures) refl

pub returns-in-Err-clause-exact : goal.returns-in-Err-clause-exact
unfolding maybe_at items
returns-in-Err-clause-exact c =
    fails_as c.in-Err.stop c.in-Err.ensures.exact (λ f read. rw (sym c.starts_with.ensures ∙ c.if-not-starts_with.false, sym c.rest_of.ensures, read) refl)

pub returns-then-not-starts_with-clause-exact : goal.returns-then-not-starts_with-clause-exact
unfolding maybe_at items
returns-then-not-starts_with-clause-exact c = rw (sym c.starts_with.ensures ∙ c.if-not-starts_with.true) refl
