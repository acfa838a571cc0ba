-- Two symbols around the phrases.
use Rattle.std.proofs.Common.{sym, map, length, refl, ◌∙◌}
use Rattle.fut_grammar.specs.Phrases.{phrases, read_at}
use Rattle.fut_grammar.specs.Reading.{commas_at}
use Rattle.parse_types.proofs.ReadLaws.{before_as, before_low}
use Rattle.parse_types.proofs.lists.enclosed.Goals as goal

pub returns-then-not-starts_with-clause-exact : goal.returns-then-not-starts_with-clause-exact
returns-then-not-starts_with-clause-exact g c = rw (sym c.starts_with.ensures ∙ c.if-not-starts_with.true, c.refused.ensures) refl

pub returns-then-starts_with-clause-exact : goal.returns-then-starts_with-clause-exact
returns-then-starts_with-clause-exact g c =
    rw (sym c.starts_with.ensures ∙ c.if-not-starts_with.false, sym c.rest_of-behind.ensures, sym c.starts_with-2.ensures ∙ c.if-starts_with.true, sym c.rest_of.ensures) refl

pub returns-clause-exact : goal.returns-clause-exact
returns-clause-exact g c =
    rw (sym c.starts_with.ensures ∙ c.if-not-starts_with.false, sym c.rest_of-behind.ensures, sym c.starts_with-2.ensures ∙ c.if-starts_with.false) (before_as (λ t. map g.R.ReadItem.seen t.now) c.args.closing c.commas_from.result c.closed_by.result (commas_at (phrases (read_at c.args.inner)) (length c.rest_of-behind.result.now) g.R.ReadItem.sort 0 c.rest_of-behind.result.now) c.closed_by.ensures c.commas_from.ensures.exact)

pub returns-clause-low : goal.returns-clause-low
returns-clause-low g c = before_low c.args.closing c.commas_from.result c.closed_by.result c.args.inner c.closed_by.ensures c.commas_from.ensures.low
