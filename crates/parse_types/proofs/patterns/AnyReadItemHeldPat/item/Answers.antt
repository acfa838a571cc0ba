-- The part is the pattern that was read.
use Rattle.fut_grammar.specs.Phrases.{phrases}
use Rattle.parse_types.proofs.patterns.AnyReadItemHeldPat.item.Goals as goal

pub returns-clause-exact : goal.returns-clause-exact
unfolding phrases
returns-clause-exact g c = c.part.ensures.exact _ c.whole.ensures.exact
