-- The part is the type that was read.
use Rattle.fut_grammar.specs.Phrases.{phrases}
use Rattle.parse_types.proofs.types.AnyReadItemHeldTypeExp.item.Goals as goal

pub returns-clause-exact : goal.returns-clause-exact
unfolding phrases
returns-clause-exact g c = c.part.ensures.exact _ c.read.ensures.0

pub returns-clause-low : goal.returns-clause-low
returns-clause-low g c = c.part.ensures.low _ c.read.ensures.1
