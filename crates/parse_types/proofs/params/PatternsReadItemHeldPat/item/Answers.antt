-- The part is the pattern that was read.
use Rattle.fut_grammar.specs.Phrases.{phrases}
use Rattle.parse_types.proofs.params.PatternsReadItemHeldPat.item.Goals as goal

pub returns-clause-exact : goal.returns-clause-exact
unfolding phrases
returns-clause-exact c = c.part.ensures.exact _ c.atomic_pattern.ensures.exact
