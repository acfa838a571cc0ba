-- The function that was handed over reads as its law says.
use Rattle.parse_types.proofs.patterns.RefReadPat.whole.Goals as goal

pub returns-clause-exact : goal.returns-clause-exact
returns-clause-exact g c = (c.requires.law.1 c.args.tokens c.self.result c.self.ensures).0

pub returns-clause-low : goal.returns-clause-low
returns-clause-low g c = (c.requires.law.1 c.args.tokens c.self.result c.self.ensures).1
