-- The function that was handed over reads as its law says.
use Rattle.parse_types.proofs.types.RefReadType.read.Goals as goal

pub returns : goal.returns
returns g c = c.requires.law.1 c.args.sort c.args.tokens c.self.result c.self.ensures
