use Rattle.type_schemes.proofs.UseLaws.{law}
use Rattle.type_schemes.proofs.uses.definitions_are_generalised.Goals as goal

pub returns : goal.returns
returns c = law
