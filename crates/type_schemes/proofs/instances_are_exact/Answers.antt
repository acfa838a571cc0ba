use Rattle.type_schemes.proofs.Laws.{law}
use Rattle.type_schemes.proofs.instances_are_exact.Goals as goal

pub returns : goal.returns
returns c = law
