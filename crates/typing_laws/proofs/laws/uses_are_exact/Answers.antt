use Rattle.typing_laws.proofs.Renamed.{uses_are_exact}
use Rattle.typing_laws.proofs.Locals.{local_uses_are_exact}
use Rattle.typing_laws.proofs.laws.uses_are_exact.Goals as goal

pub returns-clause-definition : goal.returns-clause-definition
returns-clause-definition c = uses_are_exact

pub returns-clause-local : goal.returns-clause-local
returns-clause-local c = local_uses_are_exact
