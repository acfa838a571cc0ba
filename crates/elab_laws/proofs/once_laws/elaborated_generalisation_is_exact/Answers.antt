use Rattle.elab_laws.proofs.Alone.{elaborated_is_exact, elaborated_local_is_exact}
use Rattle.elab_laws.proofs.once_laws.elaborated_generalisation_is_exact.Goals as goal

pub returns-clause-definition : goal.returns-clause-definition
returns-clause-definition c = elaborated_is_exact

pub returns-clause-local : goal.returns-clause-local
returns-clause-local c = elaborated_local_is_exact
