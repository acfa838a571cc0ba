use Rattle.typing_laws.proofs.Written.{written_is_exact}
use Rattle.typing_laws.proofs.WrittenLocals.{local_written_is_exact}
use Rattle.typing_laws.proofs.laws.written_generalisation_is_exact.Goals as goal

pub returns-clause-definition : goal.returns-clause-definition
returns-clause-definition c = written_is_exact

pub returns-clause-local : goal.returns-clause-local
returns-clause-local c = local_written_is_exact
