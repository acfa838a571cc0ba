use Rattle.elab_laws.proofs.Deeper.{declared_is_elaborated, deeper_is_same, files_come_to_one}
use Rattle.elab_laws.proofs.files_come_to_one_answer.Goals as goal

pub returns-clause-deeper : goal.returns-clause-deeper
returns-clause-deeper c = deeper_is_same

pub returns-clause-one : goal.returns-clause-one
returns-clause-one c = files_come_to_one

pub returns-clause-declared : goal.returns-clause-declared
returns-clause-declared c = declared_is_elaborated
