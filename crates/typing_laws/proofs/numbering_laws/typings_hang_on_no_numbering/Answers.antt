use Rattle.typing_laws.proofs.NumberingPrograms.{typable_is_one, principal_is_one, typing_is_one}
use Rattle.typing_laws.proofs.Settled.{settled_is_one}
use Rattle.typing_laws.proofs.OneType.{one_type_is_one}
use Rattle.typing_laws.proofs.numbering_laws.typings_hang_on_no_numbering.Goals as goal

pub returns-clause-typable : goal.returns-clause-typable
returns-clause-typable c = typable_is_one

pub returns-clause-principal : goal.returns-clause-principal
returns-clause-principal c = principal_is_one

pub returns-clause-typing : goal.returns-clause-typing
returns-clause-typing c = typing_is_one

pub returns-clause-settled : goal.returns-clause-settled
returns-clause-settled c = settled_is_one

pub returns-clause-one : goal.returns-clause-one
returns-clause-one c = one_type_is_one
