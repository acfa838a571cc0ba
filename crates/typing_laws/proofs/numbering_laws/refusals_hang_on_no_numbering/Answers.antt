use Rattle.typing_laws.proofs.NumberingPrograms.{no_type_is_one, function_place_is_one, ambiguous_is_one}
use Rattle.typing_laws.proofs.numbering_laws.refusals_hang_on_no_numbering.Goals as goal

pub returns-clause-no_type : goal.returns-clause-no_type
returns-clause-no_type c = no_type_is_one

pub returns-clause-function_place : goal.returns-clause-function_place
returns-clause-function_place c = function_place_is_one

pub returns-clause-ambiguous : goal.returns-clause-ambiguous
returns-clause-ambiguous c = ambiguous_is_one
