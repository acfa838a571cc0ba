use Rattle.type_answers.proofs.Spelling.{apart}
use Rattle.type_answers.proofs.names_have_positions_of_their_own.Goals as goal

pub returns : goal.returns
returns c = apart
