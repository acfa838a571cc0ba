use Rattle.type_answers.proofs.Typings.{closed_law}
use Rattle.type_answers.proofs.decided_types_are_closed.Goals as goal

pub returns : goal.returns
returns c = closed_law
