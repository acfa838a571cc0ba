use Rattle.type_answers.proofs.Settled.{law}
use Rattle.type_answers.proofs.settled_types_are_those_of_a_principal_typing.Goals as goal

pub returns : goal.returns
returns c = law
