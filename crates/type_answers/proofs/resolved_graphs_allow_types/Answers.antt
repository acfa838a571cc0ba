use Rattle.type_answers.proofs.Typings.{some_law}
use Rattle.type_answers.proofs.resolved_graphs_allow_types.Goals as goal

pub returns : goal.returns
returns c = some_law
