use Rattle.type_answers.proofs.Programs.{gives_typing}
use Rattle.type_answers.proofs.decided_graphs_give_typings.Goals as goal

pub returns : goal.returns
returns c = gives_typing
