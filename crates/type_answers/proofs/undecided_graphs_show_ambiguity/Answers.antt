use Rattle.type_answers.proofs.Programs.{shows_ambiguous}
use Rattle.type_answers.proofs.undecided_graphs_show_ambiguity.Goals as goal

pub returns : goal.returns
returns c = shows_ambiguous
