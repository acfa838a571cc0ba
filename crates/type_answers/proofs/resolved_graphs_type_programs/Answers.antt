use Rattle.type_answers.proofs.Programs.{types_it}
use Rattle.type_answers.proofs.resolved_graphs_type_programs.Goals as goal

pub returns : goal.returns
returns c = types_it
