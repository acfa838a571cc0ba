use Rattle.type_graph.proofs.Rereading.{reread}
use Rattle.type_graph.proofs.resolving.parameters_may_be_read_otherwise.Goals as goal

pub returns : goal.returns
returns c = reread
