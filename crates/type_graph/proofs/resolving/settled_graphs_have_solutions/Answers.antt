use Rattle.type_graph.proofs.Filling.{filled}
use Rattle.type_graph.proofs.resolving.settled_graphs_have_solutions.Goals as goal

pub returns : goal.returns
returns c = filled
