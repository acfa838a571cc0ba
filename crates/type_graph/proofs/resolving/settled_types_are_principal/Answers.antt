use Rattle.type_graph.proofs.Resolution.{laws}
use Rattle.type_graph.proofs.resolving.settled_types_are_principal.Goals as goal

pub returns : goal.returns
returns c = laws
