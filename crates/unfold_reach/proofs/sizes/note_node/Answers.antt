use Rattle.unfold_reach.proofs.SizeForms.{node_none}
use Rattle.unfold_reach.proofs.sizes.note_node.Goals as goal

pub returns-in-None : goal.returns-in-None
returns-in-None c = node_none _ _ c.in-None.is
