use Rattle.elab_nodes.proofs.Parts.{asserted_made}
use Rattle.elab_nodes.proofs.rows.asserted.Goals as goal

pub returns : goal.returns
returns c = asserted_made _ _ _ _ _ c.asked.ensures c.rowed.ensures
