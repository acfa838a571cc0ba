use Rattle.elab_nodes.proofs.Parts.{twice_made}
use Rattle.elab_nodes.proofs.rows.both_applied.Goals as goal

pub returns : goal.returns
returns c = twice_made _ _ _ _ _ _ _ _ _ c.applied.ensures c.applied-given.ensures c.used-3.ensures c.used.ensures c.used-2.ensures
