use Rattle.elab_nodes.specs.Built.{stops1}
use Rattle.elab_nodes.proofs.Parts.{composed_made}
use Rattle.elab_nodes.proofs.rows.composed.Goals as goal

pub returns-in-Ok : goal.returns-in-Ok
returns-in-Ok c = rw c.in-Ok.is (composed_made c.args.at c.args.left_first c.in-Ok.of _ _ _ _ _ _ c.in_order-body.ensures c.of_name-body.ensures c.named_value-left.ensures c.named_value-right.ensures c.held_rows.ensures c.rowed.ensures)

pub returns-in-Err : goal.returns-in-Err
returns-in-Err c = rw c.in-Err.is stops1
