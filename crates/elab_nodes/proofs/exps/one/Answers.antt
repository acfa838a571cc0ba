use Rattle.elab_nodes.specs.Built.{stops1}
use Rattle.elab_nodes.proofs.Joined.{one_then}
use Rattle.elab_nodes.proofs.exps.one.Goals as goal

pub returns-in-Ok : goal.returns-in-Ok
returns-in-Ok c = rw c.in-Ok.is (one_then (λ z s. s) c.held_list.ensures)

pub returns-in-Err : goal.returns-in-Err
returns-in-Err c = rw c.in-Err.is stops1
