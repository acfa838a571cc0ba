use Rattle.elab_nodes.proofs.Joined.{two_then, two_stop}
use Rattle.elab_nodes.proofs.exps.two.Goals as goal

pub returns-in-Ok : goal.returns-in-Ok
returns-in-Ok c = two_then c.in-Ok.ensures (λ z s. s) c.held_list.ensures

pub returns-in-Err : goal.returns-in-Err
returns-in-Err c = two_stop c.in-Err.ensures
