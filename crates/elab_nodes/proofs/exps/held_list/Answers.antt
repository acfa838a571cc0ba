use Rattle.elab_nodes.specs.Built.{built0, no_memory0}
use Rattle.elab_nodes.proofs.exps.held_list.Goals as goal

pub returns-in-Ok : goal.returns-in-Ok
returns-in-Ok c = built0 c.in-Ok.ensures

pub returns-in-Err : goal.returns-in-Err
returns-in-Err c = no_memory0
