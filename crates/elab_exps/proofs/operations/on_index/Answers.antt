use Rattle.elab_nodes.proofs.Joined.{ended}
use Rattle.elab_exps.specs.Plain.{plain_index}
use Rattle.elab_exps.proofs.OperationLaws.{on_made, only_memory}
use Rattle.elab_exps.proofs.operations.on_index.Goals as goal

pub returns-in-Ok : goal.returns-in-Ok
returns-in-Ok c = on_made (plain_index c.in-Ok.ensures.kinds) (ended _ c.index_exps.ensures.exps c.index_exps.ensures.memory) c.on.ensures

pub returns-in-Err : goal.returns-in-Err
returns-in-Err c = only_memory c.in-Err.ensures.memory
