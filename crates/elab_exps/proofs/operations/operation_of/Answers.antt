use Rattle.elab_exps.proofs.OperationLaws.{both_are}
use Rattle.elab_exps.proofs.operations.operation_of.Goals as goal

pub returns : goal.returns
returns c = both_are c.act_of.ensures c.parts_of.ensures c.on.ensures
