use Rattle.elab_exps.proofs.OperationLaws.{at_record, at_index}
use Rattle.elab_exps.proofs.operations.gathered.Goals as goal

pub returns-in-Record : goal.returns-in-Record
returns-in-Record c = at_record c.exp.inside _ c.exp.view_is _ c.in-Record.is c.on_fields.ensures

pub returns-in-Index : goal.returns-in-Index
returns-in-Index c = at_index c.exp.inside _ c.exp.view_is _ _ c.in-Index.is c.on_index.ensures
