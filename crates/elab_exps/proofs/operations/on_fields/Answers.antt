use Rattle.elab_nodes.proofs.Joined.{ended}
use Rattle.elab_exps.specs.Plain.{plain_record}
use Rattle.elab_exps.proofs.OperationLaws.{on_made, only_memory}
use Rattle.elab_exps.proofs.StrictLaws.{record_names}
use Rattle.elab_exps.proofs.operations.on_fields.Goals as goal

pub returns-in-Ok : goal.returns-in-Ok
returns-in-Ok c = on_made (plain_record (record_names c.args.fields.now _ c.in-Ok.ensures.names)) (ended _ c.field_exps.ensures.exps c.field_exps.ensures.memory) c.on.ensures

pub returns-in-Err : goal.returns-in-Err
returns-in-Err c = only_memory c.in-Err.ensures.memory
