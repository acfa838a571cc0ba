use Rattle.std.proofs.Common.{refl}
use Rattle.elab_nodes.specs.Built.{no_memory1}
use Rattle.elab_nodes.proofs.Parts.{name_made}
use Rattle.elab_nodes.proofs.rows.of_name.Goals as goal

pub returns-in-Ok : goal.returns-in-Ok
returns-in-Ok c = name_made c.args.at _ _ _ _ _ c.in-Ok.ensures refl c.lambda.ensures

pub returns-in-Err : goal.returns-in-Err
returns-in-Err c = no_memory1
