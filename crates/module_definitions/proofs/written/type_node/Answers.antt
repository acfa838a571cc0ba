use Rattle.std.proofs.Common.{refl}
use Rattle.elab_nodes.specs.Built.{stops1}
use Rattle.module_definitions.proofs.Values.{node_alone}
use Rattle.module_definitions.proofs.written.type_node.Goals as goal

pub returns-in-Ok : goal.returns-in-Ok
returns-in-Ok c = node_alone c.args.at c.in-Ok.ty _ c.args.ty _ c.in-Ok.is refl c.strict.ensures

pub returns-in-Err : goal.returns-in-Err
returns-in-Err c = rw c.in-Err.is stops1
