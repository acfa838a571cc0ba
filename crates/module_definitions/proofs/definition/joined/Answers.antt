use Rattle.std.proofs.Common.{refl}
use Rattle.elab_nodes.specs.Built.{built0}
use Rattle.elab_nodes.proofs.Joined.{three_then, three_stop}
use Rattle.module_definitions.proofs.definition.joined.Goals as goal

pub returns-in-Ok : goal.returns-in-Ok
returns-in-Ok c = three_then c.in-Ok.ensures c.both.ensures (λ z s. s) (built0 refl)

pub returns-in-Err : goal.returns-in-Err
returns-in-Err c = three_stop c.in-Err.ensures c.both.ensures
