use Rattle.std.proofs.Common.{refl}
use Rattle.elab_nodes.specs.Built.{built1, stops1}
use Rattle.elab_types.proofs.lists.listed.Goals as goal

pub returns-in-Ok : goal.returns-in-Ok
returns-in-Ok g c = rw c.in-Ok.is (built1 refl)

pub returns-in-Err : goal.returns-in-Err
returns-in-Err g c = rw c.in-Err.is stops1
