use Rattle.std.proofs.Common.{refl}
use Rattle.elab_nodes.specs.Built.{built0}
use Rattle.elab_nodes.proofs.Joined.{two_then, two_stop}
use Rattle.elab_exps.proofs.bindings.repeated.Goals as goal

pub returns-in-Ok : goal.returns-in-Ok
returns-in-Ok c = two_then c.in-Ok.ensures (λ z s. s) (built0 refl)

pub returns-in-Err : goal.returns-in-Err
returns-in-Err c = two_stop c.in-Err.ensures
