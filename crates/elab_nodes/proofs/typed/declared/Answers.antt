use Rattle.elab_nodes.proofs.Joined.{given, two_then, two_stop}
use Rattle.elab_nodes.proofs.typed.declared.Goals as goal

pub returns-in-Ok : goal.returns-in-Ok
returns-in-Ok c = two_then c.in-Ok.ensures (λ x s. s) (given c.on_part.ensures)

pub returns-in-Err : goal.returns-in-Err
returns-in-Err c = two_stop c.in-Err.ensures
