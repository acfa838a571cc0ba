use Rattle.std.proofs.Common.{refl}
use Rattle.elab_nodes.specs.Built.{built2, first_of_two, second_of_two}
use Rattle.elab_nodes.proofs.both.both.Goals as goal

pub returns-in-Ok-second : goal.returns-in-Ok-second
returns-in-Ok-second g c = rw (c.in-Ok.is, c.in-Ok-second.is) (built2 refl)

pub returns-in-Err-second : goal.returns-in-Err-second
returns-in-Err-second g c = rw (c.in-Ok.is, c.in-Err-second.is) second_of_two

pub returns-in-Err : goal.returns-in-Err
returns-in-Err g c = rw c.in-Err.is first_of_two
