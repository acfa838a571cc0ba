use Rattle.std.proofs.Common.{refl}
use Rattle.elab_nodes.specs.Built.{built1, stops1}
use Rattle.fut_flat.proofs.ErasedPatterns.{pattern_tuple}
use Rattle.elab_nodes.proofs.pats.tuple.Goals as goal

pub returns-in-Ok : goal.returns-in-Ok
returns-in-Ok c = rw c.in-Ok.is (built1 (pattern_tuple _ _ refl))

pub returns-in-Err : goal.returns-in-Err
returns-in-Err c = rw c.in-Err.is stops1
