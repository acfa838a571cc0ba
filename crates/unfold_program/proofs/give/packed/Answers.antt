use Rattle.std.proofs.Common.{refl}
use Rattle.unfold_program.proofs.Growing.{packed_ok, packed_err}
use Rattle.unfold_program.proofs.give.packed.Goals as goal

pub returns-in-Ok : goal.returns-in-Ok
returns-in-Ok c = packed_ok _ _ _ _ _ c.in-Ok.ensures refl refl

pub returns-in-Err : goal.returns-in-Err
returns-in-Err c = packed_err _ _ _ _ c.in-Err.ensures
