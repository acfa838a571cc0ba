use Rattle.std.proofs.Common.{refl}
use Rattle.unfold_parts.proofs.Operated.{computed_known, computed_err}
use Rattle.unfold_parts.proofs.stepped.made.Goals as goal

pub returns-in-Ok : goal.returns-in-Ok
returns-in-Ok c = computed_known _ _ _ _ _ _ _ c.in-Ok.ensures refl

pub returns-in-Err : goal.returns-in-Err
returns-in-Err c = computed_err _ _ _ _ _ _ c.in-Err.ensures
