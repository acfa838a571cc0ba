use Rattle.std.proofs.Common.{refl}
use Rattle.unfold_parts.proofs.Binding.{bound_ok, bound_err}
use Rattle.unfold_parts.proofs.patterns.bind.Goals as goal

pub returns-in-Ok : goal.returns-in-Ok
returns-in-Ok c = bound_ok _ _ _ _ _ _ _ _ _ _ _ refl refl c.in-Ok.ensures

pub returns-in-Err : goal.returns-in-Err
returns-in-Err c = bound_err _ _ _ _ _ _ _ _ _ _ _ c.in-Err.ensures
