use Rattle.unfold_parts.proofs.Operated.{made_is, made_err}
use Rattle.unfold_parts.proofs.operations.make.Goals as goal

pub returns-in-Ok : goal.returns-in-Ok
returns-in-Ok c = made_is _ _ _ _ _ _ _ _ _ _ _ c.in-Ok.ensures c.made.ensures

pub returns-in-Err : goal.returns-in-Err
returns-in-Err c = made_err _ _ _ _ _ _ _ _ _ _ c.in-Err.ensures
