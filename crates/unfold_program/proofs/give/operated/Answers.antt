use Rattle.unfold_program.proofs.Growing.{operated_ok, operated_err}
use Rattle.unfold_program.proofs.give.operated.Goals as goal

pub returns-in-Ok : goal.returns-in-Ok
returns-in-Ok c = operated_ok _ _ _ _ _ _ _ _ _ c.in-Ok.ensures

pub returns-in-Err : goal.returns-in-Err
returns-in-Err c = operated_err _ _ _ _ _ _ _ _ _ c.in-Err.ensures
