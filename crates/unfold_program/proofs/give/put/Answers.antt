use Rattle.unfold_program.proofs.Growing.{walked_ok, walked_err}
use Rattle.unfold_program.proofs.give.put.Goals as goal

pub returns-in-Ok : goal.returns-in-Ok
returns-in-Ok c = walked_ok _ _ _ c.in-Ok.is

pub returns-in-Err : goal.returns-in-Err
returns-in-Err c = walked_err _ _ _ c.in-Err.is
