use Rattle.std.proofs.Common.{sym}
use Rattle.unfold_program.proofs.give.put_known.Goals as goal

pub returns-in-Ok : goal.returns-in-Ok
returns-in-Ok c = sym c.in-Ok.is

pub returns-in-Err : goal.returns-in-Err
returns-in-Err c = sym c.in-Err.is
