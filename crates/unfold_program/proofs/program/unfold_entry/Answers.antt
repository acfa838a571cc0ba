use Rattle.std.proofs.Common.{refl}
use Rattle.unfold_program.proofs.Programs.{entry_none, entry_stuck, entry_end}
use Rattle.unfold_program.proofs.program.unfold_entry.Goals as goal

pub returns-in-None : goal.returns-in-None
returns-in-None c = entry_none c.args.context.now _ _ _ _ _ c.in-None.ensures refl

pub returns-in-Err : goal.returns-in-Err
returns-in-Err c = entry_stuck c.args.context.now _ _ _ _ _ c.in-Some.ensures _ _ _ refl c.in-Err.ensures

pub returns-in-Ok : goal.returns-in-Ok
returns-in-Ok c = entry_end c.args.context.now _ _ _ _ _ c.in-Some.ensures _ _ _ _ refl c.in-Ok.ensures c.finish.ensures
