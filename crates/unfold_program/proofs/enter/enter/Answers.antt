use Rattle.unfold_program.proofs.Entering.{enter_ok, enter_unlaid, enter_unnamed}
use Rattle.unfold_program.proofs.enter.enter.Goals as goal

pub returns-in-Err-clause-entered : goal.returns-in-Err-clause-entered
returns-in-Err-clause-entered c = enter_unlaid _ _ _ _ c.in-Err.ensures

pub returns-in-Ok-fresh-clause-entered : goal.returns-in-Ok-fresh-clause-entered
returns-in-Ok-fresh-clause-entered c = enter_ok _ _ _ _ _ c.in-Ok.ensures c.in-Ok-fresh.ensures.fresh

pub returns-in-Err-fresh-clause-entered : goal.returns-in-Err-fresh-clause-entered
returns-in-Err-fresh-clause-entered c = enter_unnamed _ _ _ _ _ _ c.in-Err-fresh.ensures.fresh
