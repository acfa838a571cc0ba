use Rattle.unfold_program.proofs.Entering.{row_value_err, row_end}
use Rattle.unfold_program.proofs.enter.bind_row.Goals as goal

pub returns-in-Err : goal.returns-in-Err
returns-in-Err c = row_value_err _ _ _ _ _ _ _ _ _ c.bind.new.work _ _ c.in-Err.ensures

pub returns : goal.returns
returns c = row_end _ _ _ _ _ _ _ _ _ c.bind.new.work _ _ _ _ c.named.ensures c.in-Ok.ensures c.bind-2.ensures
