use Rattle.unfold_program.proofs.Programs.{finish_ok, finish_unlaid, finish_err}
use Rattle.unfold_program.proofs.program.finish.Goals as goal

pub returns-in-Err : goal.returns-in-Err
returns-in-Err c = finish_unlaid _ _ _ _ _ c.in-Err.ensures

pub returns-in-Ok-block : goal.returns-in-Ok-block
returns-in-Ok-block c = finish_ok _ _ _ _ c.block.new.self _ _ c.in-Ok.ensures c.in-Ok-block.ensures.block c.in-Ok-block.ensures.next

pub returns-in-Err-block : goal.returns-in-Err-block
returns-in-Err-block c = finish_err _ _ _ _ _ _ _ _ _ c.in-Err-block.ensures.block
