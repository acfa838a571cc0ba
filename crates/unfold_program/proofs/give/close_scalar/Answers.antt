use Rattle.std.proofs.Common.{refl}
use Rattle.unfold_program.specs.Answers.{not_scalar_closed}
use Rattle.unfold_program.proofs.Growing.{scalar_ok, scalar_err}
use Rattle.unfold_program.proofs.give.close_scalar.Goals as goal

pub returns-in-Ok-block : goal.returns-in-Ok-block
returns-in-Ok-block c = scalar_ok _ _ _ _ _ _ _ c.in-Ok.ensures c.in-Ok-block.ensures.block c.in-Ok-block.ensures.next refl refl

pub returns-in-Err : goal.returns-in-Err
returns-in-Err c = not_scalar_closed

pub returns-in-Err-block : goal.returns-in-Err-block
returns-in-Err-block c = scalar_err _ _ _ _ _ _ _ _ c.in-Err-block.ensures.block
