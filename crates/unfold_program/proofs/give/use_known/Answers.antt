use Rattle.unfold_parts.specs.Refused.{no_memory}
use Rattle.unfold_program.specs.Answers.{no_use}
use Rattle.unfold_program.proofs.Growing.{used_end}
use Rattle.unfold_program.proofs.give.use_known.Goals as goal

pub returns-in-Err : goal.returns-in-Err
returns-in-Err c = no_use no_memory

pub returns : goal.returns
returns c = used_end _ _ _ _ _ _ _ _ _ _ c.in-Ok.ensures c.used-known.ensures c.put.ensures
