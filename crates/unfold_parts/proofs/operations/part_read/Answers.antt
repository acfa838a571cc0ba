use Rattle.unfold_parts.specs.Answers.{unanswered}
use Rattle.unfold_parts.specs.Refused.{no_memory}
use Rattle.unfold_parts.proofs.Operated.{part_is}
use Rattle.unfold_parts.proofs.operations.part_read.Goals as goal

pub returns-in-Ok : goal.returns-in-Ok
returns-in-Ok c = part_is _ _ _ _ _ _ _ _ _ c.in-Ok.ensures c.made.ensures

pub returns-in-Err : goal.returns-in-Err
returns-in-Err c = unanswered no_memory
