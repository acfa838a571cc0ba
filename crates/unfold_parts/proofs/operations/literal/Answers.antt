use Rattle.unfold_parts.specs.Answers.{unanswered}
use Rattle.unfold_parts.specs.Refused.{no_memory}
use Rattle.unfold_parts.proofs.Operated.{literal_is}
use Rattle.unfold_parts.proofs.operations.literal.Goals as goal

pub returns-in-Ok : goal.returns-in-Ok
returns-in-Ok c = literal_is _ _ _ _ _ _ _ _ _ _ _ c.in-Ok.ensures c.make.ensures

pub returns-in-Err : goal.returns-in-Err
returns-in-Err c = unanswered no_memory
