use Rattle.unfold_parts.specs.Answers.{unanswered}
use Rattle.unfold_parts.specs.Refused.{no_memory}
use Rattle.unfold_parts.proofs.Using.{used_size, used_name}
use Rattle.unfold_parts.proofs.uses.name_used.Goals as goal

pub returns-in-Ok-Some : goal.returns-in-Ok-Some
returns-in-Ok-Some c at = used_size _ _ _ _ _ _ _ _ _ _ _ _ c.in-Ok-Some.field-0-is c.in-Ok-Some.ensures c.made.ensures

pub returns-in-Ok-None : goal.returns-in-Ok-None
returns-in-Ok-None c at = used_name _ _ _ _ _ _ _ _ _ c.in-Ok-None.field-0-is c.in-Ok-None.ensures c.name_known.ensures

pub returns-in-Err : goal.returns-in-Err
returns-in-Err c at = unanswered no_memory
