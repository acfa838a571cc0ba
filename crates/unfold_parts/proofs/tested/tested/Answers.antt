use Rattle.std.proofs.Common.{refl}
use Rattle.unfold_parts.specs.Answers.{unanswered}
use Rattle.unfold_parts.specs.Refused.{no_memory}
use Rattle.unfold_parts.proofs.Testing.{tested_ok, tested_err}
use Rattle.unfold_parts.proofs.tested.tested.Goals as goal

pub returns-in-Err : goal.returns-in-Err
returns-in-Err c = unanswered no_memory

pub returns-in-Ok-push : goal.returns-in-Ok-push
returns-in-Ok-push c = tested_ok _ _ _ _ _ _ _ c.in-Ok.row _ _ c.in-Ok.ensures refl c.in-Ok-push.ensures.steps c.in-Ok-push.ensures.next

pub returns-in-Err-push : goal.returns-in-Err-push
returns-in-Err-push c = tested_err c.args.wanted _ _ _ _ _ _ _ c.in-Err-push.ensures.steps
