use Rattle.std.proofs.Common.{refl}
use Rattle.unfold_parts.proofs.NewNaming.{opened_is, unopened, unpushed}
use Rattle.unfold_parts.proofs.steps.Unfolding.opened.Goals as goal

pub returns-in-Ok-push : goal.returns-in-Ok-push
returns-in-Ok-push c = opened_is _ _ _ _ _ _ _ _ _ _ _ _ c.in-Ok.ensures.named c.in-Ok.ensures.steps refl refl c.in-Ok-push.ensures.steps c.in-Ok-push.ensures.next

pub returns-in-Err : goal.returns-in-Err
returns-in-Err c = unopened _ _ _ _ _ _ _ c.in-Err.ensures.named

pub returns-in-Err-push : goal.returns-in-Err-push
returns-in-Err-push c = unpushed _ _ _ _ _ _ _ c.in-Err-push.ensures.steps
