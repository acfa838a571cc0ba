use Rattle.unfold_parts.specs.Answers.{not_computed}
use Rattle.unfold_parts.proofs.Stepping.{named_step, unnamed_step, unpushed_step}
use Rattle.unfold_parts.proofs.steps.Unfolding.named.Goals as goal

pub returns-in-Ok-push : goal.returns-in-Ok-push
returns-in-Ok-push c = named_step _ _ _ _ _ _ _ _ _ _ c.in-Ok.ensures.name c.in-Ok.ensures.steps c.in-Ok-try_alloc_slice_copy.ensures c.in-Ok-push.ensures.next c.in-Ok-push.ensures.steps

pub returns-in-Err : goal.returns-in-Err
returns-in-Err c = unnamed_step _ _ _ _ _ c.in-Err.ensures.name

pub returns-in-Err-try_alloc_slice_copy : goal.returns-in-Err-try_alloc_slice_copy
returns-in-Err-try_alloc_slice_copy c = not_computed

pub returns-in-Err-push : goal.returns-in-Err-push
returns-in-Err-push c = unpushed_step _ _ _ _ _ c.in-Err-push.ensures.steps
