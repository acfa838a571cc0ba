use Rattle.std.proofs.Common.{refl}
use Rattle.unfold_parts.specs.Answers.{unanswered}
use Rattle.unfold_parts.specs.Refused.{no_memory}
use Rattle.unfold_parts.proofs.Operated.{changed_is, changed_err}
use Rattle.unfold_parts.proofs.operations.changed.Goals as goal

pub returns-in-Err : goal.returns-in-Err
returns-in-Err c = changed_err _ _ _ _ _ _ _ _ _ _ c.in-Err.ensures

pub returns-in-Ok-try_alloc_slice_copy : goal.returns-in-Ok-try_alloc_slice_copy
returns-in-Ok-try_alloc_slice_copy c = changed_is _ _ _ _ _ _ _ _ _ _ _ _ _ _ c.in-Ok-try_alloc_slice_copy.ensures refl c.in-Ok.ensures c.made.ensures

pub returns-in-Err-try_alloc_slice_copy : goal.returns-in-Err-try_alloc_slice_copy
returns-in-Err-try_alloc_slice_copy c = unanswered no_memory
