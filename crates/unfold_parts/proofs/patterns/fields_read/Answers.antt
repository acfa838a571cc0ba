use Rattle.unfold_parts.specs.Answers.{unanswered}
use Rattle.unfold_parts.specs.Refused.{no_memory}
use Rattle.unfold_parts.proofs.Binding.{fields_step}
use Rattle.unfold_parts.proofs.Refusing.{only_memory}
use Rattle.unfold_parts.proofs.patterns.fields_read.Goals as goal

pub returns-in-Err : goal.returns-in-Err
returns-in-Err c = unanswered (only_memory c.in-Err.ensures.err)

pub returns-in-Ok-try_alloc_slice_copy : goal.returns-in-Ok-try_alloc_slice_copy
returns-in-Ok-try_alloc_slice_copy c = fields_step _ _ _ _ _ _ _ _ _ _ c.in-Ok.ensures.ok c.in-Ok-try_alloc_slice_copy.ensures c.opened.ensures

pub returns-in-Err-try_alloc_slice_copy : goal.returns-in-Err-try_alloc_slice_copy
returns-in-Err-try_alloc_slice_copy c = unanswered no_memory
