use Rattle.unfold_parts.specs.Jobs.{not_ended}
use Rattle.unfold_parts.specs.Refused.{no_memory}
use Rattle.unfold_parts.proofs.Jobbing.{ended, unended, unblocked}
use Rattle.unfold_parts.proofs.jobs.end_job.Goals as goal

pub returns-in-Err : goal.returns-in-Err
returns-in-Err c = unended _ _ _ _ _ c.args.job.now.atoms c.args.job.now.params _ _ _ _ _ _ _ _ c.in-Err.ensures

pub returns-in-Err-try_alloc_slice_copy : goal.returns-in-Err-try_alloc_slice_copy
returns-in-Err-try_alloc_slice_copy c = not_ended no_memory

pub returns-in-Err-row_of_function : goal.returns-in-Err-row_of_function
returns-in-Err-row_of_function c = not_ended no_memory

pub returns-in-Ok-block : goal.returns-in-Ok-block
returns-in-Ok-block c = ended _ _ _ _ _ c.args.job.now.atoms c.args.job.now.params _ _ _ c.in-Ok-row_of_function.row _ _ _ _ _ _ _ _ _ _ c.in-Ok-row_of_function.ensures c.in-Ok-block.ensures.next c.in-Ok.ensures c.in-Ok-try_alloc_slice_copy.ensures c.in-Ok-block.ensures.block c.made.ensures

pub returns-in-Err-block : goal.returns-in-Err-block
returns-in-Err-block c = unblocked _ _ _ _ _ c.args.job.now.atoms c.args.job.now.params _ _ _ _ _ _ c.in-Err-block.ensures.block
