use Rattle.std.proofs.Common.{refl}
use Rattle.unfold_parts.proofs.Jobbing.{begun, no_data, unpacked, unnamed}
use Rattle.unfold_parts.proofs.jobs.begin_job.Goals as goal

pub returns-in-Err : goal.returns-in-Err
returns-in-Err c = no_data _ _ _ _ _ _ _ c.in-Err.ensures

pub returns-in-Err-pack_all : goal.returns-in-Err-pack_all
returns-in-Err-pack_all c = unpacked _ _ _ _ _ _ _ _ _ _ c.in-Ok.ensures c.in-Err-pack_all.ensures

pub returns-in-Ok-names : goal.returns-in-Ok-names
returns-in-Ok-names c = begun _ _ _ _ _ _ _ _ _ _ _ _ _ c.takes.ensures c.in-Ok.ensures c.in-Ok-pack_all.ensures c.in-Ok-names.ensures.named c.in-Ok-names.ensures.steps refl refl refl c.function_of.ensures

pub returns-in-Err-names : goal.returns-in-Err-names
returns-in-Err-names c = unnamed _ _ _ _ _ _ _ _ _ _ c.in-Err-names.ensures.named
