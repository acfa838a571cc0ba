use Rattle.std.proofs.Common.{arith}
use Rattle.unfold_parts.specs.Answers.{no_records_paired}
use Rattle.unfold_parts.proofs.Equating.{pair_records, pair_memory}
use Rattle.unfold_parts.proofs.equality.records_paired.Goals as goal

pub returns-then-not-same_names : goal.returns-then-not-same_names
returns-then-not-same_names c = no_records_paired

pub returns-in-Err : goal.returns-in-Err
returns-in-Err c = pair_memory _ _ _ c.in-Err.ensures.err

pub returns-in-Ok-parts_of : goal.returns-in-Ok-parts_of
returns-in-Ok-parts_of c = pair_records _ _ _ _ c.same_names.ensures (grind (arith, c.if-not-same_names.false)) c.in-Ok.ensures.ok c.in-Ok-parts_of.ensures.ok

pub returns-in-Err-parts_of : goal.returns-in-Err-parts_of
returns-in-Err-parts_of c = pair_memory _ _ _ c.in-Err-parts_of.ensures.err
