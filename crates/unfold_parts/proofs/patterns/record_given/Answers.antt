use Rattle.std.proofs.Common.{refl}
use Rattle.unfold_parts.specs.Answers.{unanswered}
use Rattle.unfold_parts.proofs.Binding.{record_given_ok, record_given_err}
use Rattle.unfold_parts.proofs.Refusing.{only_memory}
use Rattle.unfold_parts.proofs.patterns.record_given.Goals as goal

pub returns-in-Err : goal.returns-in-Err
returns-in-Err c = unanswered (only_memory c.in-Err.ensures.err)

pub returns-in-Ok-fields_given : goal.returns-in-Ok-fields_given
returns-in-Ok-fields_given c = record_given_ok _ _ _ _ _ _ _ _ _ _ c.in-Ok.ensures.ok refl refl c.in-Ok-fields_given.ensures

pub returns-in-Err-fields_given : goal.returns-in-Err-fields_given
returns-in-Err-fields_given c = record_given_err _ _ _ _ _ _ _ _ c.in-Err-fields_given.ensures
