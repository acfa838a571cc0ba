use Rattle.std.proofs.Common.{sym, ◌∙◌}
use Rattle.size_matching.specs.Arrows.{regular, refused, no_memory_checks}
use Rattle.size_matching.proofs.matching.check_results.Goals as goal

pub returns-in-Ok-true-clause-checked : goal.returns-in-Ok-true-clause-checked
returns-in-Ok-true-clause-checked c = λ σ held. refused (sym (c.in-Ok-true.ensures σ held) ∙ c.in-Ok-true.field-0-test)

pub returns-in-Ok-false-clause-checked : goal.returns-in-Ok-false-clause-checked
returns-in-Ok-false-clause-checked c = λ σ held. regular (sym (c.in-Ok-false.ensures σ held) ∙ c.in-Ok-false.field-0-test)

pub returns-in-Err-clause-checked : goal.returns-in-Err-clause-checked
returns-in-Err-clause-checked c = λ σ held. no_memory_checks
