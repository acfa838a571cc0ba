use Rattle.std.proofs.Common.{refl}
use Rattle.std.proofs.lemmas.Result.{err_from_is_err_and}
use Rattle.alias_forms.proofs.Binding.{reshown, restopped}
use Rattle.alias_forms.proofs.SeenForms.{told_named}
use Rattle.alias_forms.proofs.seen.whole_seen.Goals as goal

pub returns-in_err-part-clause-step : goal.returns-in_err-part-clause-step
returns-in_err-part-clause-step c =
    let p = err_from_is_err_and c.from_residual.result c.from_residual.ensures.1 in
    rw (p.1, p.2) (λ naming N K e n. restopped (c.in_err-part.ensures naming N K e (told_named n c.or_function.ensures)))

pub returns-clause-step : goal.returns-clause-step
returns-clause-step c = λ naming N K e n. reshown refl (c.in_ok-part.ensures naming N K e (told_named n c.or_function.ensures))
