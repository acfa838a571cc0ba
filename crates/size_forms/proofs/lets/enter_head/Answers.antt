use Rattle.std.proofs.lemmas.Result.{err_from_is_err_and}
use Rattle.fut_flat.proofs.ErasedForms.{row_of}
use Rattle.size_forms.specs.Lets.{head_entered}
use Rattle.size_forms.specs.Shown.{head_is}
use Rattle.size_forms.proofs.StepForms.{answer_memory}
use Rattle.size_forms.proofs.LetForms.{value_so, names_so, head_stops, head_enters}
use Rattle.size_forms.proofs.lets.enter_head.Goals as goal

pub returns-in_err-value-clause-entered : goal.returns-in_err-value-clause-entered
returns-in_err-value-clause-entered c =
    let p = err_from_is_err_and c.from_residual.result c.from_residual.ensures.1 in
    rw (p.1, p.2) (λ N types scope within. answer_memory head_is (head_entered types (row_of c.args.one.now) c.args.node N scope))

pub returns-in_err-heads-clause-entered : goal.returns-in_err-heads-clause-entered
returns-in_err-heads-clause-entered c =
    let p = err_from_is_err_and c.from_residual-in_err-heads.result c.from_residual-in_err-heads.ensures.1 in
    rw (p.1, p.2) (λ N types scope within. answer_memory head_is (head_entered types (row_of c.args.one.now) c.args.node N scope))

pub returns-in_err-inside-clause-entered : goal.returns-in_err-inside-clause-entered
returns-in_err-inside-clause-entered c =
    let p = err_from_is_err_and c.from_residual-in_err-inside.result c.from_residual-in_err-inside.ensures.1 in
    rw (p.1, p.2) (λ N types scope within. answer_memory head_is (head_entered types (row_of c.args.one.now) c.args.node N scope))

pub returns-in_err-has_parameters-clause-entered : goal.returns-in_err-has_parameters-clause-entered
returns-in_err-has_parameters-clause-entered c =
    let p = err_from_is_err_and c.from_residual-in_err-has_parameters.result c.from_residual-in_err-has_parameters.ensures.1 in
    rw (p.1, p.2) (λ N types scope within. head_stops c.args.one.now c.args.node c.in_ok-value.value c.in_ok-heads.heads c.in_ok-value.ensures c.in_ok-heads.ensures _ c.in_err-has_parameters.ensures N types scope)

pub returns-clause-entered : goal.returns-clause-entered
returns-clause-entered c = head_enters c.args.one.now c.args.node c.in_ok-value.value c.in_ok-heads.heads c.in_ok-value.ensures c.in_ok-heads.ensures c.args.names.now c.in_ok-inside.inside _ c.in_ok-has_parameters.ensures c.in_ok-inside.ensures

pub returns-clause-heads : goal.returns-clause-heads
returns-clause-heads c = names_so c.args.one.now c.args.node c.in_ok-heads.heads.now c.in_ok-heads.ensures

pub returns-clause-value : goal.returns-clause-value
returns-clause-value c = value_so c.args.one.now c.args.node c.in_ok-value.value c.in_ok-value.ensures
