use Rattle.std.proofs.lemmas.Result.{err_from_is_err_and}
use Rattle.elab_exps.proofs.HeadLaws.{behind_stops, element_made, element_stops}
use Rattle.elab_exps.proofs.heads.element_pattern.Goals as goal

pub returns-in_err-bring_head : goal.returns-in_err-bring_head
returns-in_err-bring_head c =
    let p = err_from_is_err_and c.from_residual.result c.from_residual.ensures.1 in
    rw (p.1, p.2) (behind_stops _ _ _ _ _ _ _ c.in_err-bring_head.ensures)

pub returns-in_err-pat : goal.returns-in_err-pat
returns-in_err-pat c =
    let p = err_from_is_err_and c.from_residual-in_err-pat.result c.from_residual-in_err-pat.ensures.1 in
    rw (p.1, p.2) (element_stops _ c.args.head.now _ _ _ _ _ c.in_ok-bring_head.ensures c.in_err-pat.ensures)

pub returns : goal.returns
returns c = element_made _ c.args.head.now _ _ _ _ _ _ _ c.height-height.ensures c.in_ok-bring_head.ensures c.in_ok-pat.ensures c.leave.ensures.scope c.leave.ensures.made
