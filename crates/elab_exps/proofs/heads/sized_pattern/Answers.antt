use Rattle.std.proofs.lemmas.Result.{err_from_is_err_and}
use Rattle.elab_exps.proofs.HeadLaws.{bring_stops, sized_first, sized_made, sized_second}
use Rattle.elab_exps.proofs.heads.sized_pattern.Goals as goal

pub returns-in_err-sizes : goal.returns-in_err-sizes
returns-in_err-sizes c =
    let p = err_from_is_err_and c.from_residual.result c.from_residual.ensures.1 in
    rw (p.1, p.2) (sized_first _ _ _ _ _ c.in_err-sizes.ensures)

pub returns-in_err-bring : goal.returns-in_err-bring
returns-in_err-bring c =
    let p = err_from_is_err_and c.from_residual-in_err-bring.result c.from_residual-in_err-bring.ensures.1 in
    rw (p.1, p.2) (bring_stops _ _ _ _ _ _ _ c.in_err-bring.ensures)

pub returns-in_err-pat : goal.returns-in_err-pat
returns-in_err-pat c =
    let p = err_from_is_err_and c.from_residual-in_err-pat.result c.from_residual-in_err-pat.ensures.1 in
    rw (p.1, p.2) (sized_second _ _ _ _ _ _ _ _ _ c.in_ok-sizes.ensures c.in_ok-bring.ensures c.in_err-pat.ensures)

pub returns : goal.returns
returns c = sized_made _ _ _ _ _ _ _ _ _ _ _ c.height-height.ensures c.in_ok-sizes.ensures c.in_ok-bring.ensures c.in_ok-pat.ensures c.leave.ensures.scope c.leave.ensures.made
