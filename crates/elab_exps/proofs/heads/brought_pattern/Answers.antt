use Rattle.std.proofs.lemmas.Result.{err_from_is_err_and}
use Rattle.elab_exps.specs.Heads.{brought_pattern, no_bound}
use Rattle.elab_exps.proofs.HeadLaws.{pattern_gone, pattern_names_gone}
use Rattle.elab_exps.proofs.heads.brought_pattern.Goals as goal

pub returns-in_err-pat : goal.returns-in_err-pat
returns-in_err-pat c =
    let p = err_from_is_err_and c.from_residual.result c.from_residual.ensures.1 in
    rw (p.1, p.2, c.in_err-pat.was) no_bound

pub returns-in_err-bring_head : goal.returns-in_err-bring_head
returns-in_err-bring_head c =
    let p = err_from_is_err_and c.from_residual-in_err-bring_head.result c.from_residual-in_err-bring_head.ensures.1 in
    rw (p.1, p.2) (pattern_gone c.in_err-bring_head.ensures)

pub returns-in_err-bring : goal.returns-in_err-bring
returns-in_err-bring c =
    let p = err_from_is_err_and c.from_residual-in_err-bring.result c.from_residual-in_err-bring.ensures.1 in
    rw (p.1, p.2) (pattern_names_gone c.in_err-bring.ensures)

pub returns : goal.returns
returns c = rw c.in_ok-pat.was (brought_pattern c.in_ok-bring_head.ensures c.in_ok-bring.ensures)
