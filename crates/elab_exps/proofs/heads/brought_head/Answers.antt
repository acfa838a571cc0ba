use Rattle.std.proofs.lemmas.Result.{err_from_is_err_and}
use Rattle.elab_exps.specs.Heads.{brought_head, no_head}
use Rattle.elab_exps.proofs.HeadLaws.{head_gone}
use Rattle.elab_exps.proofs.heads.brought_head.Goals as goal

pub returns-in_err-head : goal.returns-in_err-head
returns-in_err-head c =
    let p = err_from_is_err_and c.from_residual.result c.from_residual.ensures.1 in
    rw (p.1, p.2, c.in_err-head.was) no_head

pub returns-in_err-bring_head : goal.returns-in_err-bring_head
returns-in_err-bring_head c =
    let p = err_from_is_err_and c.from_residual-in_err-bring_head.result c.from_residual-in_err-bring_head.ensures.1 in
    rw (p.1, p.2) (head_gone c.in_err-bring_head.ensures)

pub returns : goal.returns
returns c = rw c.in_ok-head.was (brought_head c.in_ok-bring_head.ensures)
