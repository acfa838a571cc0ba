use Rattle.std.proofs.lemmas.Result.{err_from_is_err_and}
use Rattle.elab_exps.specs.Heads.{brought_name}
use Rattle.elab_exps.proofs.HeadLaws.{name_gone}
use Rattle.elab_exps.proofs.heads.brought_name.Goals as goal

pub returns-in_err-bring_head : goal.returns-in_err-bring_head
returns-in_err-bring_head c =
    let p = err_from_is_err_and c.from_residual.result c.from_residual.ensures.1 in
    rw (p.1, p.2) (name_gone c.in_err-bring_head.ensures)

pub returns : goal.returns
returns c = brought_name c.in_ok-bring_head.ensures c.in_scope.ensures.comes
