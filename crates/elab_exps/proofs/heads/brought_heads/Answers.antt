use Rattle.std.proofs.lemmas.Result.{err_from_is_err_and}
use Rattle.elab_exps.specs.Heads.{brought_heads}
use Rattle.elab_exps.proofs.HeadLaws.{heads_gone, heads_names_gone}
use Rattle.elab_exps.proofs.heads.brought_heads.Goals as goal

pub returns-in_err-heads : goal.returns-in_err-heads
returns-in_err-heads c =
    let p = err_from_is_err_and c.from_residual.result c.from_residual.ensures.1 in
    rw (p.1, p.2) (heads_gone c.in_err-heads.ensures)

pub returns-in_err-bring : goal.returns-in_err-bring
returns-in_err-bring c =
    let p = err_from_is_err_and c.from_residual-in_err-bring.result c.from_residual-in_err-bring.ensures.1 in
    rw (p.1, p.2) (heads_names_gone c.in_err-bring.ensures)

pub returns : goal.returns
returns c = brought_heads c.in_ok-heads.ensures c.in_ok-bring.ensures
