use Rattle.unfold_parts.proofs.Equating.{whole_ok, first_err, second_err}
use Rattle.unfold_parts.proofs.equality.equal_whole.Goals as goal

pub returns : goal.returns
returns c = whole_ok _ _ _ _ _ _ _ _ _ _ _ _ _ _ c.in-Ok.ensures c.in-Ok-pack.ensures c.compute.ensures

pub returns-in-Err : goal.returns-in-Err
returns-in-Err c = first_err _ _ _ _ _ _ _ _ _ _ c.in-Err.ensures

pub returns-in-Err-pack : goal.returns-in-Err-pack
returns-in-Err-pack c = second_err _ _ _ _ _ _ _ _ _ _ _ _ c.in-Err-pack.ensures
