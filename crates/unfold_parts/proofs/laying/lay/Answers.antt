use Rattle.unfold_parts.proofs.Layings.{laid_ok, laid_err}
use Rattle.unfold_parts.proofs.laying.lay.Goals as goal

pub returns-in-Ok : goal.returns-in-Ok
returns-in-Ok c = laid_ok _ _ _ _ _ _ c.new-atoms.ensures.items c.in-Ok.ensures c.into_bump_slice.ensures

pub returns : goal.returns
returns c = laid_err _ _ _ _ _ c.in-Err.ensures
