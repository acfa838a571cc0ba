use Rattle.unfold_parts.proofs.Stepping.{as_both, unmade_step}
use Rattle.unfold_parts.proofs.steps.Unfolding.both_hold.Goals as goal

pub returns : goal.returns
returns c = as_both _ _ _ _ _ _ _ _ _ _ c.in-Ok.ensures.ok c.in-Ok-giving.ensures.ok c.named.ensures

pub returns-in-Err : goal.returns-in-Err
returns-in-Err c = unmade_step _ _ _ _ _ c.in-Err.ensures.err

pub returns-in-Err-giving : goal.returns-in-Err-giving
returns-in-Err-giving c = unmade_step _ _ _ _ _ c.in-Err-giving.ensures.err
