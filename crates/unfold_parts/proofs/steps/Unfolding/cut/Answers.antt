use Rattle.unfold_parts.proofs.Stepping.{cut_is}
use Rattle.unfold_parts.proofs.steps.Unfolding.cut.Goals as goal

pub returns-clause-steps : goal.returns-clause-steps
returns-clause-steps c = cut_is _ _ _ c.truncate.ensures.items
