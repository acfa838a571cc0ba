use Rattle.unfold_parts.proofs.Stepping.{as_operation}
use Rattle.unfold_parts.proofs.steps.Unfolding.compute.Goals as goal

pub returns : goal.returns
returns c = as_operation _ _ _ _ _ _ _ c.named.ensures
