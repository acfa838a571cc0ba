use Rattle.std.proofs.Common.{refl}
use Rattle.unfold_parts.proofs.Stepping.{as_act}
use Rattle.unfold_parts.proofs.steps.Unfolding.made.Goals as goal

pub returns : goal.returns
returns c = as_act _ _ _ _ _ _ _ _ refl c.named.ensures
