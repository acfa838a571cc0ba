use Rattle.std.proofs.Common.{refl}
use Rattle.unfold_parts.proofs.Stepping.{gives}
use Rattle.unfold_parts.proofs.steps.Unfolding.giving.Goals as goal

pub returns-in-Ok-clause-ok : goal.returns-in-Ok-clause-ok
returns-in-Ok-clause-ok c = gives _ _ _ _ refl c.in-Ok.ensures c.kept.ensures.ok
