use Rattle.unfold_parts.proofs.Finding.{bound_is}
use Rattle.unfold_parts.proofs.scope.bound.Goals as goal

pub returns-in-Ok-clause-ok : goal.returns-in-Ok-clause-ok
returns-in-Ok-clause-ok c = bound_is _ _ _ _ _ c.in-Ok.ensures.ok
