use Rattle.std.proofs.Common.{ap, ◌∙◌}
use Rattle.unfold_measure.specs.Held.{closure_of}
use Rattle.unfold_measure.proofs.Making.{function_made}
use Rattle.unfold_measure.proofs.Mirror.{closure_is}
use Rattle.unfold_measure.proofs.scope.captured.Goals as goal

pub returns-in-Ok-clause-ok : goal.returns-in-Ok-clause-ok
returns-in-Ok-clause-ok c = function_made _ _ (ap closure_of c.in-Ok.ensures ∙ closure_is _) c.held.ensures.ok

pub returns-in-Ok-clause-err : goal.returns-in-Ok-clause-err
returns-in-Ok-clause-err c = c.held.ensures.err
