use Rattle.std.proofs.Common.{ap, ◌∙◌}
use Rattle.unfold_measure.specs.Held.{scope_of}
use Rattle.unfold_measure.proofs.Mirror.{scope_bind}
use Rattle.unfold_measure.proofs.scope.root.Goals as goal

pub returns-in-Ok-clause-ok : goal.returns-in-Ok-clause-ok
returns-in-Ok-clause-ok c = ap scope_of c.in-Ok.ensures ∙ scope_bind _ _ _ _
