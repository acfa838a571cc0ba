use Rattle.unfold_measure.proofs.Mirror.{scope_empty}
use Rattle.unfold_measure.proofs.scope.no_scope.Goals as goal

pub returns : goal.returns
returns c = scope_empty
