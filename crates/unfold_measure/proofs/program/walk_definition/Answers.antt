use Rattle.std.proofs.Common.{refl}
use Rattle.unfold_measure.proofs.Definitions.{one_passed, one_stopped, one_entered}
use Rattle.unfold_measure.proofs.program.walk_definition.Goals as goal

pub returns-in-Err-clause-walk : goal.returns-in-Err-clause-walk
returns-in-Err-clause-walk c = one_stopped _ _ _ _ _ refl c.no_scope.ensures _ _ c.if-reached.true c.in-Err.ensures.walk

pub returns-in-Ok-clause-walk : goal.returns-in-Ok-clause-walk
returns-in-Ok-clause-walk c = one_entered _ _ _ _ _ refl c.no_scope.ensures _ _ c.if-reached.true c.in-Ok.ensures.walk _ c.enter.ensures.list c.enter.ensures.nodes c.enter.ensures.depth c.enter.ensures.err

pub returns-else-reached-clause-walk : goal.returns-else-reached-clause-walk
returns-else-reached-clause-walk c = one_passed _ _ _ _ c.if-reached.false
