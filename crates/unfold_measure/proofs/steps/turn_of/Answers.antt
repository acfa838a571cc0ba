use Rattle.unfold_measure.proofs.Stepping.{counted_at, over_at, while_at}
use Rattle.unfold_measure.proofs.steps.turn_of.Goals as goal

pub returns-in-Ok-bound-clause-ok : goal.returns-in-Ok-bound-clause-ok
returns-in-Ok-bound-clause-ok c = counted_at _ c.in-Ok.names _ _ _ c.in-Ok-bound.inside c.in-Ok.ensures.ok c.in-For.is c.known_data.ensures c.in-Ok-bound.ensures.ok

pub returns-in-Ok-bind_data-clause-ok : goal.returns-in-Ok-bind_data-clause-ok
returns-in-Ok-bind_data-clause-ok c = over_at _ c.in-Ok.names _ _ c.in-Ok-bind_data.inside c.in-Ok.ensures.ok c.in-ForIn.is c.in-Ok-bind_data.ensures.ok

pub returns-in-While-clause-ok : goal.returns-in-While-clause-ok
returns-in-While-clause-ok c = while_at _ c.in-Ok.names _ c.in-Ok.ensures.ok c.in-While.is
