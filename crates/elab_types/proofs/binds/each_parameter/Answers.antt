-- One more parameter is resolved, and its names are in scope.
use Rattle.elab_types.proofs.BindLaws.{param_put, param_put_stops, param_start, params_end}
use Rattle.elab_types.proofs.binds.each_parameter.Goals as goal

pub loop-param-init : goal.loop-param-init
loop-param-init c = param_start _ _ _ c.requires

pub loop-param-preserved : goal.loop-param-preserved
loop-param-preserved c = param_put _ _ _ _ _ _ c.param-item.result _ _ _ _ _ c.loop-param-test.true c.param-item.is c.resolved_pattern-next.ensures c.brought.ensures c.in-Ok.ensures c.loop-param.invariant

pub returns-in-Err : goal.returns-in-Err
returns-in-Err c = param_put_stops _ _ _ _ _ _ c.param-item.result _ _ _ _ _ c.loop-param-test.true c.param-item.is c.resolved_pattern-next.ensures c.brought.ensures c.in-Err.ensures c.loop-param.invariant

pub returns : goal.returns
returns c = params_end _ _ _ _ _ _ c.loop-param-test.false c.loop-param.invariant
