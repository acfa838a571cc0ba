use Rattle.std.proofs.Common.{get_or, false, refl, ap, arith}
use Rattle.unfold_measure.proofs.Definitions.{from_start, from_more, from_stops, from_done}
use Rattle.unfold_measure.proofs.program.walk_definitions.Goals as goal

pub loop-definition-init : goal.loop-definition-init
loop-definition-init c = (λ z r. from_start z _ _ _ c.no_scope.ensures refl refl, refl, omega arith, omega arith)

pub returns-in-Err-clause-walk : goal.returns-in-Err-clause-walk
returns-in-Err-clause-walk c = λ z r. from_stops z _ _ _ c.loop-definition.definition-index _ _ _ c.loop-definition-test.true r (ap (λ z. get_or c.args.flags.now z false) c.loop-definition.invariant.1) _ (c.loop-definition.invariant.0 z r) c.in-Err.ensures.walk

pub loop-definition-preserved : goal.loop-definition-preserved
loop-definition-preserved c = (
  λ z r. from_more z _ _ _ c.loop-definition.definition-index _ _ _ c.loop-definition-test.true r (ap (λ z. get_or c.args.flags.now z false) c.loop-definition.invariant.1) _ (c.loop-definition.invariant.0 z r) c.in-Ok.ensures.walk,
  omega (arith, c.loop-definition.invariant.1),
  c.in-Ok.ensures.few,
  c.in-Ok.ensures.flat,
)

pub returns-clause-walk : goal.returns-clause-walk
returns-clause-walk c = λ z r. from_done z _ _ _ _ (omega (arith, c.loop-definition-test.false)) (c.loop-definition.invariant.0 z r)
