use Rattle.std.proofs.Common.{◌-◌, length, refl, arith}
use Rattle.alias_values.specs.Trees.{stars_of}
use Rattle.alias_patterns.proofs.StarForms.{arrows_none, arrows_more}
use Rattle.alias_patterns.proofs.stars.arrows_before.Goals as goal

pub parameters-init : goal.parameters-init
parameters-init c = (arrows_none c.args.parameters.now (stars_of c.args.given.now) (length c.args.parameters.now) c.args.given.now (omega arith) refl, omega arith)

pub parameters-preserved : goal.parameters-preserved
parameters-preserved c = (
  arrows_more c.args.parameters.now (stars_of c.args.given.now) c.parameters.i (c.parameters.i - 1) c.parameters.made.stars.now c.in_ok-stars.stars.now c.index-parameters-i.result (omega (arith, c.parameters-test.true)) c.parameters.invariant.1 c.parameters.invariant.0 c.index-parameters-i.is c.in_ok-stars.ensures,
  omega (arith, c.parameters.invariant.1),
)
