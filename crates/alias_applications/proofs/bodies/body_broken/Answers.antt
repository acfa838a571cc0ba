use Rattle.uniqueness.specs.Held.{held_of}
use Rattle.alias_values.specs.Trees.{stars_of}
use Rattle.alias_applications.proofs.ResultForms.{body_is}
use Rattle.alias_applications.proofs.bodies.body_broken.Goals as goal

pub returns : goal.returns
returns c = body_is c.args.here.now.function_from c.args.here.now.fixed.now (stars_of c.args.stars.now) (held_of c.args.held.now) c.in_ok-hungry.hungry c.least_shared-shared.result c.in_ok-less.less c.first_of-rest.result c.first_of.result c.in_ok-sides.sides.now c.in_ok-set.set.now
    c.in_ok-hungry.ensures c.in_ok-sides.ensures c.in_ok-set.ensures c.in_ok-less.ensures c.least_shared-shared.ensures c.first_of-rest.ensures c.first_of.ensures
