use Rattle.fut_aliases.specs.Calls.{too_hungry, too_shared}
use Rattle.uniqueness.specs.Held.{held_of}
use Rattle.alias_values.specs.Trees.{stars_of}
use Rattle.alias_applications.proofs.ResultForms.{fits_as}
use Rattle.alias_applications.proofs.bodies.fits.Goals as goal

pub returns : goal.returns
returns c = λ ls. fits_as c.args.here.now.asked c.in-Ok.hungry c.in-Ok-too_shared.less c.first_of.result (too_hungry (stars_of c.args.stars.now) (held_of c.args.held.now)) (too_shared (stars_of c.args.stars.now) (held_of c.args.held.now)) ls c.demanded.result c.in-Ok.ensures c.in-Ok-too_shared.ensures c.first_of.ensures (c.demanded.ensures ls)
