use Rattle.uniqueness.specs.Held.{held_of, here_of}
use Rattle.alias_values.specs.Trees.{stars_of}
use Rattle.alias_applications.proofs.ResultForms.{back_done, back_not}
use Rattle.alias_applications.proofs.bodies.give_back.Goals as goal

pub returns-then-not-here : goal.returns-then-not-here
returns-then-not-here c = λ naming N K types scope ls. back_not naming N K types (here_of scope c.args.here.now) (stars_of c.args.stars.now) (held_of c.args.held.now) ls c.if-not-here.true

pub returns : goal.returns
returns c = λ naming N K types scope ls. back_done naming N K types (here_of scope c.args.here.now) (stars_of c.args.stars.now) (held_of c.args.held.now) ls c.in-Ok.broken c.demanded.result c.in-Ok.ensures (c.demanded.ensures ls)
