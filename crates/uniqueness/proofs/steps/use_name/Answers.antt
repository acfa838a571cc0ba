use Rattle.uniqueness.specs.Held.{held_of, here_of}
use Rattle.uniqueness.proofs.Stepping.{name_refused, name_done}
use Rattle.uniqueness.proofs.steps.use_name.Goals as goal

pub returns-in-Some : goal.returns-in-Some
returns-in-Some c = λ K scope p n i. name_refused K (here_of scope c.args.here.now) p c.args.name (held_of c.args.head.now) c.args.losses.now c.in-Some.rule _ n i c.in-Ok.ensures c.in-Some.ensures

pub returns-in-None : goal.returns-in-None
returns-in-None c = λ K scope p n i. name_done K (here_of scope c.args.here.now) p c.args.name (held_of c.args.head.now) c.args.losses.now _ n i c.in-Ok.ensures c.in-None.ensures
