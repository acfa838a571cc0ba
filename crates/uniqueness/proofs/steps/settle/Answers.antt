use Rattle.uniqueness.specs.Held.{helds_of, here_of}
use Rattle.uniqueness.proofs.Stepping.{settle_refused, settle_done}
use Rattle.uniqueness.proofs.steps.settle.Goals as goal

pub returns-in-Some : goal.returns-in-Some
returns-in-Some c = λ scope. settle_refused (here_of scope c.args.here.now) (helds_of c.args.parts.now) c.args.losses.now c.in-Some.rule _ c.in-Ok.ensures c.in-Some.ensures

pub returns-in-None : goal.returns-in-None
returns-in-None c = λ scope. settle_done (here_of scope c.args.here.now) (helds_of c.args.parts.now) c.args.losses.now _ c.in-Ok.ensures c.in-None.ensures
