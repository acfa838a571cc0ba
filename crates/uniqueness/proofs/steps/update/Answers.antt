use Rattle.std.proofs.Common.{rules}
use Rattle.uniqueness.specs.Held.{held_of, helds_of, here_of}
use Rattle.uniqueness.proofs.Stepping.{update_refused, update_done}
use Rattle.uniqueness.proofs.steps.update.Goals as goal

pub returns-in-Some : goal.returns-in-Some
returns-in-Some c = λ scope new. update_refused (here_of scope c.args.here.now) c.args.mark (held_of c.args.array.now) (helds_of c.args.parts.now) new c.args.losses.now c.args.losses.now c.in-Some.rule _ (c.in-Ok-update_broken.ensures scope) c.in-Some.ensures

pub returns-in-Ok-consume : goal.returns-in-Ok-consume
returns-in-Ok-consume c = λ scope new. update_done (here_of scope c.args.here.now) c.args.mark (held_of c.args.array.now) (helds_of c.args.parts.now) new c.args.losses.now c.consume.new.self c.in-Ok.names.now _ (c.in-Ok-update_broken.ensures scope) c.in-None.ensures (search rules) c.in-Ok-consume.ensures
