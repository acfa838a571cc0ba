use Rattle.uniqueness.specs.Held.{held_of, helds_of}
use Rattle.alias_applications.specs.Givens.{givens_of}
use Rattle.alias_applications.specs.Rules.{before_call, behind_call}
use Rattle.alias_applications.proofs.CallForms.{allowed_as}
use Rattle.alias_applications.proofs.calls.call_allowed.Goals as goal

pub returns : goal.returns
returns c = allowed_as c.args.here.now.asked (before_call c.args.here.now.fixed.now c.args.here.now.loop_from c.args.here.now.function_from (givens_of c.args.all.now)) (behind_call (held_of c.args.head.now) (givens_of c.args.all.now)) (held_of c.args.head.now) (helds_of c.args.arguments.now) c.args.losses.now _ _ c.allowed.result c.in-Ok.ensures c.in-Ok-behind_call.ensures c.allowed.ensures
