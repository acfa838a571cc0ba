use Rattle.uniqueness.specs.Held.{held_of, helds_of}
use Rattle.alias_applications.specs.Givens.{givens_of}
use Rattle.alias_applications.specs.Rules.{before_partial, behind_partial}
use Rattle.alias_applications.proofs.CallForms.{allowed_as}
use Rattle.alias_applications.proofs.calls.partial_allowed.Goals as goal

pub returns : goal.returns
returns c = allowed_as c.args.here.now.asked (before_partial (held_of c.args.head.now) (givens_of c.args.all.now)) (behind_partial (givens_of c.args.all.now)) (held_of c.args.head.now) (helds_of c.args.arguments.now) c.args.losses.now _ _ c.allowed.result c.in-Ok.ensures c.in-Ok-first_shared.ensures c.allowed.ensures
