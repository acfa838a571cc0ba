-- A function.
use Rattle.std.proofs.Common.{rules}
use Rattle.elab_exps.proofs.ValueLaws.{value_some}
use Rattle.elab_exps.proofs.values.definition_value.Goals as goal

pub returns : goal.returns
returns c =
    value_some c.args.params.now c.args.ty c.args.value.now _ _ _ _ _ _ _ _
    (search rules) c.resolved_parameters-pats.ensures c.resolved_body-body.ensures c.height-height.ensures c.leave.ensures.scope c.leave.ensures.made c.lambda.ensures
