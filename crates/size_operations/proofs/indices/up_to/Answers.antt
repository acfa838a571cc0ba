use Rattle.size_operations.proofs.IndexForms.{up_to_known}
use Rattle.size_operations.proofs.indices.up_to.Goals as goal

pub returns : goal.returns
returns c = λ d. up_to_known c.args.node c.args.number d c.args.operands.now _ _ c.if-operands-eq0.false c.value_of.ensures
