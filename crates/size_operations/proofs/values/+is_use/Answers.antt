use Rattle.size_operations.proofs.ValueForms.{use_body}
use Rattle.size_operations.proofs.values.+is_use.Goals as goal

pub returns-then-row-eq0 : goal.returns-then-row-eq0
returns-then-row-eq0 t c = use_body c.args.exp.now c.in-Lets.row c.in-Lets.body c.in-Lets.is c.is_use.result c.if-row-eq0.true c.is_use.ensures
