use Rattle.size_operations.specs.Values.{free_held}
use Rattle.size_operations.proofs.ValueForms.{value_body}
use Rattle.size_operations.proofs.values.+plain_value.Goals as goal

pub returns-then-row-eq0 : goal.returns-then-row-eq0
returns-then-row-eq0 t c = value_body c.args.exp.now c.in-Lets.row c.in-Lets.body c.in-Lets.is (free_held c.plain_value.result) c.if-row-eq0.true c.plain_value.ensures
