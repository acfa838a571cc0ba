use Rattle.told_rows.proofs.ArgumentForms.{not_three, unflattened_told}
use Rattle.told_rows.proofs.arguments.unflattened.Goals as goal

pub returns-then-arguments-ne3 : goal.returns-then-arguments-ne3
returns-then-arguments-ne3 c = not_three _ c.unknown.ensures c.args.arguments.now c.if-arguments-ne3.true

pub returns : goal.returns
returns c = unflattened_told c.args.arguments.now _ _ _ c.in_ok-rows.rows c.in_ok-inner.inner.now c.array_told.result c.if-arguments-ne3.false c.in_ok-rows.ensures c.in_ok-inner.ensures c.array_told.ensures
