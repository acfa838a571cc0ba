use Rattle.told_rows.proofs.ArgumentForms.{not_two, replicated_told}
use Rattle.told_rows.proofs.arguments.replicated.Goals as goal

pub returns-then-arguments-ne2 : goal.returns-then-arguments-ne2
returns-then-arguments-ne2 c = not_two _ c.unknown.ensures c.args.arguments.now c.if-arguments-ne2.true

pub returns : goal.returns
returns c = replicated_told c.args.arguments.now _ _ c.array_told.result c.if-arguments-ne2.false c.array_told.ensures
