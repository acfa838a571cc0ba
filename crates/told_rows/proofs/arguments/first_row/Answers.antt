use Rattle.told_rows.proofs.ArgumentForms.{none_first, first_told}
use Rattle.told_rows.proofs.arguments.first_row.Goals as goal

pub returns-then-arguments-eq0 : goal.returns-then-arguments-eq0
returns-then-arguments-eq0 c = none_first _ c.unknown.ensures c.args.arguments.now c.if-arguments-eq0.true

pub returns : goal.returns
returns c = first_told c.args.arguments.now _ c.if-arguments-eq0.false
