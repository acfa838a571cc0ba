use Rattle.told_rows.proofs.ArgumentForms.{none_zipped, zipped_told}
use Rattle.told_rows.proofs.arguments.zipped_row.Goals as goal

pub returns-then-arguments-eq0 : goal.returns-then-arguments-eq0
returns-then-arguments-eq0 c = none_zipped _ c.unknown.ensures c.args.arguments.now c.if-arguments-eq0.true

pub returns : goal.returns
returns c = zipped_told c.args.arguments.now _ _ c.in_ok-tuple.tuple.now c.in_ok-rows.rows c.array_told.result c.if-arguments-eq0.false c.in_ok-many.ensures c.in_ok-rows.ensures c.in_ok-tuple.ensures c.array_told.ensures
