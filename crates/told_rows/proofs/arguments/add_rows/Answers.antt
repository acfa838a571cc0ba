use Rattle.std.proofs.Common.{refl}
use Rattle.told_rows.proofs.ArgumentForms.{rows_more, rows_over}
use Rattle.told_rows.proofs.arguments.add_rows.Goals as goal

pub loop-row-preserved : goal.loop-row-preserved
loop-row-preserved c = rows_more c.args.rows.now c.loop-row.row-index c.args.made.now.items c.loop-row.made.items c.loop-row.invariant c.row-item.result _ _ c.loop-row-test.true c.row-item.is refl c.in_ok-push.ensures.items

pub returns : goal.returns
returns c = rows_over c.args.rows.now c.loop-row.row-index c.args.made.now.items c.loop-row.made.items c.loop-row.invariant c.loop-row-test.false
