use Rattle.alias_applications.proofs.SideForms.{sides_more}
use Rattle.alias_applications.proofs.sides.+add_sides.Goals as goal

pub add_all_sides-loop-i-preserved : goal.add_all_sides-loop-i-preserved
add_all_sides-loop-i-preserved t c = sides_more _ c.loop-i.made.items c.args.node c.args.row.now c.args.values.now c.loop-i.i c.loop-i.invariant c.index-row-i.result c.index-values-i.result _ c.loop-i-test.true c.if-i-values.false (rw (← c.index-row-i.is, ← c.index-values-i.is) c.in_ok-add_sides.ensures)
