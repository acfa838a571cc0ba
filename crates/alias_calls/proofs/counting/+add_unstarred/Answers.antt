use Rattle.alias_calls.proofs.CountForms.{all_more, all_end, all_short}
use Rattle.alias_calls.proofs.counting.+add_unstarred.Goals as goal

pub add_all_unstarred-loop-i-preserved : goal.add_all_unstarred-loop-i-preserved
add_all_unstarred-loop-i-preserved t c = all_more c.args.row.now c.args.values.now c.loop-i.i _ c.loop-i.next c.index-row-i.result c.index-values-i.result c.in_ok-next.next c.loop-i-test.true c.if-i-values.false c.loop-i.invariant (rw (← c.index-row-i.is, ← c.index-values-i.is) c.in_ok-next.ensures)

pub add_all_unstarred-returns : goal.add_all_unstarred-returns
add_all_unstarred-returns t c = all_end c.args.row.now c.args.values.now c.loop-i.i _ c.loop-i.next c.loop-i-test.false c.loop-i.invariant

pub add_all_unstarred-returns-then-i-values : goal.add_all_unstarred-returns-then-i-values
add_all_unstarred-returns-then-i-values t c = all_short c.args.row.now c.args.values.now c.loop-i.i _ c.loop-i.next c.loop-i-test.true c.if-i-values.true c.loop-i.invariant
