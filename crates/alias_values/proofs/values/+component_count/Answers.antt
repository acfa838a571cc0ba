use Rattle.alias_values.proofs.ValueForms.{count_more, count_end}
use Rattle.alias_values.proofs.values.+component_count.Goals as goal

pub all_count-loop-part-preserved : goal.all_count-loop-part-preserved
all_count-loop-part-preserved t c = count_more c.args.parts.now c.loop-part.part-index _ c.loop-part.next c.part-item.result c.in_ok-next.next c.loop-part-test.true c.loop-part.invariant (rw (← c.part-item.is) c.in_ok-next.ensures)

pub all_count-returns : goal.all_count-returns
all_count-returns t c = count_end c.args.parts.now c.loop-part.part-index _ c.loop-part.next c.loop-part-test.false c.loop-part.invariant
