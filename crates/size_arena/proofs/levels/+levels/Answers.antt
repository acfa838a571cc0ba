use Rattle.size_arena.proofs.LevelForms.{past_hole, past_open, past_fun, past_level, past_built, past_more, past_end}
use Rattle.size_arena.proofs.levels.+levels.Goals as goal

pub past-returns-in-Hole : goal.past-returns-in-Hole
past-returns-in-Hole t c = past_hole c.args.tree.now c.args.first c.in-Hole.field-0 c.in-Hole.is

pub past-returns-in-Open : goal.past-returns-in-Open
past-returns-in-Open t c = past_open c.args.tree.now c.args.first c.in-Open.node c.in-Open.variable c.in-Open.ty c.in-Open.is

pub past-returns-in-Fun : goal.past-returns-in-Fun
past-returns-in-Fun t c = past_fun c.args.tree.now c.args.first c.in-Fun.height c.in-Fun.chosen c.in-Fun.from c.in-Fun.to c.in-Fun.is

pub past-returns-in-Some : goal.past-returns-in-Some
past-returns-in-Some t c = past_level c.args.tree.now c.args.first c.in-Level.height c.in-Some.next c.in-Level.size c.in-Level.row c.past.result c.in-Level.is c.in-Some.ensures.1 c.past.ensures

pub past-returns-in-Built : goal.past-returns-in-Built
past-returns-in-Built t c = past_built c.args.tree.now c.args.first c.in-Built.height c.in-Built.head c.in-Built.parts c.past_all.result c.in-Built.is c.past_all.ensures

pub past_all-loop-part-preserved : goal.past_all-loop-part-preserved
past_all-loop-part-preserved t c = past_more c.args.parts.now c.loop-part.part-index _ c.loop-part.next c.part-item.result c.in_ok-next.next c.loop-part-test.true c.loop-part.invariant (rw (← c.part-item.is) c.in_ok-next.ensures)

pub past_all-returns : goal.past_all-returns
past_all-returns t c = past_end c.args.parts.now c.loop-part.part-index _ c.loop-part.next c.loop-part-test.false c.loop-part.invariant
