use Rattle.size_arena.proofs.WithinForms.{within_hole, within_open, within_fun, within_level, within_built, within_more, within_end}
use Rattle.size_arena.proofs.levels.+within.Goals as goal

pub past_within-returns-in-Hole : goal.past_within-returns-in-Hole
past_within-returns-in-Hole t c = within_hole c.args.tree.now c.args.first c.in-Hole.field-0 c.in-Hole.is

pub past_within-returns-in-Open : goal.past_within-returns-in-Open
past_within-returns-in-Open t c = within_open c.args.tree.now c.args.first c.in-Open.node c.in-Open.variable c.in-Open.ty c.in-Open.is

pub past_within-returns-in_ok-next-in-Fun : goal.past_within-returns-in_ok-next-in-Fun
past_within-returns-in_ok-next-in-Fun t c = within_fun c.args.tree.now c.args.first c.in-Fun.height c.in-Fun.chosen c.in_ok-next-in-Fun.next c.in-Fun.from c.in-Fun.to c.past_within-in-Fun-2.result c.in-Fun.is c.in_ok-next-in-Fun.ensures c.past_within-in-Fun-2.ensures

pub past_within-returns-in-Some : goal.past_within-returns-in-Some
past_within-returns-in-Some t c = within_level c.args.tree.now c.args.first c.in-Level.height c.in-Some.next c.in-Level.size c.in-Level.row c.past_within.result c.in-Level.is c.in-Some.ensures.1 c.past_within.ensures

pub past_within-returns-in-Built : goal.past_within-returns-in-Built
past_within-returns-in-Built t c = within_built c.args.tree.now c.args.first c.in-Built.height c.in-Built.head c.in-Built.parts c.past_all_within.result c.in-Built.is c.past_all_within.ensures

pub past_all_within-loop-part-preserved : goal.past_all_within-loop-part-preserved
past_all_within-loop-part-preserved t c = within_more c.args.parts.now c.loop-part.part-index _ c.loop-part.next c.part-item.result c.in_ok-next.next c.loop-part-test.true c.loop-part.invariant (rw (← c.part-item.is) c.in_ok-next.ensures)

pub past_all_within-returns : goal.past_all_within-returns
past_all_within-returns t c = within_end c.args.parts.now c.loop-part.part-index _ c.loop-part.next c.loop-part-test.false c.loop-part.invariant
