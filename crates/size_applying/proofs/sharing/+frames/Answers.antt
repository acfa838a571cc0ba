use Rattle.size_applying.proofs.SharingForms.{all_within, fun_within, hole_within, level_within, open_within, within_end, within_more}
use Rattle.size_applying.proofs.sharing.+frames.Goals as goal

pub frames_around-returns-in-Hole : goal.frames_around-returns-in-Hole
frames_around-returns-in-Hole t c = hole_within c.args.tree.now c.in-Hole.field-0 c.in-Hole.is

pub frames_around-returns-in-Open : goal.frames_around-returns-in-Open
frames_around-returns-in-Open t c = open_within c.args.tree.now c.in-Open.node c.in-Open.variable c.in-Open.ty c.in-Open.is

pub frames_around-returns-in_ok-under-in-Level : goal.frames_around-returns-in_ok-under-in-Level
frames_around-returns-in_ok-under-in-Level t c = level_within c.args.tree.now c.in-Level.height c.in-Level.size c.in-Level.row c.in_ok-own-in-Level.own c.in_ok-under-in-Level.under c.greater.result c.in-Level.is
    c.in_ok-own-in-Level.ensures c.in_ok-under-in-Level.ensures c.greater.ensures.left c.greater.ensures.right

pub frames_around-returns-in-Built : goal.frames_around-returns-in-Built
frames_around-returns-in-Built t c = all_within c.args.tree.now c.in-Built.height c.in-Built.head c.in-Built.parts c.frames_around_all.result c.in-Built.is c.frames_around_all.ensures

pub frames_around-returns-in_ok-given-in-Fun : goal.frames_around-returns-in_ok-given-in-Fun
frames_around-returns-in_ok-given-in-Fun t c = fun_within c.args.tree.now c.in-Fun.height c.in-Fun.chosen c.in-Fun.from c.in-Fun.to c.in_ok-taken-in-Fun.taken c.in_ok-given-in-Fun.given c.greater-in-Fun.result c.less_one.result c.in-Fun.is
    c.in_ok-taken-in-Fun.ensures c.in_ok-given-in-Fun.ensures c.greater-in-Fun.ensures.left c.greater-in-Fun.ensures.right c.less_one.ensures

pub frames_around_all-loop-part-preserved : goal.frames_around_all-loop-part-preserved
frames_around_all-loop-part-preserved t c = within_more c.args.parts.now c.loop-part.part-index c.loop-part.most c.in_ok-count.count c.greater-most.result c.part-item.result c.loop-part-test.true c.loop-part.invariant (rw (← c.part-item.is) c.in_ok-count.ensures)
    c.greater-most.ensures.left c.greater-most.ensures.right

pub frames_around_all-returns : goal.frames_around_all-returns
frames_around_all-returns t c = within_end c.args.parts.now c.loop-part.part-index c.loop-part.most c.loop-part-test.false c.loop-part.invariant
