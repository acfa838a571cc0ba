use Rattle.std.proofs.Common.{ap, ◌∙◌}
use Rattle.size_arena.specs.Trees.{sizes_of}
use Rattle.size_slots.proofs.ReadLaws.{hole_whole, open_whole, still_open, level_whole, built_whole, fun_whole, wholes_more, wholes_over}
use Rattle.size_slots.proofs.reading.+read.Goals as goal

pub read-returns-in-Hole : goal.read-returns-in-Hole
read-returns-in-Hole t c = hole_whole c.args.table.now c.args.tree.now c.in-Hole.field-0 c.in-Hole.is

pub read-returns-in-Some : goal.read-returns-in-Some
read-returns-in-Some t c =
    open_whole c.args.table.now c.args.tree.now c.in-Open.node c.in-Open.variable c.in-Open.ty c.as_slice.result.now c.in-Open.is c.as_slice.ensures c.in-Some.size c.with_sizes.result c.in-Some.ensures c.with_sizes.ensures

pub read-returns-in-None : goal.read-returns-in-None
read-returns-in-None t c = still_open c.args.table.now c.args.tree.now c.in-Open.node c.in-Open.variable c.in-Open.ty c.as_slice.result.now c.in-Open.is c.as_slice.ensures c.in-None.ensures

pub read-returns-in_ok-under-in-Level : goal.read-returns-in_ok-under-in-Level
read-returns-in_ok-under-in-Level t c =
    level_whole c.args.table.now c.args.tree.now c.in-Level.height c.in-Level.size c.read_dim.result c.in-Level.row c.in_ok-under-in-Level.under c.level.result c.in-Level.is c.read_dim.ensures c.in_ok-under-in-Level.ensures c.level.ensures

pub read-returns-in_ok-made-in-Built : goal.read-returns-in_ok-made-in-Built
read-returns-in_ok-made-in-Built t c =
    built_whole c.args.table.now c.args.tree.now c.in-Built.height c.in-Built.head c.in-Built.parts c.in_ok-made-in-Built.made c.built.result c.in-Built.is c.in_ok-made-in-Built.ensures c.built.ensures

pub read-returns-in_ok-given-in-Fun : goal.read-returns-in_ok-given-in-Fun
read-returns-in_ok-given-in-Fun t c =
    fun_whole c.args.table.now c.args.tree.now c.in-Fun.height c.in-Fun.chosen c.in-Fun.from c.in-Fun.to c.in_ok-taken-in-Fun.taken c.in_ok-given-in-Fun.given c.function.result c.in-Fun.is c.in_ok-taken-in-Fun.ensures c.in_ok-given-in-Fun.ensures c.function.ensures

pub all_read-loop-part-preserved : goal.all_read-loop-part-preserved
all_read-loop-part-preserved t c =
    wholes_more c.args.table.now c.args.parts.now c.loop-part.part-index c.loop-part.made.items c.loop-part.invariant c.part-item.result c.in_ok-after.after.now c.push.new.self.items c.loop-part-test.true
    (rw (← c.part-item.is) c.in_ok-after.ensures) c.in_ok-push.ensures.items

pub all_read-returns : goal.all_read-returns
all_read-returns t c = λ σ held. ap sizes_of c.into_bump_slice.ensures ∙ wholes_over c.args.table.now c.args.parts.now c.loop-part.part-index c.loop-part.made.items c.loop-part.invariant c.loop-part-test.false σ held
