use Rattle.std.proofs.Common.{ap, ◌∙◌}
use Rattle.size_arena.specs.Trees.{sizes_of}
use Rattle.size_slots.proofs.ReadLaws.{hole_read, open_read, level_read, built_read, fun_read, parts_more, parts_over}
use Rattle.size_slots.proofs.reading.+with_sizes.Goals as goal

pub with_sizes-returns-in-Hole : goal.with_sizes-returns-in-Hole
with_sizes-returns-in-Hole t c = hole_read c.args.table.now c.args.tree.now c.in-Hole.field-0 c.in-Hole.is

pub with_sizes-returns-in-Open : goal.with_sizes-returns-in-Open
with_sizes-returns-in-Open t c = open_read c.args.table.now c.args.tree.now c.in-Open.node c.in-Open.variable c.in-Open.ty c.in-Open.is

pub with_sizes-returns-in_ok-under-in-Level : goal.with_sizes-returns-in_ok-under-in-Level
with_sizes-returns-in_ok-under-in-Level t c =
    level_read c.args.table.now c.args.tree.now c.in-Level.height c.in-Level.size c.read_dim.result c.in-Level.row c.in_ok-under-in-Level.under c.level.result c.in-Level.is c.read_dim.ensures c.in_ok-under-in-Level.ensures c.level.ensures

pub with_sizes-returns-in_ok-made-in-Built : goal.with_sizes-returns-in_ok-made-in-Built
with_sizes-returns-in_ok-made-in-Built t c =
    built_read c.args.table.now c.args.tree.now c.in-Built.height c.in-Built.head c.in-Built.parts c.in_ok-made-in-Built.made c.built.result c.in-Built.is c.in_ok-made-in-Built.ensures c.built.ensures

pub with_sizes-returns-in_ok-given-in-Fun : goal.with_sizes-returns-in_ok-given-in-Fun
with_sizes-returns-in_ok-given-in-Fun t c =
    fun_read c.args.table.now c.args.tree.now c.in-Fun.height c.in-Fun.chosen c.in-Fun.from c.in-Fun.to c.in_ok-taken-in-Fun.taken c.in_ok-given-in-Fun.given c.function.result c.in-Fun.is c.in_ok-taken-in-Fun.ensures c.in_ok-given-in-Fun.ensures c.function.ensures

pub all_with_sizes-loop-part-preserved : goal.all_with_sizes-loop-part-preserved
all_with_sizes-loop-part-preserved t c =
    parts_more c.args.table.now c.args.parts.now c.loop-part.part-index c.loop-part.made.items c.loop-part.invariant c.part-item.result c.in_ok-after.after.now c.push.new.self.items c.loop-part-test.true
    (rw (← c.part-item.is) c.in_ok-after.ensures) c.in_ok-push.ensures.items

pub all_with_sizes-returns : goal.all_with_sizes-returns
all_with_sizes-returns t c = λ σ held j. ap sizes_of c.into_bump_slice.ensures ∙ parts_over c.args.table.now c.args.parts.now c.loop-part.part-index c.loop-part.made.items c.loop-part.invariant c.loop-part-test.false σ held j
