use Rattle.std.proofs.Common.{ap, ◌∙◌}
use Rattle.size_arena.specs.Trees.{sizes_of}
use Rattle.size_loops.proofs.LackForms.{hole_stays, open_stays, function_stays, level_lacks, built_lacks, parts_lack_start, parts_lack_more, parts_lack_end}
use Rattle.size_loops.proofs.loops.+lacking.Goals as goal

pub lacking_from-returns-in-Hole : goal.lacking_from-returns-in-Hole
lacking_from-returns-in-Hole t c = λ N types. hole_stays N types c.args.node c.args.dropped.now c.args.first c.args.tree.now _ c.in-Hole.is

pub lacking_from-returns-in-Open : goal.lacking_from-returns-in-Open
lacking_from-returns-in-Open t c = λ N types. open_stays N types c.args.node c.args.dropped.now c.args.first c.args.tree.now _ _ _ c.in-Open.is

pub lacking_from-returns-in-Fun : goal.lacking_from-returns-in-Fun
lacking_from-returns-in-Fun t c = λ N types. function_stays N types c.args.node c.args.dropped.now c.args.first c.args.tree.now _ _ _ _ c.in-Fun.is

pub lacking_from-returns-in_ok-under-in-Level : goal.lacking_from-returns-in_ok-under-in-Level
lacking_from-returns-in_ok-under-in-Level t c = λ N types.
    level_lacks N types c.args.node c.args.dropped.now c.args.first c.args.tree.now c.in-Level.height c.in_ok-next-in-Level.next c.in-Level.size c.lacking_dim.result c.in-Level.row c.in_ok-under-in-Level.under c.level.result
    c.in-Level.is c.in_ok-next-in-Level.ensures c.lacking_dim.ensures (c.in_ok-under-in-Level.ensures N types) c.level.ensures

pub lacking_from-returns-in_ok-made-in-Built : goal.lacking_from-returns-in_ok-made-in-Built
lacking_from-returns-in_ok-made-in-Built t c = λ N types.
    built_lacks N types c.args.node c.args.dropped.now c.args.first c.args.tree.now c.in-Built.height c.in-Built.head c.in-Built.parts c.in_ok-made-in-Built.made c.built.result c.in-Built.is (c.in_ok-made-in-Built.ensures N types) c.built.ensures

pub all_lacking-loop-part-init : goal.all_lacking-loop-part-init
all_lacking-loop-part-init t c = λ N types. parts_lack_start N types c.args.node c.args.first c.args.dropped.now c.args.parts.now _ c.new-made.ensures.items

pub all_lacking-loop-part-preserved : goal.all_lacking-loop-part-preserved
all_lacking-loop-part-preserved t c = λ N types.
    parts_lack_more N types c.args.node c.args.first c.args.dropped.now c.args.parts.now c.loop-part.part-index c.loop-part.number c.loop-part.made.items (c.loop-part.invariant N types)
    c.part-item.result c.in_ok-after.after.now c.in_ok-number.number c.push.new.self.items c.loop-part-test.true (rw (← c.part-item.is) (c.in_ok-after.ensures N types)) (rw (← c.part-item.is) c.in_ok-number.ensures) c.in_ok-push.ensures.items

pub all_lacking-returns : goal.all_lacking-returns
all_lacking-returns t c = λ N types. ap sizes_of c.into_bump_slice.ensures ∙ parts_lack_end N types c.args.node c.args.first c.args.dropped.now c.args.parts.now c.loop-part.part-index c.loop-part.number c.loop-part.made.items (c.loop-part.invariant N types) c.loop-part-test.false
