use Rattle.size_arena.specs.Trees.{dim_of, size_of}
use Rattle.entry_sizes.proofs.Wanting.{level_taken}
use Rattle.entry_sizes.proofs.wanted.sizes_wanted.Goals as goal

pub loop-left-preserved : goal.loop-left-preserved
loop-left-preserved c = level_taken c.args.frames.now c.loop-left.sizes c.push.new.self c.loop-left.left (size_of c.loop-left.cursor.tree.now) (size_of c.in-Some.level.row.now) (dim_of c.in-Some.level.size) c.in-Ok.size _
    c.loop-left-test.true c.in-Some.ensures c.in-Ok.ensures.ok c.in_ok-push-in-Ok.ensures.ok c.loop-left.invariant
