use Rattle.size_arena.specs.Trees.{size_of}
use Rattle.size_applying.proofs.SharingForms.{fun_apart, fun_within}
use Rattle.size_applying.proofs.sharing.+arrows_of.Goals as goal

pub returns-in_ok-apart-in-Fun-clause-apart : goal.returns-in_ok-apart-in-Fun-clause-apart
returns-in_ok-apart-in-Fun-clause-apart t c = fun_apart c.args.tree.now c.in-Fun.height c.in-Fun.chosen c.in_ok-apart-in-Fun.apart c.in-Fun.from c.in-Fun.to c.in-Fun.is
    (c.in_ok-apart-in-Fun.ensures c.in-Fun.chosen (size_of c.in-Fun.from.now) (size_of c.in-Fun.to.now) c.in_ok-behind-in-Fun.ensures.frames c.in_ok-behind-in-Fun.ensures.apart)

pub returns-in_ok-apart-in-Fun-clause-frames : goal.returns-in_ok-apart-in-Fun-clause-frames
returns-in_ok-apart-in-Fun-clause-frames t c = fun_within c.args.tree.now c.in-Fun.height c.in-Fun.chosen c.in-Fun.from c.in-Fun.to c.in_ok-taken-in-Fun.taken c.in_ok-behind-in-Fun.behind.frames c.greater.result c.less_one.result c.in-Fun.is
    c.in_ok-taken-in-Fun.ensures c.in_ok-behind-in-Fun.ensures.frames c.greater.ensures.left c.greater.ensures.right c.less_one.ensures
