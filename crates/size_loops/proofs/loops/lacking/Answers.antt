use Rattle.std.proofs.Common.{rules}
use Rattle.size_arena.specs.Trees.{size_of}
use Rattle.size_loops.proofs.LackForms.{none_lacks}
use Rattle.size_loops.proofs.loops.lacking.Goals as goal

pub returns-then-dropped-eq0 : goal.returns-then-dropped-eq0
returns-then-dropped-eq0 c = λ N types. none_lacks N types c.args.node c.args.dropped.now 0 (size_of c.args.tree.now) (search rules)
