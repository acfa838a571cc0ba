use Rattle.array_primitives.proofs.Asking.{end_beyond}
use Rattle.array_primitives.proofs.cuts.cut_between.Goals as goal

pub returns-then-j-size : goal.returns-then-j-size
returns-then-j-size c = rw c.failed-then-j-size.ensures (end_beyond c.args.at c.args.size c.args.from c.args.to c.in-Natural.i c.in-Natural.is c.in-Natural-to.j c.in-Natural-to.is c.if-j-size.true)
