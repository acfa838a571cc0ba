use Rattle.array_primitives.proofs.Asking.{row_beyond}
use Rattle.array_primitives.proofs.cuts.cut_at.Goals as goal

pub returns-then-i-size : goal.returns-then-i-size
returns-then-i-size c = rw c.failed-then-i-size.ensures (row_beyond c.args.at c.args.size c.args.index c.in-Natural.i c.in-Natural.is c.if-i-size.true)
