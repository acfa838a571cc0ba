use Rattle.std.proofs.Common.{sym}
use Rattle.alias_loops.proofs.labels.label_of.Goals as goal

pub returns-in-Some : goal.returns-in-Some
returns-in-Some c = λ N k. k.label c.args.name.now c.in-Some.label (sym c.in-Some.ensures)
