use Rattle.std.proofs.Common.{arith}
use Rattle.size_written.proofs.PartForms.{part_found, part_short, part_nowhere}
use Rattle.size_written.proofs.parts.part_in.Goals as goal

pub returns-then-at-row : goal.returns-then-at-row
returns-then-at-row c = λ p t. part_found c.args.row.now c.args.place p t c.in-Some.at c.index-row-at.result c.in-Some.is c.if-at-row.true c.index-row-at.is

pub returns-else-at-row : goal.returns-else-at-row
returns-else-at-row c = λ p t. part_short c.args.row.now c.args.place p t c.in-Some.at c.in-Some.is (omega (arith, c.if-at-row.false))

pub returns-in-None : goal.returns-in-None
returns-in-None c = λ p t. part_nowhere c.args.row.now c.args.place p t c.in-None.is c.in_ok-short.ensures
