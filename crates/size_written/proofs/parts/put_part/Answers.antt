use Rattle.std.proofs.Common.{arith}
use Rattle.size_arena.specs.Trees.{size_of}
use Rattle.size_written.proofs.PartForms.{part_put, put_short, put_nowhere}
use Rattle.size_written.proofs.parts.put_part.Goals as goal

pub returns-then-at-len : goal.returns-then-at-len
returns-then-at-len c = λ p t. put_short c.args.row.now.items c.args.place p t c.in-Some.at (λ old. size_of c.args.new.now) c.in-Some.is (omega (arith, c.if-at-len.true, c.len-in-Some.ensures))

pub returns-else-at-len : goal.returns-else-at-len
returns-else-at-len c = λ p t. part_put c.args.row.now.items c.args.place p t c.in-Some.at c.args.new.now c.in-Some.is (omega (arith, c.if-at-len.false, c.len-in-Some.ensures))

pub returns-in-None : goal.returns-in-None
returns-in-None c = λ p t. put_nowhere c.args.row.now.items c.args.place p t (λ old. size_of c.args.new.now) c.in-None.is (omega (arith, c.in_ok-short.ensures, c.len.ensures))
