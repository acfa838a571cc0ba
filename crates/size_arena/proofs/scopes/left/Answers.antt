use Rattle.size_arena.proofs.ScopeForms.{left_more, left_here, left_end}
use Rattle.size_arena.proofs.scopes.left.Goals as goal

pub returns-then-name-one : goal.returns-then-name-one
returns-then-name-one c = left_here c.args.names.now c.args.name c.loop-one.one-index c.args.node c.loop-one.number c.loop-one-test.true c.if-name-one.true c.loop-one.invariant

pub loop-one-preserved : goal.loop-one-preserved
loop-one-preserved c = left_more c.args.names.now c.args.name c.loop-one.one-index c.args.node c.loop-one.number c.in-Some.next c.loop-one-test.true c.if-name-one.false c.in-Some.ensures.1 c.loop-one.invariant

pub returns : goal.returns
returns c = left_end c.args.names.now c.args.name c.loop-one.one-index c.args.node c.loop-one.number c.loop-one-test.false c.loop-one.invariant
