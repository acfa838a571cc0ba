use Rattle.std.proofs.Common.{arith}
use Rattle.alias_loops.proofs.TurnForms.{same_sets}
use Rattle.alias_loops.proofs.turns.is_same_set.Goals as goal

pub returns : goal.returns
returns c = λ e. same_sets c.args.one.now c.args.other.now c.loop-i.i c.loop-i.invariant (omega (arith, c.loop-i-test.false)) (omega (arith, c.loop-i-test.false, c.if-one-other.false))
