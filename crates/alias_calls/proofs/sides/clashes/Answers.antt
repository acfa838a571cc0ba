use Rattle.alias_calls.proofs.ClashForms.{all_here}
use Rattle.alias_calls.proofs.sides.clashes.Goals as goal

pub returns-in-Some : goal.returns-in-Some
returns-in-Some c = all_here c.args.sides.now c.loop-i.i c.loop-i.invariant _ _ _ c.split_at.ensures.front c.split_at-in-loop-i.ensures.back c.in-Some.broken c.loop-i-test.true c.in-Some.ensures
