use Rattle.alias_applications.proofs.CallForms.{consume_more}
use Rattle.alias_applications.proofs.calls.consume_given.Goals as goal

pub loop-i-preserved : goal.loop-i-preserved
loop-i-preserved c = consume_more c.args.all.now c.args.losses.now c.loop-i.losses c.loop-i.i c.loop-i.invariant c.index-all-i.result c.in-Ok.set.now c.consume.new.self c.loop-i-test.true (rw (← c.index-all-i.is) c.in-Ok.ensures) (rw (← c.index-all-i.is) c.in-Ok-consume.ensures)
