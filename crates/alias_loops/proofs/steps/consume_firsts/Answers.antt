use Rattle.alias_loops.proofs.StepForms.{consuming_more}
use Rattle.alias_loops.proofs.steps.consume_firsts.Goals as goal

pub loop-i-preserved : goal.loop-i-preserved
loop-i-preserved c = consuming_more c.args.carried.now c.args.losses.now c.loop-i.i _ c.loop-i.losses c.consume_first.new.losses c.loop-i-test.true c.loop-i.invariant c.in_ok-consume_first.ensures
