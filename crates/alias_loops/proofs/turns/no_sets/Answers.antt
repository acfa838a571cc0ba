use Rattle.alias_loops.proofs.TurnForms.{empty_more}
use Rattle.alias_loops.proofs.turns.no_sets.Goals as goal

pub loop-i-preserved : goal.loop-i-preserved
loop-i-preserved c = empty_more c.args.carried.now c.loop-i._i c.loop-i.made.items c.push.new.self.items c.no_alias.result c.loop-i-test.true c.loop-i.invariant c.no_alias.ensures c.in_ok-push.ensures.items
