use Rattle.alias_loops.proofs.TurnForms.{turns_more, turns_same}
use Rattle.alias_loops.proofs.turns.over_all_turns.Goals as goal

pub loop-i-preserved : goal.loop-i-preserved
loop-i-preserved c = turns_more c.args.from c.args.carried.now c.loop-i._i c.loop-i.sets.now c.in_ok-next.next.now c.loop-i-test.true c.loop-i.invariant c.in_ok-next.ensures

pub returns-then-are_same : goal.returns-then-are_same
returns-then-are_same c = turns_same c.args.from c.args.carried.now c.loop-i._i c.loop-i.sets.now c.in_ok-next.next.now c.loop-i.invariant c.in_ok-next.ensures (c.are_same.ensures c.if-are_same.true)
