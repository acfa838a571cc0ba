use Rattle.std.proofs.Common.{arith}
use Rattle.type_rules.proofs.Adding.{on_ok}
use Rattle.type_rules.proofs.Filling.{function_step, function_end}
use Rattle.type_rules.proofs.lists.push_function.Goals as goal

pub loop-at-preserved : goal.loop-at-preserved
loop-at-preserved c = record {
  so_far = function_step c.loop-at.demands c.push_demand.new.demands _ c.args.params.now c.loop-at.at c.args.body c.args.from c.loop-at-test.true c.in-Ok.ensures.ok c.loop-at.invariant.so_far;
  within = omega (arith, c.loop-at-test.true);
}

pub returns-clause-ok : goal.returns-clause-ok
returns-clause-ok c = on_ok c.push_demand-2.result (λ is. function_end c.loop-at.demands c.push_demand-2.new.demands _ c.args.params.now c.loop-at.at c.args.body c.args.from c.loop-at-test.false is c.loop-at.invariant.so_far) c.push_demand-2.ensures.ok
