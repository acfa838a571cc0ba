use Rattle.std.proofs.Common.{arith}
use Rattle.type_rules.proofs.Adding.{on_ok}
use Rattle.type_rules.proofs.Filling.{index_step, index_end}
use Rattle.type_rules.proofs.lists.push_index.Goals as goal

pub loop-at-preserved : goal.loop-at-preserved
loop-at-preserved c = record {
  so_far = index_step c.loop-at.demands c.push_dimension.new.demands _ c.args.places c.args.parts.now c.loop-at.at c.args.array c.args.whole _ c.loop-at-test.true c.in-Ok.ensures.ok c.loop-at.invariant.so_far;
  within = omega (arith, c.loop-at-test.true);
}

pub returns-clause-ok : goal.returns-clause-ok
returns-clause-ok c = on_ok c.push_demand.result (λ is. index_end c.loop-at.demands c.push_demand.new.demands _ c.args.places c.args.parts.now c.loop-at.at c.args.array c.args.whole c.loop-at-test.false is c.loop-at.invariant.so_far) c.push_demand.ensures.ok
