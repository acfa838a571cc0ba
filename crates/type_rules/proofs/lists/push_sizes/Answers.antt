use Rattle.std.proofs.Common.{arith}
use Rattle.type_rules.proofs.Filling.{sizes_step, sizes_end}
use Rattle.type_rules.proofs.lists.push_sizes.Goals as goal

pub loop-at-preserved : goal.loop-at-preserved
loop-at-preserved c = record {
  so_far = sizes_step c.loop-at.demands _ c.args.parts.now c.loop-at.at c.push_demand.new.demands c.loop-at-test.true c.in-Ok.ensures.ok c.loop-at.invariant.so_far;
  within = omega (arith, c.loop-at-test.true);
}

pub returns-clause-ok : goal.returns-clause-ok
returns-clause-ok c = sizes_end c.loop-at.demands _ c.args.parts.now c.loop-at.at c.loop-at-test.false c.loop-at.invariant.so_far
