use Rattle.std.proofs.Common.{arith}
use Rattle.type_primitives.proofs.Listing.{variable_step, variable_end}
use Rattle.type_primitives.proofs.uses.push_variables.Goals as goal

pub loop-at-preserved : goal.loop-at-preserved
loop-at-preserved c = record {
  so_far = variable_step c.loop-at.demands c.push_demand.new.demands _ c.args.places c.args.first c.args.count c.loop-at.at c.loop-at-test.true c.in-Ok.ensures.ok c.loop-at.invariant.so_far;
  within = omega (arith, c.loop-at-test.true);
}

pub returns-clause-ok : goal.returns-clause-ok
returns-clause-ok c = variable_end c.loop-at.demands _ c.args.places c.args.first c.args.count c.loop-at.at c.loop-at-test.false c.loop-at.invariant.so_far
