use Rattle.std.proofs.Common.{arith}
use Rattle.type_rules.proofs.Listing.{part_step, part_end}
use Rattle.type_rules.proofs.parts.parts_list.Goals as goal

pub loop-at-preserved : goal.loop-at-preserved
loop-at-preserved c = record {
  so_far = part_step c.loop-at.list _ c.args.id c.args.row.now c.args.parts.now c.loop-at.at c.push_demand.new.demands c.requires c.loop-at-test.true c.in-Ok.ensures.ok c.loop-at.invariant.so_far;
  within = omega (arith, c.loop-at-test.true);
}

pub returns-clause-ok : goal.returns-clause-ok
returns-clause-ok c = part_end c.loop-at.list _ c.args.id c.args.row.now c.args.parts.now c.loop-at.at c.loop-at-test.false c.loop-at.invariant.so_far
