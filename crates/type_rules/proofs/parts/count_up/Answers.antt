use Rattle.std.proofs.Common.{arith}
use Rattle.type_rules.proofs.Listing.{number_step, number_end, number_start}
use Rattle.type_rules.proofs.parts.count_up.Goals as goal

pub loop-at-init : goal.loop-at-init
loop-at-init c = record { so_far = number_start c.args.first c.args.count _ c.new-list.ensures; within = omega arith }

pub loop-at-preserved : goal.loop-at-preserved
loop-at-preserved c = record {
  so_far = number_step c.loop-at.list c.push.new.self _ c.args.first c.args.count c.loop-at.at c.loop-at-test.true c.in-Ok.ensures.ok c.loop-at.invariant.so_far;
  within = omega (arith, c.loop-at-test.true);
}

pub returns-clause-ok : goal.returns-clause-ok
returns-clause-ok c = number_end c.loop-at.list _ c.args.first c.args.count c.loop-at.at c.loop-at-test.false c.loop-at.invariant.so_far
