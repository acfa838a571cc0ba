use Rattle.std.proofs.Common.{arith}
use Rattle.unify.proofs.Reading.{row_init, row_step, row_end}
use Rattle.unify.proofs.read.row_of_variables.Goals as goal

pub loop-at-init : goal.loop-at-init
loop-at-init c = record { so_far = row_init c.new-row.result c.args.first c.args.count c.new-row.ensures; within = omega arith }

pub loop-at-preserved : goal.loop-at-preserved
loop-at-preserved c = record {
  so_far = row_step c.loop-at.row c.push.new.self _ c.args.first c.args.count c.loop-at.at c.loop-at-test.true c.in-Ok.ensures.ok c.loop-at.invariant.so_far;
  within = omega (arith, c.loop-at-test.true);
}

pub returns-clause-ok : goal.returns-clause-ok
returns-clause-ok c = row_end c.loop-at.row _ c.args.first c.args.count c.loop-at.at c.loop-at-test.false c.loop-at.invariant.so_far
