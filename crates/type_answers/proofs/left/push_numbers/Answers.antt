use Rattle.std.proofs.Common.{arith}
use Rattle.type_answers.proofs.LeftLaws.{pushed_more, pushed_all}
use Rattle.type_answers.proofs.left.push_numbers.Goals as goal

pub loop-rest-preserved : goal.loop-rest-preserved
loop-rest-preserved c = record {
  so_far = pushed_more c.loop-rest.stack _ _ c.loop-rest.at c.loop-rest.rest c.loop-rest-test.true c.in_ok-push.ensures.ok c.loop-rest.invariant.so_far;
  fits = omega (arith, c.loop-rest.invariant.fits, c.loop-rest-test.true);
}

pub returns : goal.returns
returns c = pushed_all c.loop-rest.stack _ c.loop-rest.at c.loop-rest.rest c.loop-rest-test.false c.loop-rest.invariant.so_far
