use Rattle.std.proofs.Common.{◌+◌, length, ap, ◌∙◌, arith}
use Rattle.type_answers.specs.Left.{seen_at}
use Rattle.type_answers.proofs.LeftLaws.{unseen_none, unseen_push, long_push}
use Rattle.type_answers.proofs.left.unseen.Goals as goal

pub loop-at-init : goal.loop-at-init
loop-at-init c = record { long = ap length c.new-seen.ensures; none = λ i. ap (λ s. seen_at s i) c.new-seen.ensures ∙ unseen_none i; within = omega arith }

pub loop-at-preserved : goal.loop-at-preserved
loop-at-preserved c = record {
  long = ap length c.in_ok-push.ensures.ok ∙ long_push c.loop-at.seen ∙ ap (λ n. n + 1) c.loop-at.invariant.long;
  none = λ i. ap (λ s. seen_at s i) c.in_ok-push.ensures.ok ∙ unseen_push c.loop-at.seen i (c.loop-at.invariant.none i);
  within = omega (arith, c.loop-at-test.true);
}
