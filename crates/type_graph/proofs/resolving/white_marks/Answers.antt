use Rattle.std.proofs.Common.{◌+◌, length, ap, ◌∙◌, arith}
use Rattle.type_graph.specs.Resolving.{mark_at}
use Rattle.type_graph.proofs.Marks.{white_none, white_push, long_push}
use Rattle.type_graph.proofs.resolving.white_marks.Goals as goal

pub loop-at-init : goal.loop-at-init
loop-at-init c = record { long = ap length c.new-marks.ensures; white = λ i. ap (λ m. mark_at m i) c.new-marks.ensures ∙ white_none i; within = omega arith }

pub loop-at-preserved : goal.loop-at-preserved
loop-at-preserved c = record {
  long = long_push c.loop-at.marks c.push.new.self c.in_ok-push.ensures.ok ∙ ap (λ n. n + 1) c.loop-at.invariant.long;
  white = white_push c.loop-at.marks c.push.new.self c.in_ok-push.ensures.ok c.loop-at.invariant.white;
  within = omega (arith, c.loop-at-test.true);
}
