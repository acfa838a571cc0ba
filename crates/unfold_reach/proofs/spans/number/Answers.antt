use Rattle.std.proofs.Common.{◌∙◌, arith}
use Rattle.std.proofs.lemmas.List.{length-set}
use Rattle.unfold_reach.proofs.SpanForms.{spans_more}
use Rattle.unfold_reach.proofs.spans.number.Goals as goal

pub loop-definition-preserved : goal.loop-definition-preserved
loop-definition-preserved c = (
  spans_more _ _ _ _ _ _ _ c.loop-definition.invariant.1 c.loop-definition-test.true c.loop-definition.invariant.2 c.loop-definition.invariant.0 c.in_ok-first.ensures c.in_ok-behind.ensures,
  omega (arith, c.loop-definition.invariant.1),
  length-set _ _ _ ∙ c.loop-definition.invariant.2,
)
