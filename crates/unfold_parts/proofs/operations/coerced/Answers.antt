use Rattle.std.proofs.Common.{arith}
use Rattle.unfold_parts.specs.Answers.{unanswered}
use Rattle.unfold_parts.specs.Refused.{no_memory}
use Rattle.unfold_parts.proofs.Operated.{coerced_many, coerced_test, coerced_same}
use Rattle.unfold_parts.proofs.operations.coerced.Goals as goal

pub returns-then-parts-ne1 : goal.returns-then-parts-ne1
returns-then-parts-ne1 c = coerced_many _ _ _ _ _ _ _ _ _ c.if-parts-ne1.true

pub returns-in-Ok-Some : goal.returns-in-Ok-Some
returns-in-Ok-Some c = coerced_test _ _ _ _ _ _ _ _ _ _ c.in-Ok-Some.wanted _ _ (omega (arith, c.if-parts-ne1.false)) c.in-Ok-Some.field-0-is c.in-Ok-Some.ensures c.tested.ensures

pub returns-in-Ok-None : goal.returns-in-Ok-None
returns-in-Ok-None c = coerced_same _ _ _ _ _ _ _ _ _ (omega (arith, c.if-parts-ne1.false)) c.in-Ok-None.field-0-is c.in-Ok-None.ensures

pub returns-in-Err : goal.returns-in-Err
returns-in-Err c t = unanswered no_memory
