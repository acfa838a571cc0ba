use Rattle.std.proofs.Common.{◌∙◌, arith}
use Rattle.std.proofs.lemmas.List.{length-set}
use Rattle.unfold_reach.proofs.Marking.{marked_start, marked_more}
use Rattle.unfold_reach.proofs.mark.Goals as goal

pub loop-at-init : goal.loop-at-init
loop-at-init c = (λ z w. marked_start z _ _ _ _ _ _ c.requires.below c.requires.named c.name.ensures c.requires.flags (omega arith), omega arith, c.requires.flags)

pub loop-at-preserved : goal.loop-at-preserved
loop-at-preserved c = (
  λ z w. marked_more z _ _ _ _ w c.requires.spans _ _ _ _ _ _ _ (omega (arith, c.loop-at-test.true)) c.loop-at.invariant.1 (c.loop-at.invariant.0 z w) c.note_definition.ensures,
  omega (arith, c.loop-at.invariant.1),
  length-set _ _ _ ∙ c.loop-at.invariant.2,
)
