use Rattle.std.proofs.Common.{◌++◌, ◌∷◌, [], ◌∙◌, ap}
use Rattle.fut_tree.specs.Names.{all}
use Rattle.elab_exps.proofs.ListItems.{update_next, update_end}
use Rattle.elab_exps.proofs.lists.update_exps.Goals as goal

pub loop-index-preserved : goal.loop-index-preserved
loop-index-preserved c = update_next c.args.at.now c.loop-index.index-index c.index-item.result _ _ _ c.loop-index-test.true c.loop-index.invariant (c.in-Ok-push.ensures.items ∙ ap (λ h. c.loop-index.made.items ++ h ∷ []) c.index-item.is)

pub returns-clause-exps : goal.returns-clause-exps
returns-clause-exps c = ap all c.into_bump_slice.ensures ∙ update_end c.args.at.now c.loop-index.index-index _ _ _ _ c.loop-index-test.false c.loop-index.invariant c.in-Ok-push-2.ensures.items
