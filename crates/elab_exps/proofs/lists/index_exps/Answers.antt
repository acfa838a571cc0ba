use Rattle.std.proofs.Common.{◌++◌, ◌∙◌, ap}
use Rattle.fut_tree.specs.Names.{all}
use Rattle.elab_exps.specs.Lists.{exps_of}
use Rattle.elab_exps.proofs.ListItems.{index_next, index_end}
use Rattle.elab_exps.proofs.lists.index_exps.Goals as goal

pub loop-ix-preserved : goal.loop-ix-preserved
loop-ix-preserved c = index_next c.args.ixs.now c.loop-ix.ix-index c.ix-item.result _ _ _ c.loop-ix-test.true c.loop-ix.invariant (c.in_ok-push_ix.ensures.exps ∙ ap (λ i. all c.loop-ix.made.items ++ exps_of i) c.ix-item.is)

pub returns-clause-exps : goal.returns-clause-exps
returns-clause-exps c = ap all c.into_bump_slice.ensures ∙ index_end c.args.ixs.now c.loop-ix.ix-index _ _ c.loop-ix-test.false c.loop-ix.invariant
