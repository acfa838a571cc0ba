use Rattle.std.proofs.Common.{◌++◌, ◌∷◌, [], ◌∙◌, ap}
use Rattle.elab_exps.specs.Lists.{part_of}
use Rattle.elab_types.proofs.Mapped.{mapped_next, mapped_end}
use Rattle.elab_exps.proofs.lists.index_kinds.Goals as goal

pub loop-ix-preserved : goal.loop-ix-preserved
loop-ix-preserved c = mapped_next part_of c.args.ixs.now c.loop-ix.ix-index c.ix-item.result _ _ c.loop-ix-test.true c.loop-ix.invariant (c.in-Ok.ensures.items ∙ ap (λ p. c.loop-ix.made.items ++ p ∷ []) (c.part_of.ensures ∙ ap part_of c.ix-item.is))

pub returns-clause-kinds : goal.returns-clause-kinds
returns-clause-kinds c = mapped_end part_of c.args.ixs.now c.loop-ix.ix-index _ _ c.loop-ix-test.false c.loop-ix.invariant c.into_bump_slice.ensures
