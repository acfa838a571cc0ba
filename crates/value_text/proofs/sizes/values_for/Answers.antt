use Rattle.std.proofs.Common.{◌+◌, drop}
use Rattle.value_text.specs.Sizes.{value_for, values_for}
use Rattle.value_text.proofs.Agreed as laws
use Rattle.value_text.proofs.sizes.values_for.Goals as goal

pub returns-then-at-values-clause-ok : goal.returns-then-at-values-clause-ok
returns-then-at-values-clause-ok c = λ list s. laws.ends _ _ _ (c.loop-at.invariant list s) (laws.values_done (c.loop-at.at + 1) c.loop-at.at c.args.types.now c.args.values.now c.if-at-values.true)

pub returns-in-Err-clause-err : goal.returns-in-Err-clause-err
returns-in-Err-clause-err c = λ list s.
    laws.clash _ _ _ (c.loop-at.invariant list s) (value_for (c.loop-at.at + 1) c.index-types-at.result c.index-values-at.result) (values_for (c.loop-at.at + 1 + 1) (drop (c.loop-at.at + 1) c.args.types.now) (drop (c.loop-at.at + 1) c.args.values.now))
    (laws.values_step (c.loop-at.at + 1) c.loop-at.at c.args.types.now c.args.values.now _ _ (laws.next_is _ _ _ _ c.loop-at-test.true c.index-types-at.is) (laws.next_is _ _ _ _ c.if-at-values.false c.index-values-at.is)) _ c.in-Err.ensures.err

pub loop-at-preserved : goal.loop-at-preserved
loop-at-preserved c = λ list s.
    laws.step _ _ _ (c.loop-at.invariant list s) (value_for (c.loop-at.at + 1) c.index-types-at.result c.index-values-at.result) (values_for (c.loop-at.at + 1 + 1) (drop (c.loop-at.at + 1) c.args.types.now) (drop (c.loop-at.at + 1) c.args.values.now))
    (laws.values_step (c.loop-at.at + 1) c.loop-at.at c.args.types.now c.args.values.now _ _ (laws.next_is _ _ _ _ c.loop-at-test.true c.index-types-at.is) (laws.next_is _ _ _ _ c.if-at-values.false c.index-values-at.is)) _ c.in-Ok.ensures.ok
