use Rattle.std.proofs.Common.{◌+◌, drop, get_or}
use Rattle.std.proofs.lemmas.List.{drop_more}
use Rattle.fut_scalar.specs.declared.sizes.Dim.TheVariants as dim
use Rattle.value_text.specs.Sizes.{size_for, sizes_for}
use Rattle.value_text.proofs.Agreed as laws
use Rattle.value_text.proofs.sizes.sizes_for.Goals as goal

pub returns-then-at-sizes-clause-ok : goal.returns-then-at-sizes-clause-ok
returns-then-at-sizes-clause-ok c = λ list s. laws.ends _ _ _ (c.loop-at.invariant list s) (laws.sizes_done c.args.param c.loop-at.at c.args.dims.now c.args.sizes.now c.if-at-sizes.true)

pub returns-in-Err-clause-err : goal.returns-in-Err-clause-err
returns-in-Err-clause-err c = λ list s.
    laws.clash _ _ _ (c.loop-at.invariant list s) (size_for c.args.param (get_or c.args.dims.now c.loop-at.at (dim.Const 0)) (get_or c.args.sizes.now c.loop-at.at 0)) (sizes_for c.args.param (drop (c.loop-at.at + 1) c.args.dims.now) (drop (c.loop-at.at + 1) c.args.sizes.now))
    (laws.sizes_step c.args.param c.loop-at.at c.args.dims.now c.args.sizes.now _ _ (drop_more _ _ (dim.Const 0) c.loop-at-test.true) (drop_more _ _ 0 c.if-at-sizes.false)) _ c.in-Err.ensures.err

pub loop-at-preserved : goal.loop-at-preserved
loop-at-preserved c = λ list s.
    laws.step _ _ _ (c.loop-at.invariant list s) (size_for c.args.param (get_or c.args.dims.now c.loop-at.at (dim.Const 0)) (get_or c.args.sizes.now c.loop-at.at 0)) (sizes_for c.args.param (drop (c.loop-at.at + 1) c.args.dims.now) (drop (c.loop-at.at + 1) c.args.sizes.now))
    (laws.sizes_step c.args.param c.loop-at.at c.args.dims.now c.args.sizes.now _ _ (drop_more _ _ (dim.Const 0) c.loop-at-test.true) (drop_more _ _ 0 c.if-at-sizes.false)) _ c.in-Ok.ensures.ok
