use Rattle.std.proofs.Common.{◌+◌, arith}
use Rattle.std.proofs.lemmas.List.{take_rest}
use Rattle.fut_flat.specs.Erased.{term_of}
use Rattle.size_forms.proofs.SplitForms.{none_split, one_more_split, composed_none, composed_some, here_composes}
use Rattle.size_forms.proofs.compositions.plain_lets.Goals as goal

pub loop-count-init : goal.loop-count-init
loop-count-init c = (none_split c.args.row.now (term_of c.args.body.now), omega arith)

pub loop-count-preserved : goal.loop-count-preserved
loop-count-preserved c =
    (one_more_split c.args.row.now (term_of c.args.body.now) c.loop-count.count _ _ c.loop-count.invariant.0 c.loop-count-test.true (take_rest c.args.row.now (c.loop-count.count + 1)) (composed_none c.composition_of.ensures c.in-None.is), omega (arith, c.loop-count-test.true))

pub returns-in-Some-clause-composes : goal.returns-in-Some-clause-composes
returns-in-Some-clause-composes c = λ q. here_composes c.args.row.now (term_of c.args.body.now) c.loop-count.count _ _ c.loop-count-test.true (take_rest c.args.row.now (c.loop-count.count + 1)) (composed_some _ c.composition_of.ensures c.in-Some.is)

pub returns-clause-composes : goal.returns-clause-composes
returns-clause-composes c = λ q. absurd (omega (arith, q, c.loop-count-test.false))
