use Rattle.std.proofs.Common.{sym, ◌∙◌, arith}
use Rattle.fut_primitives.specs.Table.{name}
use Rattle.fut_primitives.proofs.Searching.{found, passed, missing}
use Rattle.fut_primitives.proofs.names.first_primitive.Goals as goal

pub returns-then-has_name : goal.returns-then-has_name
returns-then-has_name c = found name c.args.word.now c.args.primitives.now c.loop-at.at _ c.loop-at-test.true _ (sym c.has_name.ensures ∙ c.if-has_name.true) c.loop-at.invariant

pub loop-at-preserved : goal.loop-at-preserved
loop-at-preserved c = passed name c.args.word.now c.args.primitives.now c.loop-at.at _ c.loop-at-test.true _ (sym c.has_name.ensures ∙ c.if-has_name.false) c.loop-at.invariant

pub returns : goal.returns
returns c = missing name c.args.word.now c.args.primitives.now c.loop-at.at _ (omega (arith, c.loop-at-test.false)) c.loop-at.invariant
