use Rattle.std.proofs.Common.{sym, ◌∙◌, arith}
use Rattle.fut_primitives.specs.Table.{scalar_name}
use Rattle.fut_primitives.proofs.Searching.{found, passed, missing}
use Rattle.fut_primitives.proofs.names.first_scalar.Goals as goal

pub returns-then-is_called : goal.returns-then-is_called
returns-then-is_called c = found scalar_name c.args.word.now c.args.scalars.now c.loop-at.at _ c.loop-at-test.true _ (sym c.is_called.ensures ∙ c.if-is_called.true) c.loop-at.invariant

pub loop-at-preserved : goal.loop-at-preserved
loop-at-preserved c = passed scalar_name c.args.word.now c.args.scalars.now c.loop-at.at _ c.loop-at-test.true _ (sym c.is_called.ensures ∙ c.if-is_called.false) c.loop-at.invariant

pub returns : goal.returns
returns c = missing scalar_name c.args.word.now c.args.scalars.now c.loop-at.at _ (omega (arith, c.loop-at-test.false)) c.loop-at.invariant
