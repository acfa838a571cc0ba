use Rattle.std.proofs.Common.{sym, ◌∙◌, arith}
use Rattle.unfold_parts.proofs.Fielding.{ahead_on, ahead_here, ahead_all}
use Rattle.unfold_parts.proofs.records.place_of.Goals as goal

pub returns-then-eq-clause-place : goal.returns-then-eq-clause-place
returns-then-eq-clause-place c = ahead_here c.args.name.now c.args.fields.now c.loop-field.field-index _ _ c.loop-field-test.true c.loop-field.invariant.0 (sym c.eq.ensures ∙ c.if-eq.true) c.loop-field.invariant.1

pub loop-field-preserved : goal.loop-field-preserved
loop-field-preserved c = (omega (arith, c.loop-field.invariant.0), ahead_on c.args.name.now c.args.fields.now c.loop-field.field-index _ c.loop-field-test.true (sym c.eq.ensures ∙ c.if-eq.false) c.loop-field.invariant.1)

pub returns-clause-place : goal.returns-clause-place
returns-clause-place c = ahead_all c.args.name.now c.args.fields.now c.loop-field.field-index (omega (arith, c.loop-field-test.false)) c.loop-field.invariant.1
