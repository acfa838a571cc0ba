use Rattle.std.proofs.Common.{sym, ◌∙◌, arith}
use Rattle.told_rows.proofs.ShapeForms.{field_here, field_on, field_end}
use Rattle.told_rows.proofs.shapes.field_at.Goals as goal

pub returns-then-eq : goal.returns-then-eq
returns-then-eq c = field_here _ _ c.loop-field.field-index _ c.loop-field-test.true c.loop-field.invariant (sym c.eq.ensures ∙ c.if-eq.true)

pub loop-field-preserved : goal.loop-field-preserved
loop-field-preserved c = field_on _ _ c.loop-field.field-index _ c.loop-field-test.true c.loop-field.invariant (sym c.eq.ensures ∙ c.if-eq.false)

pub returns : goal.returns
returns c = c.unknown.ensures ∙ field_end c.args.name.now c.args.fields.now c.loop-field.field-index (omega (arith, c.loop-field-test.false)) c.loop-field.invariant
