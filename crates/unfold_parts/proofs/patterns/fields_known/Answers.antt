use Rattle.std.proofs.Common.{map, arith, sym, subst}
use Rattle.unfold.specs.Held.{field_of, fields_known}
use Rattle.unfold_parts.specs.Parts.{not_fields}
use Rattle.unfold_parts.specs.Refused.{no_memory}
use Rattle.unfold_parts.proofs.Binding.{Fields_lead, fields_lead_on, fields_lead_end, fields_none}
use Rattle.unfold_parts.proofs.patterns.fields_known.Goals as goal

pub loop-field-init : goal.loop-field-init
loop-field-init c = subst (Fields_lead c.args.fields.now (fields_known (map field_of c.args.given.now)) 0) (sym c.new-knowns.ensures.items) (λ ss h. h)

pub loop-field-preserved : goal.loop-field-preserved
loop-field-preserved c = fields_lead_on _ _ _ _ _ _ _ c.loop-field-test.true c.in-Some.ensures c.loop-field.invariant c.in-Ok.ensures.items

pub returns : goal.returns
returns c = fields_lead_end _ _ _ _ c.into_bump_slice.result (omega (arith, c.loop-field-test.false)) c.loop-field.invariant c.into_bump_slice.ensures

pub returns-in-None : goal.returns-in-None
returns-in-None c = fields_none _ _ _ _ c.loop-field-test.true c.in-None.ensures

pub returns-in-Err : goal.returns-in-Err
returns-in-Err c = not_fields no_memory
