use Rattle.std.proofs.Common.{refl, sym, ◌∙◌, arith}
use Rattle.unfold_parts.specs.Layouts.{not_behind}
use Rattle.unfold_parts.specs.Refused.{lost, no_memory}
use Rattle.unfold_parts.proofs.Forms.{form_no_scalar, form_no_tuple, form_no_record, form_shape}
use Rattle.unfold_parts.proofs.Layings.{laid_one, laid_parts, laid_fields, other_than_one, other_than_parts, other_than_fields, leads_start, all_lead_on, all_lead_err, all_lead_end, fields_lead_on, fields_lead_err, fields_lead_other, fields_lead_end}
use Rattle.unfold_parts.proofs.Shapeless.{many_unlaid, many_fields_unlaid}
use Rattle.unfold_parts.proofs.laying.+lay.Goals as goal

pub lay_behind-returns-in-Scalar : goal.lay_behind-returns-in-Scalar
lay_behind-returns-in-Scalar t c = laid_one _ _ _ _ _ _ (form_shape _ c.in_default.not-Tuple c.in_default.not-Record) c.in-Scalar.is c.put.ensures

pub lay_all-loop-like-preserved : goal.lay_all-loop-like-preserved
lay_all-loop-like-preserved t c = (omega (arith, c.loop-like.invariant.0), all_lead_on _ _ _ _ _ _ _ _ _ _ c.loop-like-test.true (omega (arith, c.loop-like.invariant.0, c.loop-like-test.true, c.if-likes-parts.false)) c.loop-like.invariant.1 c.in-Ok.ensures)

pub lay_all-returns : goal.lay_all-returns
lay_all-returns t c = all_lead_end _ _ _ _ _ _ _ (omega (arith, c.loop-like-test.false)) (omega (arith, c.loop-like.invariant.0, c.loop-like-test.false, c.if-likes-parts.false)) c.loop-like.invariant.1

pub lay_fields-loop-like-preserved : goal.lay_fields-loop-like-preserved
lay_fields-loop-like-preserved t c = (omega (arith, c.loop-like.invariant.0), fields_lead_on _ _ _ _ _ _ _ _ _ _ c.loop-like-test.true (omega (arith, c.loop-like.invariant.0, c.loop-like-test.true, c.if-likes-fields.false)) (sym c.eq.ensures ∙ c.if-eq.true) c.loop-like.invariant.1 c.in-Ok.ensures)

pub lay_fields-returns : goal.lay_fields-returns
lay_fields-returns t c = fields_lead_end _ _ _ _ _ _ _ (omega (arith, c.loop-like-test.false)) (omega (arith, c.loop-like.invariant.0, c.loop-like-test.false, c.if-likes-fields.false)) c.loop-like.invariant.1

pub lay_all-loop-like-init : goal.lay_all-loop-like-init
lay_all-loop-like-init t c = (refl, leads_start _ _)

pub lay_fields-loop-like-init : goal.lay_fields-loop-like-init
lay_fields-loop-like-init t c = (refl, leads_start _ _)

pub lay_behind-returns-in-Tuple-form : goal.lay_behind-returns-in-Tuple-form
lay_behind-returns-in-Tuple-form t c = laid_parts _ _ _ _ _ _ _ c.in-Tuple.is c.in-Tuple-form.is c.lay_all.ensures

pub lay_behind-returns-in-Record-form : goal.lay_behind-returns-in-Record-form
lay_behind-returns-in-Record-form t c = laid_fields _ _ _ _ _ _ _ c.in-Record.is c.in-Record-form.is c.lay_fields.ensures

pub lay_behind-returns-then-deep-ge-MOST_DEEP : goal.lay_behind-returns-then-deep-ge-MOST_DEEP
lay_behind-returns-then-deep-ge-MOST_DEEP t c = not_behind no_memory

pub lay_behind-returns-then-laying-eq0 : goal.lay_behind-returns-then-laying-eq0
lay_behind-returns-then-laying-eq0 t c = not_behind no_memory

pub lay_behind-returns-in_default-form : goal.lay_behind-returns-in_default-form
lay_behind-returns-in_default-form t c = other_than_parts _ _ _ _ _ c.in-Tuple.is (form_no_tuple _ c.in_default-form.not-Tuple)

pub lay_behind-returns-in_default-form-2 : goal.lay_behind-returns-in_default-form-2
lay_behind-returns-in_default-form-2 t c = other_than_fields _ _ _ _ _ c.in-Record.is (form_no_record _ c.in_default-form-2.not-Record)

pub lay_behind-returns-in_default-form-3 : goal.lay_behind-returns-in_default-form-3
lay_behind-returns-in_default-form-3 t c = other_than_one _ _ _ _ (form_shape _ c.in_default.not-Tuple c.in_default.not-Record) (form_no_scalar _ c.in_default-form-3.not-Scalar)

pub lay_all-returns-then-likes-parts : goal.lay_all-returns-then-likes-parts
lay_all-returns-then-likes-parts t c = not_behind (lost (many_unlaid _ _ c.if-likes-parts.true))

pub lay_all-returns-in-Err : goal.lay_all-returns-in-Err
lay_all-returns-in-Err t c = all_lead_err _ _ _ _ _ _ _ _ _ _ _ c.loop-like.invariant.0 c.loop-like-test.true (omega (arith, c.loop-like.invariant.0, c.loop-like-test.true, c.if-likes-parts.false)) c.in-Err.ensures

pub lay_fields-returns-then-likes-fields : goal.lay_fields-returns-then-likes-fields
lay_fields-returns-then-likes-fields t c = not_behind (lost (many_fields_unlaid _ _ c.if-likes-fields.true))

pub lay_fields-returns-in-Err : goal.lay_fields-returns-in-Err
lay_fields-returns-in-Err t c = fields_lead_err _ _ _ _ _ _ _ _ _ _ _ c.loop-like.invariant.0 c.loop-like-test.true (omega (arith, c.loop-like.invariant.0, c.loop-like-test.true, c.if-likes-fields.false)) c.in-Err.ensures

pub lay_fields-returns-else-eq : goal.lay_fields-returns-else-eq
lay_fields-returns-else-eq t c = fields_lead_other _ _ _ _ _ _ _ _ c.loop-like.invariant.0 c.loop-like-test.true (omega (arith, c.loop-like.invariant.0, c.loop-like-test.true, c.if-likes-fields.false)) (sym c.eq.ensures ∙ c.if-eq.false)
