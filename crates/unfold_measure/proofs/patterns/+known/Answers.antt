use Rattle.std.proofs.Common.{refl, sym, ◌∙◌, arith}
use Rattle.unfold_measure.specs.Answers.{bound_is, not_bound}
use Rattle.unfold_measure.proofs.Binding.{bound_as, bound_made, bound_at, known_name, known_wild, known_typed, tuple_as, record_as, no_parts, no_record, parts_start, parts_step, parts_done, fields_start, fields_step, fields_done, step_none, step_some, field_stops, field_found}
use Rattle.unfold_measure.proofs.patterns.+known.Goals as goal

pub bind-returns-in-Bound : goal.bind-returns-in-Bound
bind-returns-in-Bound t c = bound_made (known_name _ _ _ _ c.in-Bound.is) c.bound.ensures.ok c.bound.ensures.err

pub bind-returns-in-Wild : goal.bind-returns-in-Wild
bind-returns-in-Wild t c = bound_is (known_wild _ _ _ c.in-Wild.is)

pub bind-returns-in-Typed : goal.bind-returns-in-Typed
bind-returns-in-Typed t c = bound_as (known_typed _ _ _ _ _ c.in-Typed.is) c.bind.ensures

pub bind-returns-then-has_parts : goal.bind-returns-then-has_parts
bind-returns-then-has_parts t c = bound_as (tuple_as _ _ c.in-Tuple.is _ _) c.bind_all.ensures

pub bind-returns-else-has_parts : goal.bind-returns-else-has_parts
bind-returns-else-has_parts t c = not_bound (tuple_as _ _ c.in-Tuple.is _ _ ∙ no_parts _ _ _ (sym c.has_parts.ensures ∙ c.if-has_parts.false))

pub bind-returns-then-has_fields : goal.bind-returns-then-has_fields
bind-returns-then-has_fields t c = bound_as (record_as _ _ c.in-Record.is _ _) c.bind_fields.ensures

pub bind-returns-else-has_fields : goal.bind-returns-else-has_fields
bind-returns-else-has_fields t c = not_bound (record_as _ _ c.in-Record.is _ _ ∙ no_record _ _ _ (sym c.has_fields.ensures ∙ c.if-has_fields.false))

pub bind_all-loop-part-init : goal.bind_all-loop-part-init
bind_all-loop-part-init t c = (refl, parts_start _ _ c.requires.parts _)

pub bind_all-returns-in-Err : goal.bind_all-returns-in-Err
bind_all-returns-in-Err t c = step_none _ c.loop-part.invariant.1 (parts_step _ _ c.requires.parts _ _ c.loop-part.invariant.0 _ _ c.loop-part-test.true) (bound_at _ _ c.part_at.ensures c.in-Err.ensures)

pub bind_all-loop-part-preserved : goal.bind_all-loop-part-preserved
bind_all-loop-part-preserved t c = (omega (arith, c.loop-part.invariant.0), step_some _ c.loop-part.invariant.1 (parts_step _ _ c.requires.parts _ _ c.loop-part.invariant.0 _ _ c.loop-part-test.true) (bound_at _ _ c.part_at.ensures c.in-Ok.ensures))

pub bind_all-returns : goal.bind_all-returns
bind_all-returns t c = bound_is (c.loop-part.invariant.1 ∙ parts_done c.args.parts.now _ c.requires.parts c.loop-part.part-index c.loop-part.at c.loop-part.invariant.0 _ (omega (arith, c.loop-part-test.false)))

pub bind_fields-loop-field-init : goal.bind_fields-loop-field-init
bind_fields-loop-field-init t c = fields_start _ _ c.requires.fields _

pub bind_fields-returns-in-Err : goal.bind_fields-returns-in-Err
bind_fields-returns-in-Err t c = field_stops _ c.loop-field.invariant (fields_step _ _ c.requires.fields _ _ _ c.loop-field-test.true) c.in-Err.ensures

pub bind_fields-returns-in-Err-bind : goal.bind_fields-returns-in-Err-bind
bind_fields-returns-in-Err-bind t c = step_none _ c.loop-field.invariant (field_found _ (fields_step _ _ c.requires.fields _ _ _ c.loop-field-test.true) c.in-Ok.ensures) c.in-Err-bind.ensures

pub bind_fields-loop-field-preserved : goal.bind_fields-loop-field-preserved
bind_fields-loop-field-preserved t c = step_some _ c.loop-field.invariant (field_found _ (fields_step _ _ c.requires.fields _ _ _ c.loop-field-test.true) c.in-Ok.ensures) c.in-Ok-bind.ensures

pub bind_fields-returns : goal.bind_fields-returns
bind_fields-returns t c = bound_is (c.loop-field.invariant ∙ fields_done c.args.fields.now _ c.requires.fields c.loop-field.field-index _ (omega (arith, c.loop-field-test.false)))
