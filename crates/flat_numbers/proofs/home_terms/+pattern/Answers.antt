use Rattle.flat_numbers.specs.Trees.{field_homes, pattern_homes}
use Rattle.flat_numbers.proofs.Lists.{all_looped, looped, none_yet, then, told_as}
use Rattle.flat_numbers.proofs.Layers.{homes_bound, homes_wild, homes_tuple, homes_record, homes_typed}
use Rattle.flat_numbers.proofs.home_terms.+pattern.Goals as goal

pub note_patterns-loop-part-init : goal.note_patterns-loop-part-init
note_patterns-loop-part-init t c = none_yet _

pub note_patterns-loop-part-preserved : goal.note_patterns-loop-part-preserved
note_patterns-loop-part-preserved t c = looped (pattern_homes c.args.home) _ c.loop-part.part-index _ c.loop-part-test.true c.loop-part.invariant c.note_pattern.ensures

pub note_patterns-returns : goal.note_patterns-returns
note_patterns-returns t c = all_looped (pattern_homes c.args.home) _ _ c.loop-part-test.false c.loop-part.invariant

pub note_fields-loop-field-init : goal.note_fields-loop-field-init
note_fields-loop-field-init t c = none_yet _

pub note_fields-loop-field-preserved : goal.note_fields-loop-field-preserved
unfolding field_homes
note_fields-loop-field-preserved t c = looped (field_homes c.args.home) _ c.loop-field.field-index _ c.loop-field-test.true c.loop-field.invariant c.note_pattern.ensures

pub note_fields-returns : goal.note_fields-returns
note_fields-returns t c = all_looped (field_homes c.args.home) _ _ c.loop-field-test.false c.loop-field.invariant

pub note_pattern-returns-in-Bound : goal.note_pattern-returns-in-Bound
note_pattern-returns-in-Bound t c = told_as (homes_bound _ _ _ c.in-Bound.is) c.push.ensures

pub note_pattern-returns-in-Wild : goal.note_pattern-returns-in-Wild
note_pattern-returns-in-Wild t c = told_as (homes_wild _ _ c.in-Wild.is) c.push-in-Wild.ensures

pub note_pattern-returns-in-Tuple : goal.note_pattern-returns-in-Tuple
note_pattern-returns-in-Tuple t c = told_as (homes_tuple _ _ _ c.in-Tuple.is) (then c.push-in-Tuple.ensures c.note_patterns.ensures)

pub note_pattern-returns-in-Record : goal.note_pattern-returns-in-Record
note_pattern-returns-in-Record t c = told_as (homes_record _ _ _ c.in-Record.is) (then c.push-in-Record.ensures c.note_fields.ensures)

pub note_pattern-returns-in-Typed : goal.note_pattern-returns-in-Typed
note_pattern-returns-in-Typed t c = told_as (homes_typed _ _ _ _ c.in-Typed.is) c.note_pattern.ensures
