use Rattle.std.proofs.Common.{refl}
use Rattle.sizing_tables.specs.Trees.{field_names, tree_names}
use Rattle.sizing_tables.proofs.Lists.{all_looped_names, looped_names, none_yet, then, told_as}
use Rattle.sizing_tables.proofs.Layers.{names_bound, names_wild, names_tuple, names_record, names_typed}
use Rattle.sizing_tables.proofs.terms.+pattern.Goals as goal

pub note_patterns-loop-part-init : goal.note_patterns-loop-part-init
note_patterns-loop-part-init t c = none_yet _

pub note_patterns-loop-part-preserved : goal.note_patterns-loop-part-preserved
note_patterns-loop-part-preserved t c = looped_names tree_names _ c.loop-part.part-index _ c.loop-part-test.true c.loop-part.invariant c.note_pattern.ensures

pub note_patterns-returns : goal.note_patterns-returns
note_patterns-returns t c = all_looped_names tree_names _ _ c.loop-part-test.false c.loop-part.invariant

pub note_fields-loop-field-init : goal.note_fields-loop-field-init
note_fields-loop-field-init t c = none_yet _

pub note_fields-loop-field-preserved : goal.note_fields-loop-field-preserved
unfolding field_names
note_fields-loop-field-preserved t c = looped_names field_names _ c.loop-field.field-index _ c.loop-field-test.true c.loop-field.invariant c.note_pattern.ensures

pub note_fields-returns : goal.note_fields-returns
note_fields-returns t c = all_looped_names field_names _ _ c.loop-field-test.false c.loop-field.invariant

pub note_pattern-returns-in-Bound : goal.note_pattern-returns-in-Bound
note_pattern-returns-in-Bound t c = told_as (names_bound _ _ c.in-Bound.is) refl c.node.ensures

pub note_pattern-returns-in-Wild : goal.note_pattern-returns-in-Wild
note_pattern-returns-in-Wild t c = told_as (names_wild _ c.in-Wild.is) refl c.node-in-Wild.ensures

pub note_pattern-returns-in-Tuple : goal.note_pattern-returns-in-Tuple
note_pattern-returns-in-Tuple t c = told_as (names_tuple _ _ c.in-Tuple.is) refl (then c.node-in-Tuple.ensures c.note_patterns.ensures)

pub note_pattern-returns-in-Record : goal.note_pattern-returns-in-Record
note_pattern-returns-in-Record t c = told_as (names_record _ _ c.in-Record.is) refl (then c.node-in-Record.ensures c.note_fields.ensures)

pub note_pattern-returns-in-Typed : goal.note_pattern-returns-in-Typed
note_pattern-returns-in-Typed t c = told_as (names_typed _ _ _ c.in-Typed.is) refl c.note_pattern.ensures
