use Rattle.std.proofs.Common.{arith}
use Rattle.fut_flat.specs.declared.pat.PatField.{PatField}
use Rattle.fut_flat.specs.Erased.{pattern_of}
use Rattle.flat_numbers.proofs.PatternNumbers.{form_bound, form_wild, form_tuple, form_record, form_typed, part_passed, parts_passed}
use Rattle.flat_numbers.proofs.patterns.+pattern.Goals as goal

pub after_pattern-returns-in-Bound : goal.after_pattern-returns-in-Bound
after_pattern-returns-in-Bound t c = form_bound _ _ _ _ c.in-Bound.is c.after.ensures

pub after_pattern-returns-in-Wild : goal.after_pattern-returns-in-Wild
after_pattern-returns-in-Wild t c = form_wild _ _ _ c.in-Wild.is c.after-in-Wild.ensures

pub after_pattern-returns-in_ok-first-in-Tuple : goal.after_pattern-returns-in_ok-first-in-Tuple
after_pattern-returns-in_ok-first-in-Tuple t c = form_tuple _ _ _ _ c.in_ok-first-in-Tuple.ensures _ c.in-Tuple.is c.after_patterns.ensures

pub after_pattern-returns-in_ok-first-in-Record : goal.after_pattern-returns-in_ok-first-in-Record
after_pattern-returns-in_ok-first-in-Record t c = form_record _ _ _ _ c.in_ok-first-in-Record.ensures _ c.in-Record.is c.after_fields.ensures

pub after_pattern-returns-in-Typed : goal.after_pattern-returns-in-Typed
after_pattern-returns-in-Typed t c = form_typed _ _ _ _ _ c.in-Typed.is c.after_pattern.ensures

pub after_patterns-loop-part-preserved : goal.after_patterns-loop-part-preserved
after_patterns-loop-part-preserved t c = part_passed pattern_of _ _ _ _ _ _ c.loop-part-test.true c.loop-part.invariant c.in_ok-next.ensures

pub after_patterns-returns : goal.after_patterns-returns
after_patterns-returns t c = parts_passed pattern_of _ _ _ _ (omega (arith, c.loop-part-test.false)) c.loop-part.invariant

pub after_fields-loop-field-preserved : goal.after_fields-loop-field-preserved
after_fields-loop-field-preserved t c = part_passed (λ (f : PatField). pattern_of f.pat) _ _ _ _ _ _ c.loop-field-test.true c.loop-field.invariant c.in_ok-next.ensures

pub after_fields-returns : goal.after_fields-returns
after_fields-returns t c = parts_passed (λ (f : PatField). pattern_of f.pat) _ _ _ _ (omega (arith, c.loop-field-test.false)) c.loop-field.invariant
