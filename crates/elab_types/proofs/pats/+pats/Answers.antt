-- A list of parts is smaller than the pattern, and each form's walk is what its parts' walks make.
use Rattle.std.proofs.Common.{ap, arith, map, refl}
use Rattle.fut_tree.proofs.PatSizes.{record_parts, tuple_parts}
use Rattle.fut_flat.specs.Erased.{pattern_of}
use Rattle.fut_flat.proofs.ErasedPatterns.{pattern_field}
use Rattle.elab_scopes.specs.Answers.{no_memory}
use Rattle.elab_types.specs.Elements.{pattern_with}
use Rattle.elab_types.specs.Lists.{no_item, put}
use Rattle.elab_scopes.proofs.Walking.{doing_end}
use Rattle.elab_types.proofs.Nexts.{next_put, start_of, stops_put}
use Rattle.elab_types.proofs.PatLaws.{bound_went, field_went, part_went, pattern_went, record_went, tuple_went, typed_went, unit_went, wild_went}
use Rattle.elab_types.proofs.pats.+pats.Goals as goal

pub named_pattern-named_parts-requires : goal.named_pattern-named_parts-requires
named_pattern-named_parts-requires t c = (omega (arith, tuple_parts c.pat.inside _ c.pat.view_is c.in-Tuple.parts c.in-Tuple.is), tt)

pub named_pattern-named_fields-requires : goal.named_pattern-named_fields-requires
named_pattern-named_fields-requires t c = (omega (arith, record_parts c.pat.inside _ c.pat.view_is c.in-Record.fields c.in-Record.is), tt)

pub named_pattern-returns-in-Var : goal.named_pattern-returns-in-Var
named_pattern-returns-in-Var t c = pattern_went c.pat.inside _ _ c.pat.view_is c.in-Var.is (bound_went _ _ _ _ _ _ c.named.ensures c.bound.ensures)

pub named_pattern-returns-in-Wild : goal.named_pattern-returns-in-Wild
named_pattern-returns-in-Wild t c = pattern_went c.pat.inside _ _ c.pat.view_is c.in-Wild.is (wild_went _ _ refl)

pub named_pattern-returns-in-Unit : goal.named_pattern-returns-in-Unit
named_pattern-returns-in-Unit t c = pattern_went c.pat.inside _ _ c.pat.view_is c.in-Unit.is (unit_went _ _ _ refl c.tuple.ensures)

pub named_pattern-returns-in-Tuple : goal.named_pattern-returns-in-Tuple
named_pattern-returns-in-Tuple t c = pattern_went c.pat.inside _ _ c.pat.view_is c.in-Tuple.is (tuple_went _ _ _ _ _ c.named_parts.ensures c.tuple-in-Tuple.ensures)

pub named_pattern-returns-in-Record : goal.named_pattern-returns-in-Record
named_pattern-returns-in-Record t c = pattern_went c.pat.inside _ _ c.pat.view_is c.in-Record.is (record_went _ _ _ _ _ c.named_fields.ensures c.record.ensures)

pub named_pattern-returns-in-Ascribe : goal.named_pattern-returns-in-Ascribe
named_pattern-returns-in-Ascribe t c = pattern_went c.pat.inside _ _ c.pat.view_is c.in-Ascribe.is (typed_went _ _ _ _ _ _ _ _ c.named_pattern.ensures c.resolved_type.ensures.went c.resolved_type.ensures.bound c.typed.ensures)

pub named_parts-loop-part-init : goal.named_parts-loop-part-init
named_parts-loop-part-init t c = start_of _ _ _ c.new-made.ensures.items

pub named_parts-loop-part-preserved : goal.named_parts-loop-part-preserved
named_parts-loop-part-preserved t c = next_put _ _ _ _ _ c.part-item.result _ _ _ _ c.loop-part-test.true c.part-item.is (part_went _ _ _ _ c.named_pattern.ensures) c.in-Ok.ensures c.loop-part.invariant

pub named_parts-returns-in-Err : goal.named_parts-returns-in-Err
named_parts-returns-in-Err t c = stops_put _ _ _ _ _ c.part-item.result _ _ _ _ c.loop-part-test.true c.part-item.is (part_went _ _ _ _ c.named_pattern.ensures) c.in-Err.ensures c.loop-part.invariant

pub named_parts-returns : goal.named_parts-returns
named_parts-returns t c = doing_end _ _ _ _ _ _ c.loop-part-test.false (ap (map pattern_of) c.into_bump_slice.ensures) c.loop-part.invariant

pub named_fields-loop-field-init : goal.named_fields-loop-field-init
named_fields-loop-field-init t c = start_of _ _ _ c.new-made.ensures.items

pub named_fields-loop-field-preserved : goal.named_fields-loop-field-preserved
named_fields-loop-field-preserved t c = next_put {item = pattern_with c.field-item.result.name} _ _ _ _ _ c.field-item.result _ _ _ tt c.loop-field-test.true c.field-item.is (field_went _ _ _ _ c.in-Ok.ensures) (put c.in-Ok-push.ensures.items) c.loop-field.invariant

pub named_fields-returns-in-Err-push : goal.named_fields-returns-in-Err-push
named_fields-returns-in-Err-push t c = no_memory

pub named_fields-returns-in-Err : goal.named_fields-returns-in-Err
named_fields-returns-in-Err t c = stops_put {item = pattern_with c.field-item.result.name} _ _ _ _ _ c.field-item.result _ c.loop-field.made.items _ _ c.loop-field-test.true c.field-item.is (field_went _ _ _ _ c.in-Err.ensures) no_item c.loop-field.invariant

pub named_fields-returns : goal.named_fields-returns
named_fields-returns t c = doing_end _ _ _ _ _ _ c.loop-field-test.false (ap (map pattern_field) c.into_bump_slice.ensures) c.loop-field.invariant
