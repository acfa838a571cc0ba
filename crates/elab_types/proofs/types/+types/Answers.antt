-- A list of parts is smaller than the type, and each form's walk is what its parts' walks make.
use Rattle.std.proofs.Common.{ap, arith, map, refl, ◌∙◌}
use Rattle.std.specs.Borrow.{Bor}
use Rattle.fut_tree.proofs.TypeSizes.{argument_parts, record_parts, tuple_parts}
use Rattle.fut_flat.specs.declared.ty.TypeExp.{TypeExp as Flat}
use Rattle.fut_flat.specs.Erased.{type_of}
use Rattle.fut_flat.proofs.ErasedPatterns.{argument_of, type_field}
use Rattle.elab_scopes.specs.Answers.{no_memory}
use Rattle.elab_types.specs.Elements.{field_with}
use Rattle.elab_types.specs.Lists.{no_item, put}
use Rattle.elab_scopes.proofs.Walking.{doing_end}
use Rattle.elab_types.proofs.Nexts.{next_put, start_of, stops_put}
use Rattle.elab_types.proofs.TypeLaws.{array_went, arrow_went, field_went, named_went, part_went, record_went, size_argument, size_argument_stops, tuple_went, type_argument, type_argument_stops, type_went, unique_went, unit_went, use_went}
use Rattle.elab_types.proofs.types.+types.Goals as goal

pub resolved_type-resolved_args-args-requires : goal.resolved_type-resolved_args-args-requires
resolved_type-resolved_args-args-requires t c = (omega (arith, argument_parts c.ty.inside _ c.ty.view_is c.in-Path.path c.in-Path.args c.in-Path.is), tt)

pub resolved_type-resolved_types-requires : goal.resolved_type-resolved_types-requires
resolved_type-resolved_types-requires t c = (omega (arith, tuple_parts c.ty.inside _ c.ty.view_is c.in-Tuple.parts c.in-Tuple.is), tt)

pub resolved_type-resolved_fields-requires : goal.resolved_type-resolved_fields-requires
resolved_type-resolved_fields-requires t c = (omega (arith, record_parts c.ty.inside _ c.ty.view_is c.in-Record.fields c.in-Record.is), tt)

pub resolved_type-returns-in-Path-clause-went : goal.resolved_type-returns-in-Path-clause-went
resolved_type-returns-in-Path-clause-went t c = type_went c.ty.inside _ _ c.ty.view_is c.in-Path.is (use_went _ _ _ _ _ _ _ _ c.used-of.ensures c.resolved_args-args.ensures.went c.named.ensures)

pub resolved_type-returns-in-Path-clause-bound : goal.resolved_type-returns-in-Path-clause-bound
resolved_type-returns-in-Path-clause-bound t c = c.resolved_args-args.ensures.bound

pub resolved_type-returns-in-Array-clause-went : goal.resolved_type-returns-in-Array-clause-went
resolved_type-returns-in-Array-clause-went t c = type_went c.ty.inside _ _ c.ty.view_is c.in-Array.is (array_went _ _ _ _ _ _ _ _ c.resolved_size-size.ensures.went c.resolved_type.ensures.went c.array.ensures)

pub resolved_type-returns-in-Array-clause-bound : goal.resolved_type-returns-in-Array-clause-bound
resolved_type-returns-in-Array-clause-bound t c = c.resolved_type.ensures.bound ∙ c.resolved_size-size.ensures.bound

pub resolved_type-returns-in-Unique-clause-went : goal.resolved_type-returns-in-Unique-clause-went
resolved_type-returns-in-Unique-clause-went t c = type_went c.ty.inside _ _ c.ty.view_is c.in-Unique.is (unique_went _ _ _ _ _ c.resolved_type-in-Unique.ensures.went c.unique.ensures)

pub resolved_type-returns-in-Unique-clause-bound : goal.resolved_type-returns-in-Unique-clause-bound
resolved_type-returns-in-Unique-clause-bound t c = c.resolved_type-in-Unique.ensures.bound

pub resolved_type-returns-in-Arrow-clause-went : goal.resolved_type-returns-in-Arrow-clause-went
resolved_type-returns-in-Arrow-clause-went t c = type_went c.ty.inside _ _ c.ty.view_is c.in-Arrow.is (arrow_went _ _ _ _ _ _ _ _ c.resolved_type-from.ensures.went c.resolved_type-in-Arrow.ensures.went c.arrow.ensures)

pub resolved_type-returns-in-Arrow-clause-bound : goal.resolved_type-returns-in-Arrow-clause-bound
resolved_type-returns-in-Arrow-clause-bound t c = c.resolved_type-in-Arrow.ensures.bound ∙ c.resolved_type-from.ensures.bound

pub resolved_type-returns-in-Unit-clause-went : goal.resolved_type-returns-in-Unit-clause-went
resolved_type-returns-in-Unit-clause-went t c = type_went c.ty.inside _ _ c.ty.view_is c.in-Unit.is (unit_went _ _ _ refl c.tuple.ensures)

pub resolved_type-returns-in-Unit-clause-bound : goal.resolved_type-returns-in-Unit-clause-bound
resolved_type-returns-in-Unit-clause-bound t c = refl

pub resolved_type-returns-in-Named-clause-went : goal.resolved_type-returns-in-Named-clause-went
resolved_type-returns-in-Named-clause-went t c = c.resolved_named.ensures.went

pub resolved_type-returns-in-Named-clause-bound : goal.resolved_type-returns-in-Named-clause-bound
resolved_type-returns-in-Named-clause-bound t c = c.resolved_named.ensures.bound

pub resolved_type-returns-in-Tuple-clause-went : goal.resolved_type-returns-in-Tuple-clause-went
resolved_type-returns-in-Tuple-clause-went t c = type_went c.ty.inside _ _ c.ty.view_is c.in-Tuple.is (tuple_went _ _ _ _ _ c.resolved_types.ensures.went c.tuple-in-Tuple.ensures)

pub resolved_type-returns-in-Tuple-clause-bound : goal.resolved_type-returns-in-Tuple-clause-bound
resolved_type-returns-in-Tuple-clause-bound t c = c.resolved_types.ensures.bound

pub resolved_type-returns-in-Record-clause-went : goal.resolved_type-returns-in-Record-clause-went
resolved_type-returns-in-Record-clause-went t c = type_went c.ty.inside _ _ c.ty.view_is c.in-Record.is (record_went _ _ _ _ _ c.resolved_fields.ensures.went c.record.ensures)

pub resolved_type-returns-in-Record-clause-bound : goal.resolved_type-returns-in-Record-clause-bound
resolved_type-returns-in-Record-clause-bound t c = c.resolved_fields.ensures.bound

pub resolved_named-returns-clause-went : goal.resolved_named-returns-clause-went
resolved_named-returns-clause-went t c = type_went c.ty.inside _ _ c.ty.view_is c.in-Named.is (named_went _ _ _ _ _ _ _ _ _ _ _ _ _ _ _ _ c.numbered-bind.ensures.numbers c.resolved_type-from.ensures.went c.height-height.ensures c.in_scope-bind.ensures.comes c.resolved_type-to.ensures.went c.leave.ensures.scope c.leave.ensures.made c.named_arrow.ensures)

pub resolved_named-returns-clause-bound : goal.resolved_named-returns-clause-bound
resolved_named-returns-clause-bound t c = c.leave.ensures.bound ∙ c.resolved_type-to.ensures.bound ∙ c.in_scope-bind.ensures.bound ∙ c.resolved_type-from.ensures.bound ∙ c.numbered-bind.ensures.bound

pub resolved_arg-returns-in-Ok-clause-went : goal.resolved_arg-returns-in-Ok-clause-went
resolved_arg-returns-in-Ok-clause-went t c = rw c.in-Size.is (size_argument _ _ _ _ _ c.in-Ok.ensures.went)

pub resolved_arg-returns-in-Err-clause-went : goal.resolved_arg-returns-in-Err-clause-went
resolved_arg-returns-in-Err-clause-went t c = rw c.in-Size.is (size_argument_stops _ _ _ _ _ c.in-Err.ensures.went)

pub resolved_arg-returns-in-Ok-resolved_type-clause-went : goal.resolved_arg-returns-in-Ok-resolved_type-clause-went
resolved_arg-returns-in-Ok-resolved_type-clause-went t c = rw c.in-Of.is (type_argument _ _ _ _ _ c.in-Ok-resolved_type.ensures.went)

pub resolved_arg-returns-in-Err-resolved_type-clause-went : goal.resolved_arg-returns-in-Err-resolved_type-clause-went
resolved_arg-returns-in-Err-resolved_type-clause-went t c = rw c.in-Of.is (type_argument_stops _ _ _ _ _ c.in-Err-resolved_type.ensures.went)

pub resolved_types-loop-part-init : goal.resolved_types-loop-part-init
resolved_types-loop-part-init t c = (start_of _ _ _ c.new-made.ensures.items, refl)

pub resolved_types-loop-part-preserved : goal.resolved_types-loop-part-preserved
resolved_types-loop-part-preserved t c = (next_put {item = λ (t : Bor Flat). t.now} _ _ _ _ _ c.part-item.result _ _ _ tt c.loop-part-test.true c.part-item.is (part_went _ _ _ _ c.in-Ok.ensures.went) (put c.in-Ok-push.ensures.items) c.loop-part.invariant.0, c.in-Ok.ensures.bound ∙ c.loop-part.invariant.1)

pub resolved_types-returns-in-Err-push-clause-went : goal.resolved_types-returns-in-Err-push-clause-went
resolved_types-returns-in-Err-push-clause-went t c = no_memory

pub resolved_types-returns-in-Err-push-clause-bound : goal.resolved_types-returns-in-Err-push-clause-bound
resolved_types-returns-in-Err-push-clause-bound t c = c.in-Ok.ensures.bound ∙ c.loop-part.invariant.1

pub resolved_types-returns-in-Err-clause-went : goal.resolved_types-returns-in-Err-clause-went
resolved_types-returns-in-Err-clause-went t c = stops_put {item = λ (t : Bor Flat). t.now} _ _ _ _ _ c.part-item.result _ c.loop-part.made.items _ _ c.loop-part-test.true c.part-item.is (part_went _ _ _ _ c.in-Err.ensures.went) no_item c.loop-part.invariant.0

pub resolved_types-returns-in-Err-clause-bound : goal.resolved_types-returns-in-Err-clause-bound
resolved_types-returns-in-Err-clause-bound t c = c.in-Err.ensures.bound ∙ c.loop-part.invariant.1

pub resolved_types-returns-clause-went : goal.resolved_types-returns-clause-went
resolved_types-returns-clause-went t c = doing_end _ _ _ _ _ _ c.loop-part-test.false (ap (map type_of) c.into_bump_slice.ensures) c.loop-part.invariant.0

pub resolved_fields-loop-field-init : goal.resolved_fields-loop-field-init
resolved_fields-loop-field-init t c = (start_of _ _ _ c.new-made.ensures.items, refl)

pub resolved_fields-loop-field-preserved : goal.resolved_fields-loop-field-preserved
resolved_fields-loop-field-preserved t c = (next_put {item = field_with c.field-item.result.name} _ _ _ _ _ c.field-item.result _ _ _ tt c.loop-field-test.true c.field-item.is (field_went _ _ _ _ c.in-Ok.ensures.went) (put c.in-Ok-push.ensures.items) c.loop-field.invariant.0, c.in-Ok.ensures.bound ∙ c.loop-field.invariant.1)

pub resolved_fields-returns-in-Err-push-clause-went : goal.resolved_fields-returns-in-Err-push-clause-went
resolved_fields-returns-in-Err-push-clause-went t c = no_memory

pub resolved_fields-returns-in-Err-push-clause-bound : goal.resolved_fields-returns-in-Err-push-clause-bound
resolved_fields-returns-in-Err-push-clause-bound t c = c.in-Ok.ensures.bound ∙ c.loop-field.invariant.1

pub resolved_fields-returns-in-Err-clause-went : goal.resolved_fields-returns-in-Err-clause-went
resolved_fields-returns-in-Err-clause-went t c = stops_put {item = field_with c.field-item.result.name} _ _ _ _ _ c.field-item.result _ c.loop-field.made.items _ _ c.loop-field-test.true c.field-item.is (field_went _ _ _ _ c.in-Err.ensures.went) no_item c.loop-field.invariant.0

pub resolved_fields-returns-in-Err-clause-bound : goal.resolved_fields-returns-in-Err-clause-bound
resolved_fields-returns-in-Err-clause-bound t c = c.in-Err.ensures.bound ∙ c.loop-field.invariant.1

pub resolved_fields-returns-clause-went : goal.resolved_fields-returns-clause-went
resolved_fields-returns-clause-went t c = doing_end _ _ _ _ _ _ c.loop-field-test.false (ap (map type_field) c.into_bump_slice.ensures) c.loop-field.invariant.0

pub resolved_args-loop-arg-init : goal.resolved_args-loop-arg-init
resolved_args-loop-arg-init t c = (start_of _ _ _ c.new-made.ensures.items, refl)

pub resolved_args-loop-arg-preserved : goal.resolved_args-loop-arg-preserved
resolved_args-loop-arg-preserved t c = (next_put _ _ _ _ _ c.arg-item.result _ _ _ _ c.loop-arg-test.true c.arg-item.is c.resolved_arg.ensures.went c.in-Ok.ensures c.loop-arg.invariant.0, c.resolved_arg.ensures.bound ∙ c.loop-arg.invariant.1)

pub resolved_args-returns-in-Err-clause-went : goal.resolved_args-returns-in-Err-clause-went
resolved_args-returns-in-Err-clause-went t c = stops_put _ _ _ _ _ c.arg-item.result _ _ _ _ c.loop-arg-test.true c.arg-item.is c.resolved_arg.ensures.went c.in-Err.ensures c.loop-arg.invariant.0

pub resolved_args-returns-in-Err-clause-bound : goal.resolved_args-returns-in-Err-clause-bound
resolved_args-returns-in-Err-clause-bound t c = c.resolved_arg.ensures.bound ∙ c.loop-arg.invariant.1

pub resolved_args-returns-clause-went : goal.resolved_args-returns-clause-went
resolved_args-returns-clause-went t c = doing_end _ _ _ _ _ _ c.loop-arg-test.false (ap (map argument_of) c.into_bump_slice.ensures) c.loop-arg.invariant.0
