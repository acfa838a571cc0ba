-- A list of parts is smaller than the expression, and each form's walk is what its parts' walks make.
use Rattle.std.proofs.Common.{◌∙◌, arith, map, subst, sym}
use Rattle.std.specs.Borrow.{Bor}
use Rattle.fut_tree.proofs.Sizes.{lets_parts}
use Rattle.fut_flat.specs.declared.exp.Exp.{Exp as Flat}
use Rattle.fut_flat.specs.Erased.{term_of}
use Rattle.fut_flat.proofs.ErasedForms.{row_of}
use Rattle.elab_scopes.specs.Answers.{no_memory}
use Rattle.elab_nodes.specs.Built.{Built0}
use Rattle.elab_types.specs.Lists.{no_item, put}
use Rattle.elab_types.proofs.Nexts.{end_of, entered_list, next_put, start_of, stops_put, walked_list}
use Rattle.elab_exps.specs.Operations.{Operates}
use Rattle.elab_exps.proofs.AssertLaws.{assert_went}
use Rattle.elab_exps.proofs.ComposedLaws.{composed_at}
use Rattle.elab_exps.proofs.ExpLaws.{apply_went, behind_went, choice_went, exp_went, lambda_went, part_went, plain_body, turned_alike, typed_body}
use Rattle.elab_exps.proofs.HeldExps.{place_at}
use Rattle.elab_exps.proofs.ListSizes.{held_biggest}
use Rattle.elab_exps.proofs.OperationLaws.{operation_smaller, operation_stops, operation_went}
use Rattle.elab_exps.proofs.RowLaws.{lets_went, row_entered, rows_end, rows_put, rows_put_stops}
use Rattle.elab_exps.proofs.SectionLaws.{led_entered}
use Rattle.elab_exps.proofs.StrictLaws.{binary_went, ascribed_went, coerced_went}
use Rattle.elab_exps.proofs.TurnLaws.{counted_entered, loop_stops, loop_went, over_entered, repeated_entered}
use Rattle.elab_exps.proofs.exps.+exps.Goals as goal

pub walked_applying-returns-in-Path : goal.walked_applying-returns-in-Path
walked_applying-returns-in-Path t c = exp_went c.exp.inside _ _ c.exp.view_is c.in-Path.is c.used.ensures

pub walked_applying-returns-in-Apply : goal.walked_applying-returns-in-Apply
walked_applying-returns-in-Apply t c = exp_went c.exp.inside _ _ c.exp.view_is c.in-Apply.is (behind_went _ _ _ _ _ _ _ _ (sym c.is_behind.ensures ∙ c.if-is_behind.true) c.walked.ensures c.walked-in-Apply.ensures c.applied_behind.ensures)

pub walked_applying-returns-in-Apply-2 : goal.walked_applying-returns-in-Apply-2
walked_applying-returns-in-Apply-2 t c = exp_went c.exp.inside _ _ c.exp.view_is c.in-Apply-2.is (apply_went _ _ _ _ _ _ _ _ (turned_alike _ _ _ _ (sym c.in-Apply.is ∙ c.in-Apply-2.is) (sym c.is_behind.ensures ∙ c.if-is_behind.false)) c.walked-in-Apply-2.ensures c.walked-in-Apply-2-2.ensures c.applied.ensures)

pub walked_choosing-returns-in-If : goal.walked_choosing-returns-in-If
walked_choosing-returns-in-If t c = exp_went c.exp.inside _ _ c.exp.view_is c.in-If.is (choice_went _ _ _ _ _ _ _ _ _ _ _ c.walked.ensures c.walked-in-If.ensures c.walked-in-If-2.ensures c.choice.ensures)

pub walked_choosing-returns-in-Assert : goal.walked_choosing-returns-in-Assert
walked_choosing-returns-in-Assert t c = exp_went c.exp.inside _ _ c.exp.view_is c.in-Assert.is (assert_went _ _ _ _ _ _ _ _ _ _ _ c.looked_before-looked.ensures c.walked-in-Assert.ensures c.led-test.ensures c.walked-value.ensures c.asserted.ensures)

pub walked_binding-walked_rows-went-requires : goal.walked_binding-walked_rows-went-requires
walked_binding-walked_rows-went-requires t c = (omega (arith, lets_parts c.exp.inside _ c.exp.view_is c.in-Lets.binds c.in-Lets.body c.in-Lets.is), c.new-made.ensures.items)

pub walked_binding-returns-in-Lambda : goal.walked_binding-returns-in-Lambda
walked_binding-returns-in-Lambda t c = exp_went c.exp.inside _ _ c.exp.view_is c.in-Lambda.is (lambda_went _ _ _ _ _ _ _ _ _ _ c.resolved_parameters-params.ensures c.walked_body-body.ensures c.height-height.ensures c.leave.ensures.scope c.leave.ensures.made c.lambda.ensures)

pub walked_binding-returns-in-Lets : goal.walked_binding-returns-in-Lets
walked_binding-returns-in-Lets t c = exp_went c.exp.inside _ _ c.exp.view_is c.in-Lets.is (lets_went c.in-Lets.binds.now _ _ _ _ _ _ _ _ _ (entered_list (map row_of) _ _ _ _ _ c.walked_rows-went.ensures c.into_bump_slice.ensures c.listed-lets.ensures) c.walked-body.ensures c.height-height.ensures c.leave-in-Lets.ensures.scope c.leave-in-Lets.ensures.made c.rowed.ensures)

pub walked_joining-returns-in-Some : goal.walked_joining-returns-in-Some
walked_joining-returns-in-Some t c = exp_went c.exp.inside _ _ c.exp.view_is c.in-Binary.is (binary_went _ _ _ _ _ _ _ _ _ _ _ _ c.in-Some.ensures c.strict.ensures c.two-parts.ensures c.walked.ensures c.walked-in-Some.ensures)

pub walked_joining-returns-in-None : goal.walked_joining-returns-in-None
walked_joining-returns-in-None t c = exp_went c.exp.inside _ _ c.exp.view_is c.in-Binary.is (composed_at _ _ _ _ _ _ _ _ _ _ _ _ _ _ _ _ _ _ _ _ _ _ _ _ _ _ c.is_left_first.ensures c.composed.ensures c.functions-parts.ensures c.in_scope-first.ensures.comes c.numbered-first.ensures.numbers c.walked-left.ensures c.numbered-second.ensures.numbers c.walked-right.ensures c.numbered-argument.ensures.numbers c.in-None.ensures c.left_name.ensures c.left_name-in-None.ensures c.right_name.ensures c.argument_name.ensures c.height-height.ensures c.leave.ensures.scope c.leave.ensures.made)

pub walked_looping-returns-in-Ok : goal.walked_looping-returns-in-Ok
walked_looping-returns-in-Ok t c = exp_went c.exp.inside _ _ c.exp.view_is c.in-Loop.is (loop_went c.in-Loop.turns.now _ _ _ _ _ _ _ _ _ _ _ _ _ _ _ _ _ _ c.in-Ok.ensures c.height-height.ensures c.walked-first.ensures c.walked_turns-turns.ensures c.walked-body.ensures c.leave.ensures.scope c.leave.ensures.made c.looped.ensures)

pub walked_looping-returns-in-Err : goal.walked_looping-returns-in-Err
walked_looping-returns-in-Err t c = exp_went c.exp.inside _ _ c.exp.view_is c.in-Loop.is (loop_stops c.in-Loop.turns.now _ _ _ _ _ _ _ _ _ c.in-Err.ensures)

pub walked_typed-returns-in-Ascribe : goal.walked_typed-returns-in-Ascribe
walked_typed-returns-in-Ascribe t c = exp_went c.exp.inside _ _ c.exp.view_is c.in-Ascribe.is (ascribed_went _ _ _ _ _ _ _ _ _ c.ascribed.ensures c.walked.ensures c.resolved_type.ensures.went)

pub walked_typed-returns-in-Coerce : goal.walked_typed-returns-in-Coerce
walked_typed-returns-in-Coerce t c = exp_went c.exp.inside _ _ c.exp.view_is c.in-Coerce.is (coerced_went _ _ _ _ _ _ _ _ _ c.coerced.ensures c.walked-in-Coerce.ensures c.resolved_type-in-Coerce.ensures.went)

pub walked_operation-walked_parts-went-requires : goal.walked_operation-walked_parts-went-requires
walked_operation-walked_parts-went-requires t c = (omega (arith, held_biggest c.in-Ok.of.parts.now, operation_smaller (subst (Built0 (Operates c.args.exp.now)) c.in-Ok.is c.requires)), c.new-made.ensures.items)

pub walked_operation-returns-in-Ok : goal.walked_operation-returns-in-Ok
walked_operation-returns-in-Ok t c = operation_went c.exp.inside _ c.in-Ok.of c.exp.view_is (subst (Built0 (Operates c.args.exp.now)) c.in-Ok.is c.requires) c.strict.ensures (walked_list (map term_of) _ _ _ _ _ _ c.walked_parts-went.ensures c.into_bump_slice.ensures c.listed-parts.ensures)

pub walked_operation-returns-in-Err : goal.walked_operation-returns-in-Err
walked_operation-returns-in-Err t c = operation_stops (subst (Built0 (Operates c.args.exp.now)) c.in-Err.is c.requires)

pub walked_parts-loop-part-init : goal.walked_parts-loop-part-init
walked_parts-loop-part-init t c = start_of _ _ _ c.requires

pub walked_parts-loop-part-preserved : goal.walked_parts-loop-part-preserved
walked_parts-loop-part-preserved t c = next_put {item = λ (e : Bor Flat). e.now} _ _ _ _ _ c.part-item.result _ _ _ tt c.loop-part-test.true c.part-item.is (part_went _ _ _ _ c.in-Ok.ensures) (put c.in-Ok-push.ensures.items) c.loop-part.invariant

pub walked_parts-returns-in-Err-push : goal.walked_parts-returns-in-Err-push
walked_parts-returns-in-Err-push t c = no_memory

pub walked_parts-returns-in-Err : goal.walked_parts-returns-in-Err
walked_parts-returns-in-Err t c = stops_put {item = λ (e : Bor Flat). e.now} _ _ _ _ _ c.part-item.result _ c.loop-part.made.items _ _ c.loop-part-test.true c.part-item.is (part_went _ _ _ _ c.in-Err.ensures) no_item c.loop-part.invariant

pub walked_parts-returns : goal.walked_parts-returns
walked_parts-returns t c = end_of _ _ _ _ _ _ c.loop-part-test.false c.loop-part.invariant

pub walked_body-returns-in-None : goal.walked_body-returns-in-None
walked_body-returns-in-None t c = rw c.in-None.is (plain_body _ _ _ _ c.walked.ensures)

pub walked_body-returns-in-Some : goal.walked_body-returns-in-Some
walked_body-returns-in-Some t c = rw c.in-Some.is (typed_body c.args.body.now _ _ _ _ _ _ _ _ (place_at c.body.inside _ c.body.view_is) c.declared.ensures c.resolved_type.ensures.went c.walked-in-Some.ensures)

pub walked_rows-loop-bind-preserved : goal.walked_rows-loop-bind-preserved
walked_rows-loop-bind-preserved t c = (rows_put _ _ _ _ _ _ _ c.bind-item.result _ _ _ _ c.loop-bind-test.true c.bind-item.is (omega (arith, c.loop-bind.invariant.1, c.loop-bind-test.true)) (led_entered _ _ _ c.looked_before-looked.ensures c.walked_row.ensures c.led.ensures) c.in-Ok.ensures c.loop-bind.invariant.0, omega (arith, c.loop-bind.invariant.1, c.loop-bind-test.true))

pub walked_rows-returns-in-Err : goal.walked_rows-returns-in-Err
walked_rows-returns-in-Err t c = rows_put_stops _ _ _ _ _ _ _ c.bind-item.result _ _ _ _ c.loop-bind-test.true c.bind-item.is (omega (arith, c.loop-bind.invariant.1, c.loop-bind-test.true)) (led_entered _ _ _ c.looked_before-looked.ensures c.walked_row.ensures c.led.ensures) c.in-Err.ensures c.loop-bind.invariant.0

pub walked_rows-returns : goal.walked_rows-returns
walked_rows-returns t c = rows_end _ _ _ _ _ _ _ c.loop-bind-test.false c.loop-bind.invariant.0

pub walked_row-returns : goal.walked_row-returns
walked_row-returns t c = row_entered c.args.bind.now _ _ _ _ _ _ _ _ _ _ _ _ c.sized_pattern-head.ensures c.height-height.ensures c.brought_heads-heads.ensures c.walked-value.ensures c.leave.ensures.scope c.leave.ensures.made c.brought_head-head.ensures c.let_row.ensures

pub walked_turns-returns-in-For : goal.walked_turns-returns-in-For
walked_turns-returns-in-For t c = rw c.in-For.is (counted_entered _ _ _ _ _ _ _ _ _ _ _ c.numbered-bind.ensures.numbers c.walked-count.ensures c.brought_name.ensures c.counted.ensures)

pub walked_turns-returns-in-ForIn : goal.walked_turns-returns-in-ForIn
walked_turns-returns-in-ForIn t c = rw c.in-ForIn.is (over_entered _ _ _ _ _ _ _ _ _ _ _ c.element_pattern-pat.ensures c.walked-array.ensures c.brought_pattern.ensures c.over.ensures)

pub walked_turns-returns-in-While : goal.walked_turns-returns-in-While
walked_turns-returns-in-While t c = rw c.in-While.is (repeated_entered _ _ _ _ _ _ _ _ c.bring_head-brought.ensures c.walked.ensures c.repeated.ensures)
