use Rattle.std.proofs.Common.{[], ◌∙◌, sym, refl, arith}
use Rattle.std.proofs.lemmas.Slice.{between_to_end}
use Rattle.unfold_measure.proofs.Walks.{apply_function, apply_argument, apply_run, apply_ok, strict_parts, strict_lost, strict_ok}
use Rattle.unfold_measure.proofs.Forms.{too_deep, too_many, form_use, form_unknown, form_lambda, form_strict, form_apply, form_lets, form_if, form_loop, data_ok, data_function, data_stopped, plain_visit, plain_row}
use Rattle.unfold_measure.proofs.Rows.{greater, parts_more, parts_fail, parts_memory, parts_done, row_more, row_value, row_pattern, row_last, row_ok}
use Rattle.unfold_measure.proofs.Asserting.{first_asserts, first_in_row, nothing_left, assert_condition, assert_memory, assert_guarded, assert_ok}
use Rattle.unfold_measure.proofs.Leads.{leads_start, all_start, given_start, function_start}
use Rattle.unfold_measure.proofs.Running.{function_at, run_other, run_of_function, run_of_primitive, run_none, run_pattern, run_last, run_waits, primitive_waits, primitive_stopped, primitive_ran, given_more, given_fail, given_many, given_few, given_done, function_more, function_fail, function_data, function_other}
use Rattle.unfold_measure.proofs.Peeling.{peeled_walk}
use Rattle.unfold_measure.proofs.Making.{known_gives}
use Rattle.unfold_measure.proofs.Mirror.{known_primitive}
use Rattle.unfold_measure.proofs.Endings.{walk_memory, ran_memory}
use Rattle.unfold_measure.specs.Steps.{first_stops}
use Rattle.unfold_measure.proofs.Stepping.{if_steps, loop_steps, step_second, step_third, steps_done}
use Rattle.unfold_measure.proofs.walk.+walk.Goals as goal

pub run-returns-in-Function : goal.run-returns-in-Function
run-returns-in-Function t c = record { walk = run_of_function _ _ _ _ _ _ _ c.in-Function.is c.run_function.ensures.walk; few = c.run_function.ensures.few; flat = c.run_function.ensures.flat }

pub run-returns-in-Primitive : goal.run-returns-in-Primitive
run-returns-in-Primitive t c = record { walk = run_of_primitive _ _ _ _ _ _ _ _ c.in-Primitive.is c.run_primitive.ensures.walk; few = c.run_primitive.ensures.few; flat = c.run_primitive.ensures.flat }

pub run-returns-in_default : goal.run-returns-in_default
run-returns-in_default t c = record { walk = run_other _ _ _ _ _ c.in_default.not-Function c.in_default.not-Primitive; few = tt; flat = tt }

pub run_function-returns-then-params-eq0 : goal.run_function-returns-then-params-eq0
run_function-returns-then-params-eq0 t c = record { walk = run_none _ _ _ _ _ _ _ c.if-params-eq0.true; few = tt; flat = tt }

pub run_function-returns-in-Err : goal.run_function-returns-in-Err
run_function-returns-in-Err t c = record { walk = run_pattern _ _ _ _ _ _ _ _ _ c.if-params-eq0.false c.in-Err.ensures; few = tt; flat = tt }

pub run_function-returns-then-params-eq1 : goal.run_function-returns-then-params-eq1
run_function-returns-then-params-eq1 t c = record { walk = run_last _ _ _ _ _ _ _ _ _ _ c.if-params-eq1.true c.in-Ok.ensures c.walk.ensures.walk; few = c.walk.ensures.few; flat = c.walk.ensures.flat }

pub run_function-returns-in-Ok-captured : goal.run_function-returns-in-Ok-captured
run_function-returns-in-Ok-captured t c = record { walk = run_waits _ _ _ _ _ _ _ _ _ _ _ c.if-params-eq0.false c.if-params-eq1.false c.in-Ok.ensures (between_to_end c.args.closure.now.params.now 1 _ (omega arith)) c.in-Ok-captured.ensures.ok; few = omega (arith, c.requires.spent); flat = omega (arith, c.requires.level) }

pub run_function-returns-in-Err-captured : goal.run_function-returns-in-Err-captured
run_function-returns-in-Err-captured t c = record { walk = ran_memory _ c.in-Err-captured.ensures.err; few = tt; flat = tt }

pub run_given-returns : goal.run_given-returns
run_given-returns t c = record { walk = given_done _ _ _ _ _ _ _ _ (omega (arith, c.if-at-parameters-2.false)) (omega (arith, c.loop-known-test.false)) c.loop-known.invariant.0; few = c.loop-known.invariant.2; flat = c.loop-known.invariant.3 }

pub run_given-returns-in-Err : goal.run_given-returns-in-Err
run_given-returns-in-Err t c = record { walk = given_fail _ _ _ _ _ _ _ _ _ _ _ (omega (arith, c.if-at-parameters.false)) c.loop-known-test.true c.loop-known.invariant.0 (function_at c.known-item.is c.in-Err.ensures.walk); few = tt; flat = tt }

pub run_given-returns-then-at-parameters : goal.run_given-returns-then-at-parameters
run_given-returns-then-at-parameters t c = record { walk = given_many _ _ _ _ _ _ _ _ (omega (arith, c.if-at-parameters.true)) c.loop-known-test.true c.loop-known.invariant.0; few = tt; flat = tt }

pub run_given-returns-then-at-parameters-2 : goal.run_given-returns-then-at-parameters-2
run_given-returns-then-at-parameters-2 t c = record { walk = given_few _ _ _ _ _ _ 0 _ _ c.if-at-parameters-2.true (omega (arith, c.loop-known-test.false)) c.loop-known.invariant.0; few = tt; flat = tt }

pub run_primitive-returns-in-Err : goal.run_primitive-returns-in-Err
run_primitive-returns-in-Err t c = record { walk = ran_memory _ c.in-Err.ensures.err; few = tt; flat = tt }

pub run_primitive-returns-in-Err-held : goal.run_primitive-returns-in-Err-held
run_primitive-returns-in-Err-held t c = record { walk = ran_memory _ c.in-Err-held.ensures.err; few = tt; flat = tt }

pub run_primitive-returns-in-Ok-held : goal.run_primitive-returns-in-Ok-held
run_primitive-returns-in-Ok-held t c = record { walk = primitive_waits _ _ _ _ _ _ _ _ c.parameters_of-parameters.ensures c.in-Ok.ensures.ok _ (omega (arith, c.if-given-parameters.true)) (known_primitive _ _ _ c.in-Ok-held.ensures.ok); few = omega (arith, c.requires.spent); flat = omega (arith, c.requires.level) }

pub run_primitive-returns-then-used-ge-MOST_NESTED : goal.run_primitive-returns-then-used-ge-MOST_NESTED
run_primitive-returns-then-used-ge-MOST_NESTED t c = record { walk = ran_memory _ refl; few = tt; flat = tt }

pub run_primitive-returns-in-Err-run_given : goal.run_primitive-returns-in-Err-run_given
run_primitive-returns-in-Err-run_given t c = record { walk = primitive_stopped _ _ _ _ _ _ _ _ c.parameters_of-parameters.ensures c.in-Ok.ensures.ok _ (omega (arith, c.if-given-parameters.false)) c.in-Err-run_given.ensures.walk; few = tt; flat = tt }

pub run_primitive-returns : goal.run_primitive-returns
run_primitive-returns t c = record { walk = primitive_ran _ _ _ _ _ _ _ _ c.parameters_of-parameters.ensures c.in-Ok.ensures.ok _ _ (omega (arith, c.if-given-parameters.false)) c.in-Ok-run_given.ensures.walk c.known_data.ensures; few = c.in-Ok-run_given.ensures.few; flat = c.in-Ok-run_given.ensures.flat }

pub run_with_data-returns-in-Err : goal.run_with_data-returns-in-Err
run_with_data-returns-in-Err t c = record { walk = function_fail _ _ _ _ _ _ _ _ _ c.loop-left-test.true c.loop-left.invariant.0 c.known_data.ensures c.in-Err.ensures.walk; few = tt; flat = tt }

pub run_with_data-returns-then-is_data : goal.run_with_data-returns-then-is_data
run_with_data-returns-then-is_data t c = record { walk = function_data _ _ _ _ _ _ _ c.loop-left-test.false c.loop-left.invariant.0 (sym c.if-is_data.true ∙ c.is_data.ensures); few = c.loop-left.invariant.1; flat = c.loop-left.invariant.2 }

pub run_with_data-returns-else-is_data : goal.run_with_data-returns-else-is_data
run_with_data-returns-else-is_data t c = record { walk = function_other _ _ _ _ _ _ _ c.loop-left-test.false c.loop-left.invariant.0 (sym c.if-is_data.false ∙ c.is_data.ensures); few = tt; flat = tt }

pub walk-returns-then-used-ge-MOST_DEPTH : goal.walk-returns-then-used-ge-MOST_DEPTH
walk-returns-then-used-ge-MOST_DEPTH t c = record { walk = too_deep _ _ _ _ _ (omega (arith, c.if-used-ge-MOST_DEPTH.true)); few = tt; flat = tt }

pub walk-returns-then-used-ge-MOST_NODES : goal.walk-returns-then-used-ge-MOST_NODES
walk-returns-then-used-ge-MOST_NODES t c = record { walk = too_many _ _ _ _ _ (omega (arith, c.if-used-ge-MOST_NODES.true)); few = tt; flat = tt }

pub walk-returns : goal.walk-returns
walk-returns t c = record { walk = peeled_walk c.peeled.ensures.peels c.walk_form.ensures.walk; few = c.walk_form.ensures.few; flat = c.walk_form.ensures.flat }

pub walk_apply-returns-in-Err : goal.walk_apply-returns-in-Err
walk_apply-returns-in-Err t c = record { walk = apply_function _ _ _ _ _ _ _ c.in-Err.ensures.walk; few = tt; flat = tt }

pub walk_apply-returns-in-Err-walk : goal.walk_apply-returns-in-Err-walk
walk_apply-returns-in-Err-walk t c = record { walk = apply_argument _ _ _ _ _ _ _ _ c.in-Ok.ensures.walk c.in-Err-walk.ensures.walk; few = tt; flat = tt }

pub walk_apply-returns-in-Err-run : goal.walk_apply-returns-in-Err-run
walk_apply-returns-in-Err-run t c = record { walk = apply_run _ _ _ _ _ _ _ _ _ c.in-Ok.ensures.walk c.in-Ok-walk.ensures.walk c.in-Err-run.ensures.walk; few = tt; flat = tt }

pub walk_apply-returns : goal.walk_apply-returns
walk_apply-returns t c = rw c.max-2.ensures (rw c.max.ensures (record { walk = apply_ok _ _ _ _ _ _ _ _ _ c.in-Ok.ensures.walk c.in-Ok-walk.ensures.walk c.in-Ok-run.ensures.walk; few = omega (arith, c.in-Ok-run.ensures.few); flat = omega (arith, c.in-Ok.ensures.flat, c.in-Ok-walk.ensures.flat, c.in-Ok-run.ensures.flat) }))

pub walk_data-returns-in-Err : goal.walk_data-returns-in-Err
walk_data-returns-in-Err t c = record { walk = data_stopped _ _ _ _ _ _ c.in-Err.ensures.walk; few = tt; flat = tt }

pub walk_data-returns-then-is_data : goal.walk_data-returns-then-is_data
walk_data-returns-then-is_data t c = record { walk = data_ok _ _ _ _ _ _ c.in-Ok.ensures.walk (sym c.if-is_data.true ∙ c.is_data.ensures); few = c.in-Ok.ensures.few; flat = c.in-Ok.ensures.flat }

pub walk_data-returns-else-is_data : goal.walk_data-returns-else-is_data
walk_data-returns-else-is_data t c = record { walk = data_function _ _ _ _ _ _ c.in-Ok.ensures.walk (sym c.if-is_data.false ∙ c.is_data.ensures); few = tt; flat = tt }

pub walk_form-returns-in-Apply : goal.walk_form-returns-in-Apply
walk_form-returns-in-Apply t c = record { walk = form_apply _ _ _ _ _ _ _ _ c.in-Apply.is c.walk_apply.ensures.walk; few = c.walk_apply.ensures.few; flat = c.walk_apply.ensures.flat }

pub walk_form-returns-in-Strict : goal.walk_form-returns-in-Strict
walk_form-returns-in-Strict t c = record { walk = form_strict _ _ _ _ _ _ _ _ _ c.in-Strict.is c.walk_strict.ensures.walk; few = c.walk_strict.ensures.few; flat = c.walk_strict.ensures.flat }

pub walk_form-returns-in-Lets : goal.walk_form-returns-in-Lets
walk_form-returns-in-Lets t c = record { walk = form_lets _ _ _ _ _ _ _ _ c.in-Lets.is c.walk_lets.ensures.walk; few = c.walk_lets.ensures.few; flat = c.walk_lets.ensures.flat }

pub walk_form-walk_lets-requires : goal.walk_form-walk_lets-requires
walk_form-walk_lets-requires t c = (omega arith, (c.requires.level, (c.requires.spent, plain_row _ _ _ c.requires.plain c.in-Lets.is)))

pub walk_form-returns-in-Ok : goal.walk_form-returns-in-Ok
walk_form-returns-in-Ok t c = record { walk = form_use _ _ _ _ _ _ _ _ c.in-Use.is (known_gives c.in-Ok.ensures); few = omega (arith, c.requires.spent); flat = omega (arith, c.requires.level) }

pub walk_form-returns-in-Err : goal.walk_form-returns-in-Err
walk_form-returns-in-Err t c = record { walk = form_unknown _ _ _ _ _ _ _ _ c.in-Use.is c.in-Err.ensures; few = tt; flat = tt }

pub walk_form-returns-in-Ok-captured : goal.walk_form-returns-in-Ok-captured
walk_form-returns-in-Ok-captured t c = record { walk = form_lambda _ _ _ _ _ _ _ _ c.in-Lambda.is c.in-Ok-captured.ensures.ok; few = omega (arith, c.requires.spent); flat = omega (arith, c.requires.level) }

pub walk_form-returns-in-Err-captured : goal.walk_form-returns-in-Err-captured
walk_form-returns-in-Err-captured t c = record { walk = walk_memory _ c.in-Err-captured.ensures.err; few = tt; flat = tt }

pub walk_strict-returns-in-Err : goal.walk_strict-returns-in-Err
walk_strict-returns-in-Err t c = record { walk = strict_parts _ _ _ _ _ _ _ c.requires.visit _ c.in-Err.ensures.walk; few = tt; flat = tt }

pub walk_strict-returns-in-Err-result_of : goal.walk_strict-returns-in-Err-result_of
walk_strict-returns-in-Err-result_of t c = record { walk = strict_lost _ _ _ _ _ _ _ c.requires.visit _ _ c.in-Ok.ensures.walk c.in-Err-result_of.ensures; few = tt; flat = tt }

pub walk_strict-returns : goal.walk_strict-returns
walk_strict-returns t c = record { walk = strict_ok _ _ _ _ _ _ _ c.requires.visit _ _ c.in-Ok.ensures.walk c.in-Ok-result_of.ensures; few = omega (arith, c.in-Ok.ensures.few); flat = omega (arith, c.in-Ok.ensures.flat) }

pub walk_form-walk_strict-requires : goal.walk_form-walk_strict-requires
walk_form-walk_strict-requires t c = (omega arith, (c.requires.level, (c.requires.spent, plain_visit _ _ _ _ c.requires.plain c.in-Strict.is)))

pub run_given-loop-known-init : goal.run_given-loop-known-init
run_given-loop-known-init t c = (given_start, refl, omega (arith, c.requires.spent), omega (arith, c.requires.level))

pub run_given-loop-known-preserved : goal.run_given-loop-known-preserved
run_given-loop-known-preserved t c = rw c.max.ensures (given_more _ _ _ _ _ _ _ _ _ _ _ (omega (arith, c.if-at-parameters.false)) c.loop-known-test.true c.loop-known.invariant.0 (function_at c.known-item.is c.in-Ok.ensures.walk), omega (arith, c.loop-known.invariant.1), omega (arith, c.in-Ok.ensures.few), omega (arith, c.in-Ok.ensures.flat, c.loop-known.invariant.3))

pub run_with_data-loop-left-init : goal.run_with_data-loop-left-init
run_with_data-loop-left-init t c = (function_start, omega (arith, c.requires.spent), omega (arith, c.requires.level))

pub run_with_data-loop-left-preserved : goal.run_with_data-loop-left-preserved
run_with_data-loop-left-preserved t c = rw c.max.ensures (function_more _ _ _ _ _ _ _ _ _ c.loop-left-test.true c.loop-left.invariant.0 c.known_data.ensures c.in-Ok.ensures.walk, omega (arith, c.in-Ok.ensures.few), omega (arith, c.in-Ok.ensures.flat, c.loop-left.invariant.2))

pub walk_strict-walk_parts-requires : goal.walk_strict-walk_parts-requires
walk_strict-walk_parts-requires t c = (omega (arith, c.requires.level), (omega (arith, c.requires.level), omega (arith, c.requires.spent)))

pub walk_apply-walk-requires : goal.walk_apply-walk-requires
walk_apply-walk-requires t c = (omega (arith, c.requires.level), tt)

pub walk_apply-walk-requires-2 : goal.walk_apply-walk-requires-2
walk_apply-walk-requires-2 t c = (omega (arith, c.requires.level), tt)

pub walk_apply-run-requires : goal.walk_apply-run-requires
walk_apply-run-requires t c = (omega (arith, c.requires.level), (omega (arith, c.requires.level), omega (arith, c.in-Ok-walk.ensures.few)))

pub walk_data-walk-requires : goal.walk_data-walk-requires
walk_data-walk-requires t c = (omega arith, tt)

pub walk_parts-walk-requires : goal.walk_parts-walk-requires
walk_parts-walk-requires t c = (omega arith, tt)

pub run-run_function-requires : goal.run-run_function-requires
run-run_function-requires t c = (omega arith, (c.requires.level, c.requires.spent))

pub run-run_primitive-requires : goal.run-run_primitive-requires
run-run_primitive-requires t c = (omega arith, (c.requires.level, c.requires.spent))

pub run_function-walk-requires : goal.run_function-walk-requires
run_function-walk-requires t c = (omega arith, tt)

pub run_primitive-run_given-requires : goal.run_primitive-run_given-requires
run_primitive-run_given-requires t c = (omega (arith, c.if-used-ge-MOST_NESTED.false), (c.requires.level, (c.requires.spent, omega (arith, c.if-used-ge-MOST_NESTED.false))))

pub run_given-run_with_data-requires : goal.run_given-run_with_data-requires
run_given-run_with_data-requires t c = (omega arith, (c.requires.level, c.loop-known.invariant.2))

pub run_with_data-run-requires : goal.run_with_data-run-requires
run_with_data-run-requires t c = (omega arith, (c.requires.level, c.loop-left.invariant.1))

pub walk_form-returns-in-If : goal.walk_form-returns-in-If
walk_form-returns-in-If t c = record { walk = form_if _ _ _ _ _ _ _ _ _ c.in-If.is (if_steps c.walk_steps.ensures.walk); few = c.walk_steps.ensures.few; flat = c.walk_steps.ensures.flat }

pub walk_steps-returns-in-Err : goal.walk_steps-returns-in-Err
walk_steps-returns-in-Err t c = record { walk = first_stops c.in-Err.ensures.walk; few = tt; flat = tt }

pub walk_steps-returns-in-Err-walk_data : goal.walk_steps-returns-in-Err-walk_data
walk_steps-returns-in-Err-walk_data t c = record { walk = step_second _ _ _ _ _ _ _ _ _ _ _ c.in-Ok.ensures.walk c.in-Err-walk_data.ensures.walk; few = tt; flat = tt }

pub walk_steps-returns-in-Err-walk_data-2 : goal.walk_steps-returns-in-Err-walk_data-2
walk_steps-returns-in-Err-walk_data-2 t c = record { walk = step_third _ _ _ _ _ _ _ _ _ _ _ _ c.in-Ok.ensures.walk c.in-Ok-walk_data.ensures.walk c.in-Err-walk_data-2.ensures.walk; few = tt; flat = tt }

pub walk_steps-returns : goal.walk_steps-returns
walk_steps-returns t c = rw c.max-2.ensures (rw c.max.ensures (record { walk = steps_done _ _ _ _ _ _ _ _ _ _ _ _ _ c.known_data.ensures c.in-Ok.ensures.walk c.in-Ok-walk_data.ensures.walk c.in-Ok-walk_data-2.ensures.walk; few = omega (arith, c.in-Ok-walk_data-2.ensures.few); flat = omega (arith, c.in-Ok.ensures.flat, c.in-Ok-walk_data.ensures.flat, c.in-Ok-walk_data-2.ensures.flat) }))

pub walk_steps-walk_data-requires : goal.walk_steps-walk_data-requires
walk_steps-walk_data-requires t c = (omega (arith, c.requires.level), (omega (arith, c.requires.level), omega (arith, c.requires.spent)))

pub walk_steps-walk_data-requires-2 : goal.walk_steps-walk_data-requires-2
walk_steps-walk_data-requires-2 t c = (omega (arith, c.requires.level), (omega (arith, c.requires.level), omega (arith, c.in-Ok.ensures.few)))

pub walk_steps-walk_data-requires-3 : goal.walk_steps-walk_data-requires-3
walk_steps-walk_data-requires-3 t c = (omega (arith, c.requires.level), (omega (arith, c.requires.level), omega (arith, c.in-Ok-walk_data.ensures.few)))

pub walk_form-walk_steps-requires : goal.walk_form-walk_steps-requires
walk_form-walk_steps-requires t c = (omega arith, (c.requires.level, c.requires.spent))

pub walk_parts-returns-in-Err : goal.walk_parts-returns-in-Err
walk_parts-returns-in-Err t c = record { walk = parts_fail _ _ _ _ _ _ _ _ _ _ _ c.loop-exp-test.true c.loop-exp.invariant.0 c.in-Err.ensures.walk; few = tt; flat = tt }

pub walk_parts-returns-in-Err-push : goal.walk_parts-returns-in-Err-push
walk_parts-returns-in-Err-push t c = record { walk = parts_memory _ _ _ 0 0 [] _ _; few = tt; flat = tt }

pub walk_parts-returns : goal.walk_parts-returns
walk_parts-returns t c = record { walk = parts_done _ _ _ _ _ _ _ _ _ _ (omega (arith, c.loop-exp-test.false)) c.loop-exp.invariant.0 c.into_bump_slice.ensures; few = c.loop-exp.invariant.1; flat = c.loop-exp.invariant.2 }

pub walk_parts-loop-exp-init : goal.walk_parts-loop-exp-init
walk_parts-loop-exp-init t c = rw c.new-knowns.ensures.items (all_start, omega (arith, c.requires.spent), omega (arith, c.requires.level))

pub walk_parts-loop-exp-preserved : goal.walk_parts-loop-exp-preserved
walk_parts-loop-exp-preserved t c = rw (c.max-depth.ensures ∙ greater c.loop-exp.depth c.in-Ok.r.depth) (parts_more _ _ _ _ _ _ _ _ _ _ _ _ c.loop-exp-test.true c.loop-exp.invariant.0 c.in-Ok.ensures.walk c.in-Ok-push.ensures.items, omega (arith, c.in-Ok.ensures.few), omega (arith, c.in-Ok.ensures.flat, c.loop-exp.invariant.2))

pub walk_form-returns-in-Loop : goal.walk_form-returns-in-Loop
walk_form-returns-in-Loop t c = record { walk = form_loop _ _ _ _ _ _ _ c.in-Loop.is c.walk_loop.ensures.walk; few = c.walk_loop.ensures.few; flat = c.walk_loop.ensures.flat }

pub walk_form-walk_loop-requires : goal.walk_form-walk_loop-requires
walk_form-walk_loop-requires t c = (omega arith, (c.requires.level, c.requires.spent))

pub walk_loop-returns-in-Ok : goal.walk_loop-returns-in-Ok
walk_loop-returns-in-Ok t c = record { walk = loop_steps _ _ _ c.in-Ok.ensures.ok c.test_of.ensures c.walk_steps.ensures.walk; few = c.walk_steps.ensures.few; flat = c.walk_steps.ensures.flat }

pub walk_loop-returns-in-Err : goal.walk_loop-returns-in-Err
walk_loop-returns-in-Err t c = record { walk = walk_memory _ c.in-Err.ensures.err; few = tt; flat = tt }

pub walk_loop-walk_steps-requires : goal.walk_loop-walk_steps-requires
walk_loop-walk_steps-requires t c = (omega arith, (c.requires.level, c.requires.spent))

pub walk_lets-returns-in-Some : goal.walk_lets-returns-in-Some
walk_lets-returns-in-Some t c = record { walk = first_asserts _ _ _ _ _ _ _ _ _ _ c.requires.some c.in-Some.ensures (between_to_end c.args.lets.now 1 _ (omega (arith, c.requires.some))) c.walk_assertion.ensures.walk; few = c.walk_assertion.ensures.few; flat = c.walk_assertion.ensures.flat }

pub walk_lets-walk_assertion-requires : goal.walk_lets-walk_assertion-requires
walk_lets-walk_assertion-requires t c = (omega arith, (c.requires.level, c.requires.spent))

pub walk_lets-walk_row-requires : goal.walk_lets-walk_row-requires
walk_lets-walk_row-requires t c = (omega arith, (c.requires.level, (c.requires.spent, first_in_row _ _ _ c.requires.some c.in-None.ensures)))

pub walk_assertion-returns-in-Err : goal.walk_assertion-returns-in-Err
walk_assertion-returns-in-Err t c = record { walk = assert_condition _ _ _ _ _ _ _ _ c.in-Err.ensures.walk; few = tt; flat = tt }

pub walk_assertion-returns-in-Err-bind_data : goal.walk_assertion-returns-in-Err-bind_data
walk_assertion-returns-in-Err-bind_data t c = record { walk = assert_memory _ _ _ _ _ _ _ _ c.in-Err-bind_data.ensures.err; few = tt; flat = tt }

pub walk_assertion-returns-in-Err-walk_behind : goal.walk_assertion-returns-in-Err-walk_behind
walk_assertion-returns-in-Err-walk_behind t c = record { walk = assert_guarded _ _ _ _ _ _ _ _ _ _ c.in-Ok.ensures.walk c.in-Ok-bind_data.ensures.ok c.in-Err-walk_behind.ensures.walk; few = tt; flat = tt }

pub walk_assertion-returns : goal.walk_assertion-returns
walk_assertion-returns t c = rw c.max.ensures (record { walk = assert_ok _ _ _ _ _ _ _ _ _ _ c.in-Ok.ensures.walk c.in-Ok-bind_data.ensures.ok c.in-Ok-walk_behind.ensures.walk; few = omega (arith, c.in-Ok-walk_behind.ensures.few); flat = omega (arith, c.in-Ok.ensures.flat, c.in-Ok-walk_behind.ensures.flat) })

pub walk_assertion-walk_data-requires : goal.walk_assertion-walk_data-requires
walk_assertion-walk_data-requires t c = (omega (arith, c.requires.level), (omega (arith, c.requires.level), omega (arith, c.requires.spent)))

pub walk_assertion-walk_behind-requires : goal.walk_assertion-walk_behind-requires
walk_assertion-walk_behind-requires t c = (omega (arith, c.requires.level), tt)

pub walk_behind-returns-then-lets-eq0 : goal.walk_behind-returns-then-lets-eq0
walk_behind-returns-then-lets-eq0 t c = record { walk = nothing_left _ _ _ _ _ _ _ c.if-lets-eq0.true c.walk.ensures.walk; few = c.walk.ensures.few; flat = c.walk.ensures.flat }

pub walk_behind-walk-requires : goal.walk_behind-walk-requires
walk_behind-walk-requires t c = (omega arith, tt)

pub walk_row-loop-at-init : goal.walk_row-loop-at-init
walk_row-loop-at-init t c = (leads_start, omega (arith, c.requires.spent), omega (arith, c.requires.level))

pub walk_row-loop-at-preserved : goal.walk_row-loop-at-preserved
walk_row-loop-at-preserved t c = rw c.max.ensures (row_more _ _ 0 0 _ c.loop-at.row _ _ _ _ _ _ _ _ _ c.loop-at.invariant.0 c.in-Some.ensures c.in-Ok.ensures.walk c.in-Ok-bind.ensures c.behind_first-left.ensures.lets c.behind_first-left.ensures.body, omega (arith, c.in-Ok.ensures.few), omega (arith, c.in-Ok.ensures.flat, c.loop-at.invariant.2))

pub walk_row-walk-requires : goal.walk_row-walk-requires
walk_row-walk-requires t c = (omega (arith, c.requires.level), tt)

pub walk_row-walk_behind-requires : goal.walk_row-walk_behind-requires
walk_row-walk_behind-requires t c = (omega (arith, c.requires.level), tt)

pub walk_row-returns-in-Err : goal.walk_row-returns-in-Err
walk_row-returns-in-Err t c = record { walk = row_value _ _ _ _ _ c.loop-at.row _ _ _ _ c.requires.row c.loop-at.invariant.0 c.in-Some.ensures c.in-Err.ensures.walk; few = tt; flat = tt }

pub walk_row-returns-in-Err-bind : goal.walk_row-returns-in-Err-bind
walk_row-returns-in-Err-bind t c = record { walk = row_pattern _ _ _ _ _ c.loop-at.row _ _ _ _ _ _ _ c.requires.row c.loop-at.invariant.0 c.in-Some.ensures c.in-Ok.ensures.walk c.in-Err-bind.ensures; few = tt; flat = tt }

pub walk_row-returns-in-Err-walk_behind : goal.walk_row-returns-in-Err-walk_behind
walk_row-returns-in-Err-walk_behind t c = record { walk = row_last _ _ _ _ _ c.loop-at.row _ _ c.requires.row c.loop-at.invariant.0 c.in_default.ensures c.in-Err-walk_behind.ensures.walk; few = tt; flat = tt }

pub walk_row-returns : goal.walk_row-returns
walk_row-returns t c = rw c.max-2.ensures (record {
  walk = row_ok _ _ _ _ _ c.loop-at.row _ _ c.requires.row c.loop-at.invariant.0 c.in_default.ensures c.in-Ok-walk_behind.ensures.walk;
  few = omega (arith, c.in-Ok-walk_behind.ensures.few);
  flat = omega (arith, c.in-Ok-walk_behind.ensures.flat, c.loop-at.invariant.2);
})
