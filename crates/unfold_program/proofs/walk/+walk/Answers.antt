use Rattle.std.proofs.Common.{refl, arith, ◌∙◌}
use Rattle.std.proofs.lemmas.Slice.{between_to_end}
use Rattle.unfold_parts.specs.Refused.{no_memory}
use Rattle.unfold_parts.proofs.Refusing.{only_memory}
use Rattle.unfold_program.specs.Answers.{walked_to, not_walked, refused, all_refused, not_applied, not_looped, has_to_pack, not_tried, row_refused}
use Rattle.unfold_program.proofs.Arms.{form_use, form_strict, form_lambda, form_apply, form_if, form_loop, strict_parts_err, strict_end, apply_function_err, apply_argument_err, apply_end, scalar_end, scalar_stuck}
use Rattle.unfold_program.proofs.Branching.{closes, block_mark, block_stuck, closed_as, blocked_as, branches_as, then_err, then_unlaid, then_differs, closed_mark, else_err, else_differs, branches_end, branches_again, if_test_err, if_branched, if_branches_err, branches_mark, branches_cut}
use Rattle.unfold_program.proofs.Looping.{turns_for, turns_for_in, turns_test, loop_first_err, loop_looped, loop_turns_err, loop_unpacked, loop_tried, loop_tried_err, packed_first, tried_looped, tried_err, tried_again, tried_as, looped_as, turns_mark, turn_mark, unentered, unnamed, count_err, counted_unbound, counted_body_err, counted_differs, counted_end, rows_err, row_unbound, row_mark, row_body_err, row_differs, row_end, test_unbound, test_err, test_mark, test_end, while_test_err, while_unbound, while_mark, while_body_err, while_differs, while_end}
use Rattle.unfold_program.proofs.Peeling.{unpeeled, peeled_unfolded}
use Rattle.unfold_program.proofs.Programs.{all_start, all_more, all_done, all_err}
use Rattle.unfold_program.proofs.Rows.{parts_start, parts_err, parts_more, parts_done, row_start, row_next, row_value_err, row_bind_err, row_done, lets_start, lets_more, lets_done, lets_err}
use Rattle.unfold_program.proofs.Running.{apply_of_other, apply_of_primitive, primitive_as, primitive_known, primitive_err, primitive_job, job_unbegun, job_stuck, job_mark, job_end, apply_unargued, apply_waits, apply_walks, applied_as, job_as}
use Rattle.unfold_program.proofs.walk.+walk.Goals as goal

pub walk-returns-then-level-ge-MOST_DEPTH : goal.walk-returns-then-level-ge-MOST_DEPTH
walk-returns-then-level-ge-MOST_DEPTH t c = refused no_memory

pub walk-returns-in-Err : goal.walk-returns-in-Err
walk-returns-in-Err t c = unpeeled _ _ _ _ _ _ _ c.in-Err.ensures.peeled

pub walk-returns-in-Ok : goal.walk-returns-in-Ok
walk-returns-in-Ok t c = peeled_unfolded _ _ _ _ _ _ _ _ c.in-Ok.ensures.peeled c.walk_form.ensures

pub walk_form-returns-in-Use : goal.walk_form-returns-in-Use
walk_form-returns-in-Use t c = form_use _ _ _ _ _ _ _ _ _ c.in-Use.is c.use_known.ensures

pub walk_form-returns-in-Lambda : goal.walk_form-returns-in-Lambda
walk_form-returns-in-Lambda t c = form_lambda _ _ _ _ _ _ _ _ _ c.in-Lambda.is c.requires.inside c.walk_lambda.ensures

pub walk_form-returns-in-Strict : goal.walk_form-returns-in-Strict
walk_form-returns-in-Strict t c = form_strict _ _ _ _ _ _ _ _ _ _ c.in-Strict.is c.walk_strict.ensures

pub walk_form-returns-in-Apply : goal.walk_form-returns-in-Apply
walk_form-returns-in-Apply t c = form_apply _ _ _ _ _ _ _ _ _ c.in-Apply.is (c.walk_apply.ensures _ c.requires.inside)

pub walk_form-returns-in-Lets : goal.walk_form-returns-in-Lets
walk_form-returns-in-Lets t c = c.walk_lets.ensures

pub walk_form-returns-in-If : goal.walk_form-returns-in-If
walk_form-returns-in-If t c = form_if _ _ _ _ _ _ _ _ _ _ c.in-If.is (c.walk_if.ensures _ c.requires.inside)

pub walk_form-returns-in-Loop : goal.walk_form-returns-in-Loop
walk_form-returns-in-Loop t c = form_loop _ _ _ _ _ _ _ _ c.in-Loop.is (c.walk_loop.ensures _ c.requires.inside)

pub walk_strict-returns-in-Err : goal.walk_strict-returns-in-Err
walk_strict-returns-in-Err t c = refused no_memory

pub walk_strict-returns-in-Err-walk_parts : goal.walk_strict-returns-in-Err-walk_parts
walk_strict-returns-in-Err-walk_parts t c = strict_parts_err _ _ _ _ _ _ _ _ _ _ _ c.own_numbers_of.ensures c.in-Ok.ensures c.in-Err-walk_parts.ensures

pub walk_strict-returns : goal.walk_strict-returns
walk_strict-returns t c = strict_end _ _ _ _ _ _ _ _ _ _ _ _ _ c.own_numbers_of.ensures c.in-Ok.ensures c.in-Ok-walk_parts.ensures c.operated.ensures

pub walk_parts-returns-in-Err : goal.walk_parts-returns-in-Err
walk_parts-returns-in-Err t c = parts_err _ _ _ _ _ _ _ _ _ _ _ _ c.loop-exp-test.true c.loop-exp.invariant c.in-Err.ensures

pub walk_parts-loop-exp-init : goal.walk_parts-loop-exp-init
walk_parts-loop-exp-init t c = parts_start _ _ _ _ _ _ c.new-knowns.ensures.items

pub walk_parts-loop-exp-preserved : goal.walk_parts-loop-exp-preserved
walk_parts-loop-exp-preserved t c = parts_more _ _ _ _ _ _ _ _ _ _ _ _ _ c.loop-exp-test.true c.loop-exp.invariant c.in-Ok.ensures c.in-Ok-push.ensures.items

pub walk_parts-returns : goal.walk_parts-returns
walk_parts-returns t c = parts_done _ _ _ _ _ _ _ _ _ _ (omega (arith, c.loop-exp-test.false)) c.loop-exp.invariant c.into_bump_slice.ensures

pub walk_apply-returns-in-Err : goal.walk_apply-returns-in-Err
walk_apply-returns-in-Err t c = λ lo q. apply_function_err _ _ lo _ _ _ _ _ _ q c.in-Err.ensures

pub walk_apply-returns-in-Err-walk : goal.walk_apply-returns-in-Err-walk
walk_apply-returns-in-Err-walk t c = λ lo q. apply_argument_err _ _ lo _ _ _ _ _ _ _ _ q c.in-Ok.ensures c.in-Err-walk.ensures

pub walk_apply-returns-in-Ok-apply : goal.walk_apply-returns-in-Ok-apply
walk_apply-returns-in-Ok-apply t c = λ lo q. apply_end _ _ lo _ _ _ _ _ _ _ _ _ _ _ q c.in-Ok.ensures c.in-Ok-walk.ensures c.in-Ok-apply.ensures walked_to

pub walk_apply-returns-in-Err-apply : goal.walk_apply-returns-in-Err-apply
walk_apply-returns-in-Err-apply t c = λ lo q. apply_end _ _ lo _ _ _ _ _ _ _ _ _ _ _ q c.in-Ok.ensures c.in-Ok-walk.ensures c.in-Err-apply.ensures not_walked

pub walk_scalar-returns-in-Ok : goal.walk_scalar-returns-in-Ok
walk_scalar-returns-in-Ok t c = scalar_end _ _ _ _ _ _ _ _ c.in-Ok.ensures c.scalar_of.ensures

pub walk_scalar-returns-in-Err : goal.walk_scalar-returns-in-Err
walk_scalar-returns-in-Err t c = scalar_stuck _ _ _ _ _ _ _ c.in-Err.ensures

pub walk_lets-loop-rest-init : goal.walk_lets-loop-rest-init
walk_lets-loop-rest-init t c = lets_start _ _ _ _ _

pub walk_lets-loop-rest-preserved : goal.walk_lets-loop-rest-preserved
walk_lets-loop-rest-preserved t c = lets_more _ _ _ _ _ _ _ _ _ _ _ _ c.loop-rest.invariant c.in-Lets.is c.in-Ok.ensures

pub walk_lets-returns-in-Err : goal.walk_lets-returns-in-Err
walk_lets-returns-in-Err t c = lets_err _ _ _ _ _ _ _ _ _ _ _ _ c.loop-rest.invariant c.in-Lets.is c.in-Err.ensures

pub walk_lets-returns : goal.walk_lets-returns
walk_lets-returns t c = lets_done _ _ _ _ _ _ _ _ _ _ c.loop-rest.invariant c.walk.ensures

pub walk_row-loop-one-init : goal.walk_row-loop-one-init
walk_row-loop-one-init t c = row_start _ _ _ _

pub walk_row-returns-in-Err : goal.walk_row-returns-in-Err
walk_row-returns-in-Err t c = row_refused no_memory

pub walk_row-returns-in-Err-after_pattern : goal.walk_row-returns-in-Err-after_pattern
walk_row-returns-in-Err-after_pattern t c = row_refused no_memory

pub walk_row-loop-one-preserved : goal.walk_row-loop-one-preserved
walk_row-loop-one-preserved t c = row_next _ _ _ _ _ _ _ _ _ _ _ c.loop-one-test.true c.loop-one.invariant c.in-Ok.ensures c.in-Ok-after_pattern.ensures _ _ _ c.in-Ok-walk.ensures c.in-Ok-bind.ensures

pub walk_row-returns-in-Err-walk : goal.walk_row-returns-in-Err-walk
walk_row-returns-in-Err-walk t c = row_value_err _ _ _ _ _ _ _ _ _ _ _ c.loop-one-test.true c.loop-one.invariant c.in-Ok.ensures c.in-Ok-after_pattern.ensures _ c.in-Err-walk.ensures

pub walk_row-returns-in-Err-bind : goal.walk_row-returns-in-Err-bind
walk_row-returns-in-Err-bind t c = row_bind_err _ _ _ _ _ _ _ _ _ _ _ c.loop-one-test.true c.loop-one.invariant c.in-Ok.ensures c.in-Ok-after_pattern.ensures _ _ _ c.in-Ok-walk.ensures c.in-Err-bind.ensures

pub walk_row-returns : goal.walk_row-returns
walk_row-returns t c = row_done _ _ _ _ _ _ _ (omega (arith, c.loop-one-test.false)) c.loop-one.invariant

pub walk_parts-returns-in-Err-push : goal.walk_parts-returns-in-Err-push
walk_parts-returns-in-Err-push t c = all_refused no_memory

pub walk_form-walk_strict-requires : goal.walk_form-walk_strict-requires
walk_form-walk_strict-requires t c = (omega arith, (c.requires.kept, c.requires.level))

pub walk_form-walk_apply-requires : goal.walk_form-walk_apply-requires
walk_form-walk_apply-requires t c = (omega arith, (c.requires.kept, c.requires.level))

pub walk_form-walk_lets-requires : goal.walk_form-walk_lets-requires
walk_form-walk_lets-requires t c = (omega arith, (c.requires.kept, c.requires.level))

pub walk_form-walk_if-requires : goal.walk_form-walk_if-requires
walk_form-walk_if-requires t c = (omega arith, (c.requires.kept, c.requires.level))

pub walk_form-walk_loop-requires : goal.walk_form-walk_loop-requires
walk_form-walk_loop-requires t c = (omega arith, (c.requires.kept, c.requires.level))

pub walk_strict-walk_parts-requires : goal.walk_strict-walk_parts-requires
walk_strict-walk_parts-requires t c = (omega arith, (c.requires.kept, c.requires.level))

pub walk_apply-apply-requires : goal.walk_apply-apply-requires
walk_apply-apply-requires t c = (omega arith, (c.requires.kept, c.requires.level))

pub walk_lets-walk_row-requires : goal.walk_lets-walk_row-requires
walk_lets-walk_row-requires t c = (omega arith, (c.requires.kept, c.requires.level))

pub walk_parts-walk-requires : goal.walk_parts-walk-requires
walk_parts-walk-requires t c = (omega arith, c.requires.kept)

pub walk_apply-walk-requires : goal.walk_apply-walk-requires
walk_apply-walk-requires t c = (omega arith, c.requires.kept)

pub walk_apply-walk-requires-2 : goal.walk_apply-walk-requires-2
walk_apply-walk-requires-2 t c = (omega arith, c.requires.kept)

pub walk_scalar-walk-requires : goal.walk_scalar-walk-requires
walk_scalar-walk-requires t c = (omega arith, c.requires.kept)

pub walk_lets-walk-requires : goal.walk_lets-walk-requires
walk_lets-walk-requires t c = (omega arith, c.requires.kept)

pub walk_row-walk-requires : goal.walk_row-walk-requires
walk_row-walk-requires t c = (omega arith, c.requires.kept)

pub apply-walk-requires : goal.apply-walk-requires
apply-walk-requires t c = (omega arith, c.requires.kept)

pub apply-returns : goal.apply-returns
apply-returns t c = apply_walks _ _ _ _ _ c.in-Function.is _ _ _ _ _ c.in-Ok.ensures c.if-params-gt1.false c.walk.ensures

pub walk_block-close-requires : goal.walk_block-close-requires
walk_block-close-requires t c = record { mark = block_mark _ _ _ _ _ _ _ _ c.requires.mark c.in-Ok.ensures }

pub walk_block-returns-in-Ok : goal.walk_block-returns-in-Ok
walk_block-returns-in-Ok t c = closes _ _ _ _ _ _ _ _ _ _ _ c.in-Ok.ensures c.close.ensures

pub walk_block-returns-in-Err : goal.walk_block-returns-in-Err
walk_block-returns-in-Err t c = block_stuck _ _ _ _ _ _ _ _ _ c.in-Err.ensures

pub apply_all-loop-argument-init : goal.apply_all-loop-argument-init
apply_all-loop-argument-init t c = all_start _ _ _ _

pub apply_all-loop-argument-preserved : goal.apply_all-loop-argument-preserved
apply_all-loop-argument-preserved t c = all_more _ _ _ _ _ _ _ _ _ _ c.loop-argument-test.true c.loop-argument.invariant c.in-Ok.ensures

pub apply_all-returns : goal.apply_all-returns
apply_all-returns t c = all_done _ _ _ _ _ _ _ (omega (arith, c.loop-argument-test.false)) c.loop-argument.invariant

pub apply_all-returns-in-Err : goal.apply_all-returns-in-Err
apply_all-returns-in-Err t c = all_err _ _ _ _ _ _ _ _ _ _ c.loop-argument-test.true c.loop-argument.invariant c.in-Err.ensures

pub apply-returns-in_default : goal.apply-returns-in_default
apply-returns-in_default t c = apply_of_other _ _ _ _ _ c.in_default.not-Function c.in_default.not-Primitive

pub apply-returns-in-Primitive : goal.apply-returns-in-Primitive
apply-returns-in-Primitive t c = apply_of_primitive _ _ _ _ _ _ _ _ _ c.in-Primitive.is c.apply_to.ensures

pub apply-returns-in-Err : goal.apply-returns-in-Err
apply-returns-in-Err t c = apply_unargued _ _ _ _ _ c.in-Function.is _ _ _ c.in-Err.ensures

pub apply-returns-then-params-gt1 : goal.apply-returns-then-params-gt1
apply-returns-then-params-gt1 t c = applied_as _ _ _ _ _ c.put_known.ensures _ _ (apply_waits _ _ _ _ _ c.in-Function.is _ _ _ _ c.in-Ok.ensures c.if-params-gt1.true (between_to_end c.in-Function.lambda.now.parameters.now 1 _ (omega arith)) c.function_known.ensures.ok c.function_known.ensures.err)

pub walk_if-returns-in-Err : goal.walk_if-returns-in-Err
walk_if-returns-in-Err t c = λ lo q. if_test_err _ _ lo _ _ _ _ _ _ q _ _ c.in-Err.ensures

pub walk_loop-returns-in-Err : goal.walk_loop-returns-in-Err
walk_loop-returns-in-Err t c = λ lo q. refused no_memory

pub walk_loop-returns-in-Err-walk : goal.walk_loop-returns-in-Err-walk
walk_loop-returns-in-Err-walk t c = λ lo q. loop_first_err _ _ _ lo _ _ _ q c.in-Ok.ensures _ _ _ c.in-Err-walk.ensures

pub walk_turns-returns-in-For : goal.walk_turns-returns-in-For
walk_turns-returns-in-For t c = turns_for _ _ _ _ _ _ _ _ _ _ c.in-For.is c.walk_for.ensures

pub walk_turns-returns-in-ForIn : goal.walk_turns-returns-in-ForIn
walk_turns-returns-in-ForIn t c = turns_for_in _ _ _ _ _ _ _ _ _ _ c.in-ForIn.is c.walk_rows.ensures

pub walk_turns-returns-in-While : goal.walk_turns-returns-in-While
walk_turns-returns-in-While t c = turns_test _ _ _ _ _ _ _ _ _ c.in-While.is c.walk_while.ensures

pub walk_branches-returns-in-Err : goal.walk_branches-returns-in-Err
walk_branches-returns-in-Err t c = then_err _ _ _ _ _ _ _ _ _ _ c.in-Err.ensures

pub walk_branches-close-requires : goal.walk_branches-close-requires
walk_branches-close-requires t c = record { mark = block_mark _ _ _ _ _ _ _ _ (omega (arith, c.mark-mark.ensures)) c.in-Ok.ensures }

pub walk_branches-returns-in-Err-close : goal.walk_branches-returns-in-Err-close
walk_branches-returns-in-Err-close t c = then_unlaid _ _ _ _ _ _ _ _ _ _ _ _ _ _ c.in-Ok.ensures c.in-Err-close.ensures

pub walk_if-returns-in-Err-walk_branches : goal.walk_if-returns-in-Err-walk_branches
walk_if-returns-in-Err-walk_branches t c = λ lo q. if_branches_err _ _ lo _ _ _ _ _ _ q _ _ _ _ _ c.in-Ok.ensures c.in-Err-walk_branches.ensures

pub walk_if-returns-in-Err-again : goal.walk_if-returns-in-Err-again
walk_if-returns-in-Err-again t c = λ lo q. refused (only_memory c.in-Err-again.ensures.err)

pub walk_loop-returns-in-Err-packed : goal.walk_loop-returns-in-Err-packed
walk_loop-returns-in-Err-packed t c = λ lo q. loop_unpacked _ _ _ lo _ _ _ q c.in-Ok.ensures _ _ _ _ _ c.in-Ok-walk.ensures c.in-Err-packed.ensures

pub walk_for-returns-in-Err : goal.walk_for-returns-in-Err
walk_for-returns-in-Err t c = not_looped no_memory

pub walk_for-returns-in-Err-walk_scalar : goal.walk_for-returns-in-Err-walk_scalar
walk_for-returns-in-Err-walk_scalar t c = count_err _ _ _ _ _ _ _ _ _ _ c.in-Ok.ensures _ _ c.in-Err-walk_scalar.ensures

pub walk_for-returns-in-Err-enter : goal.walk_for-returns-in-Err-enter
walk_for-returns-in-Err-enter t c = unentered _ _ _ _ _ _ _ _ _ _ _ c.in-Err-enter.ensures.entered

pub walk_for-returns-in-Err-name : goal.walk_for-returns-in-Err-name
walk_for-returns-in-Err-name t c = unnamed _ _ _ _ _ _ _ _ _ _ _ c.in-Err-name.ensures.name

pub walk_for-returns-in-Err-bind_turn : goal.walk_for-returns-in-Err-bind_turn
walk_for-returns-in-Err-bind_turn t c = counted_unbound _ _ _ _ _ _ _ _ _ c.walk_scalar.new.state c.in-Ok.ensures c.enter.new.state _ _ c.in-Ok-walk_scalar.n c.in-Ok-enter.entered _ _ _ c.in-Ok-enter.ensures.entered c.in-Err-bind_turn.ensures

pub walk_for-returns-in-Ok-None : goal.walk_for-returns-in-Ok-None
walk_for-returns-in-Ok-None t c = counted_differs _ _ _ _ _ _ _ _ _ _ c.in-Ok.ensures c.enter.new.state _ _ c.in-Ok-walk_scalar.n c.in-Ok-enter.entered _ _ _ _ (c.in-Ok-name.ensures.steps ∙ c.in-Ok-enter.ensures.steps) c.in-Ok-walk_scalar.ensures c.in-Ok-bind_turn.ensures (blocked_as c.in-Ok-None.field-0-is c.in-Ok-None.ensures)

pub walk_for-returns-in-Err-walk_block : goal.walk_for-returns-in-Err-walk_block
walk_for-returns-in-Err-walk_block t c = counted_body_err _ _ _ _ _ _ _ _ _ _ c.in-Ok.ensures c.enter.new.state _ _ c.in-Ok-walk_scalar.n c.in-Ok-enter.entered _ _ _ _ _ _ c.in-Ok-walk_scalar.ensures c.in-Ok-enter.ensures.entered c.in-Ok-bind_turn.ensures c.in-Err-walk_block.ensures

pub walk_for-returns : goal.walk_for-returns
walk_for-returns t c = counted_end _ _ _ _ _ _ _ _ _ _ c.in-Ok.ensures c.enter.new.state _ _ c.in-Ok-walk_scalar.n c.in-Ok-enter.entered _ _ _ _ _ _ _ c.mark-mark.ensures (c.in-Ok-name.ensures.steps ∙ c.in-Ok-enter.ensures.steps) c.in-Ok-name.ensures.name c.in-Ok-walk_scalar.ensures c.in-Ok-enter.ensures.entered c.in-Ok-bind_turn.ensures (blocked_as c.in-Ok-Some.field-0-is c.in-Ok-Some.ensures) c.give_counted.ensures

pub walk_rows-returns-in-Err : goal.walk_rows-returns-in-Err
walk_rows-returns-in-Err t c = not_looped no_memory

pub walk_rows-returns-in-Err-walk_scalar : goal.walk_rows-returns-in-Err-walk_scalar
walk_rows-returns-in-Err-walk_scalar t c = rows_err _ _ _ _ _ _ _ _ _ _ c.in-Ok.ensures _ _ c.in-Err-walk_scalar.ensures

pub walk_rows-returns-in-Err-enter : goal.walk_rows-returns-in-Err-enter
walk_rows-returns-in-Err-enter t c = unentered _ _ _ _ _ _ _ _ _ _ _ c.in-Err-enter.ensures.entered

pub walk_rows-returns-in-Err-name : goal.walk_rows-returns-in-Err-name
walk_rows-returns-in-Err-name t c = unnamed _ _ _ _ _ _ _ _ _ _ _ c.in-Err-name.ensures.name

pub walk_rows-returns-in-Err-bind_row : goal.walk_rows-returns-in-Err-bind_row
walk_rows-returns-in-Err-bind_row t c = row_unbound _ _ _ _ _ _ _ _ _ c.walk_scalar.new.state c.in-Ok.ensures c.enter.new.state _ _ c.in-Ok-walk_scalar.r c.in-Ok-enter.entered _ _ _ c.in-Ok-enter.ensures.entered c.in-Err-bind_row.ensures

pub walk_rows-returns-in-Ok-None : goal.walk_rows-returns-in-Ok-None
walk_rows-returns-in-Ok-None t c = row_differs _ _ _ _ _ _ _ _ _ _ c.in-Ok.ensures c.enter.new.state _ _ c.in-Ok-walk_scalar.r c.in-Ok-enter.entered _ _ _ _ (c.in-Ok-name.ensures.steps ∙ c.in-Ok-enter.ensures.steps) c.in-Ok-walk_scalar.ensures c.in-Ok-bind_row.ensures (blocked_as c.in-Ok-None.field-0-is c.in-Ok-None.ensures)

pub walk_rows-returns-in-Err-walk_block : goal.walk_rows-returns-in-Err-walk_block
walk_rows-returns-in-Err-walk_block t c = row_body_err _ _ _ _ _ _ _ _ _ _ c.in-Ok.ensures c.enter.new.state _ _ c.in-Ok-walk_scalar.r c.in-Ok-enter.entered _ _ _ _ _ _ c.in-Ok-walk_scalar.ensures c.in-Ok-enter.ensures.entered c.in-Ok-bind_row.ensures c.in-Err-walk_block.ensures

pub walk_rows-returns : goal.walk_rows-returns
walk_rows-returns t c = row_end _ _ _ _ _ _ _ _ _ _ c.in-Ok.ensures c.enter.new.state _ _ c.in-Ok-walk_scalar.r c.in-Ok-enter.entered _ _ _ _ _ _ _ c.mark-mark.ensures (c.in-Ok-name.ensures.steps ∙ c.in-Ok-enter.ensures.steps) c.in-Ok-name.ensures.name c.in-Ok-walk_scalar.ensures c.in-Ok-enter.ensures.entered c.in-Ok-bind_row.ensures (blocked_as c.in-Ok-Some.field-0-is c.in-Ok-Some.ensures) c.give_rows.ensures

pub walk_test-returns-in-Err : goal.walk_test-returns-in-Err
walk_test-returns-in-Err t c = test_unbound _ _ _ _ _ _ _ _ c.bind.new.work _ _ c.in-Err.ensures

pub walk_test-returns-in-Ok-walk_scalar : goal.walk_test-returns-in-Ok-walk_scalar
walk_test-returns-in-Ok-walk_scalar t c = test_end _ _ _ _ _ _ _ _ _ _ _ _ _ c.mark-mark.ensures _ _ c.in-Ok.ensures c.in-Ok-walk_scalar.ensures c.close_scalar.ensures

pub walk_test-returns-in-Err-walk_scalar : goal.walk_test-returns-in-Err-walk_scalar
walk_test-returns-in-Err-walk_scalar t c = test_err _ _ _ _ _ _ _ _ _ _ _ _ _ c.in-Ok.ensures c.in-Err-walk_scalar.ensures

pub walk_while-returns-in-Err : goal.walk_while-returns-in-Err
walk_while-returns-in-Err t c = unentered _ _ _ _ _ _ _ _ _ _ _ c.in-Err.ensures.entered

pub walk_while-returns-in-Err-walk_test : goal.walk_while-returns-in-Err-walk_test
walk_while-returns-in-Err-walk_test t c = while_test_err _ _ _ _ _ _ _ _ _ _ _ _ c.in-Ok.ensures.entered c.in-Err-walk_test.ensures

pub walk_while-returns-in-Err-bind : goal.walk_while-returns-in-Err-bind
walk_while-returns-in-Err-bind t c = while_unbound _ _ _ _ _ _ _ c.enter.new.state c.walk_test.new.state c.in-Ok.entered c.bind.new.work c.in-Ok-walk_test.c _ _ c.in-Ok.ensures.entered c.in-Err-bind.ensures

pub walk_while-returns-in-Ok-None : goal.walk_while-returns-in-Ok-None
walk_while-returns-in-Ok-None t c = while_differs _ _ _ _ _ _ _ c.enter.new.state c.walk_test.new.state c.in-Ok.entered c.bind.new.work _ _ _ _ c.in-Ok.ensures.steps c.in-Ok-walk_test.ensures c.in-Ok-bind.ensures (blocked_as c.in-Ok-None.field-0-is c.in-Ok-None.ensures)

pub walk_while-returns-in-Err-walk_block : goal.walk_while-returns-in-Err-walk_block
walk_while-returns-in-Err-walk_block t c = while_body_err _ _ _ _ _ _ _ c.enter.new.state c.walk_test.new.state c.in-Ok.entered c.bind.new.work _ _ _ _ _ _ c.in-Ok.ensures.entered c.in-Ok-walk_test.ensures c.in-Ok-bind.ensures c.in-Err-walk_block.ensures

pub walk_while-returns : goal.walk_while-returns
walk_while-returns t c = while_end _ _ _ _ _ _ _ c.enter.new.state c.walk_test.new.state c.in-Ok.entered c.bind.new.work _ _ _ _ _ _ _ c.mark-mark.ensures c.in-Ok.ensures.steps c.in-Ok.ensures.entered c.in-Ok-walk_test.ensures c.in-Ok-bind.ensures (blocked_as c.in-Ok-Some.field-0-is c.in-Ok-Some.ensures) c.give_while.ensures

pub walk_job-returns-then-level-ge-MOST_DEPTH : goal.walk_job-returns-then-level-ge-MOST_DEPTH
walk_job-returns-then-level-ge-MOST_DEPTH t c = λ gs s e ready. not_applied no_memory

pub walk_job-returns-in-Err : goal.walk_job-returns-in-Err
walk_job-returns-in-Err t c = job_unbegun _ _ _ _ _ c.begin_job.new.work _ _ c.in-Err.ensures

pub walk_job-returns-in-Err-apply_all : goal.walk_job-returns-in-Err-apply_all
walk_job-returns-in-Err-apply_all t c = job_stuck _ _ _ _ _ _ _ _ _ _ c.in-Ok.ensures c.in-Err-apply_all.ensures

pub walk_branches-returns-in-Ok-None : goal.walk_branches-returns-in-Ok-None
walk_branches-returns-in-Ok-None t c = then_differs _ _ _ _ _ _ _ _ _ _ _ _ c.asked-like.ensures c.in-Ok.ensures (closed_as c.in-Ok-None.field-0-is c.in-Ok-None.ensures)

pub walk_branches-walk_block-requires : goal.walk_branches-walk_block-requires
walk_branches-walk_block-requires t c = (omega arith, (c.requires.kept, (c.requires.level, closed_mark _ _ _ _ c.args.state.now _ _ _ _ _ _ c.mark-mark.ensures c.in-Ok.ensures (closed_as c.in-Ok-Some.field-0-is c.in-Ok-Some.ensures))))

pub walk_branches-returns-in-Ok-None-walk_block : goal.walk_branches-returns-in-Ok-None-walk_block
walk_branches-returns-in-Ok-None-walk_block t c = else_differs _ _ _ _ _ _ c.args.state.now _ _ _ _ _ _ c.mark-mark.ensures _ c.asked-like.ensures c.in-Ok.ensures (closed_as c.in-Ok-Some.field-0-is c.in-Ok-Some.ensures) (blocked_as c.in-Ok-None-walk_block.field-0-is c.in-Ok-None-walk_block.ensures)

pub walk_branches-returns-in-Err-walk_block : goal.walk_branches-returns-in-Err-walk_block
walk_branches-returns-in-Err-walk_block t c = else_err _ _ _ _ _ _ c.args.state.now _ _ _ _ _ _ c.mark-mark.ensures _ _ _ c.in-Ok.ensures (closed_as c.in-Ok-Some.field-0-is c.in-Ok-Some.ensures) c.in-Err-walk_block.ensures

pub walk_branches-returns : goal.walk_branches-returns
walk_branches-returns t c = branches_end _ _ _ _ _ _ c.args.state.now _ _ _ _ _ _ c.mark-mark.ensures _ _ _ _ c.asked-like.ensures c.in-Ok.ensures (closed_as c.in-Ok-Some.field-0-is c.in-Ok-Some.ensures) (blocked_as c.in-Ok-Some-walk_block.field-0-is c.in-Ok-Some-walk_block.ensures) c.give_choice.ensures

pub walk_if-returns-in-Ok-Agree : goal.walk_if-returns-in-Ok-Agree
walk_if-returns-in-Ok-Agree t c = λ lo q. if_branched _ _ lo _ _ _ _ _ _ q _ _ _ _ c.in-Ok.ensures (branches_as _ c.in-Ok-Agree.field-0-is c.in-Ok-Agree.ensures)

pub walk_if-again-requires : goal.walk_if-again-requires
walk_if-again-requires t c = record { mark = branches_mark _ _ _ _ _ c.walk_scalar.new.state _ _ _ c.mark-mark.ensures (branches_as _ c.in-Ok-Differ.field-0-is c.in-Ok-Differ.ensures) }

pub walk_if-returns-in-Ok-Agree-walk_branches : goal.walk_if-returns-in-Ok-Agree-walk_branches
walk_if-returns-in-Ok-Agree-walk_branches t c = λ lo q. if_branched _ _ lo _ _ _ _ _ _ q _ _ _ _ c.in-Ok.ensures (branches_again _ _ _ _ _ _ c.walk_scalar.new.state c.again.new.state _ _ (branches_cut _ _ _ _ _ c.walk_scalar.new.state _ c.walk_branches.new.state c.again.new.state _ c.mark-mark.ensures (branches_as _ c.in-Ok-Differ.field-0-is c.in-Ok-Differ.ensures) c.in-Ok-again.ensures.steps) c.in-Ok-again.ensures.next (branches_as _ c.in-Ok-Agree-walk_branches.field-0-is c.in-Ok-Agree-walk_branches.ensures))

pub walk_if-returns-in-Err-walk_branches-2 : goal.walk_if-returns-in-Err-walk_branches-2
walk_if-returns-in-Err-walk_branches-2 t c = λ lo q. if_branches_err _ _ lo _ _ _ _ _ _ q _ _ _ _ _ c.in-Ok.ensures (branches_again _ _ _ _ _ _ c.walk_scalar.new.state c.again.new.state _ _ (branches_cut _ _ _ _ _ c.walk_scalar.new.state _ c.walk_branches.new.state c.again.new.state _ c.mark-mark.ensures (branches_as _ c.in-Ok-Differ.field-0-is c.in-Ok-Differ.ensures) c.in-Ok-again.ensures.steps) c.in-Ok-again.ensures.next c.in-Err-walk_branches-2.ensures)

pub walk_loop-returns-in-Ok-Agree : goal.walk_loop-returns-in-Ok-Agree
walk_loop-returns-in-Ok-Agree t c = λ lo q. loop_tried _ _ _ lo _ _ _ q c.in-Ok.ensures _ _ _ _ c.in-Ok-walk.ensures (tried_as _ c.in-Ok-Agree.field-0-is c.in-Ok-Agree.ensures)

pub walk_loop-returns-in-Err-walk_first : goal.walk_loop-returns-in-Err-walk_first
walk_loop-returns-in-Err-walk_first t c = λ lo q. loop_tried_err _ _ _ lo _ _ _ q c.in-Ok.ensures _ _ _ _ _ c.in-Ok-walk.ensures c.in-Err-walk_first.ensures

pub walk_loop-returns-in-Ok-Agree-walk_turns : goal.walk_loop-returns-in-Ok-Agree-walk_turns
walk_loop-returns-in-Ok-Agree-walk_turns t c = λ lo q. loop_looped _ _ _ lo _ _ _ q c.in-Ok.ensures _ _ _ _ (packed_first _ _ _ _ _ _ _ _ _ _ _ _ _ (tried_as _ c.in-Ok-Differ.field-0-is c.in-Ok-Differ.ensures) c.in-Ok-walk.ensures c.in-Ok-packed.ensures) (looped_as _ c.in-Ok-Agree-walk_turns.field-0-is c.in-Ok-Agree-walk_turns.ensures)

pub walk_loop-returns-in-Err-walk_turns : goal.walk_loop-returns-in-Err-walk_turns
walk_loop-returns-in-Err-walk_turns t c = λ lo q. loop_turns_err _ _ _ lo _ _ _ q c.in-Ok.ensures _ _ _ _ _ (packed_first _ _ _ _ _ _ _ _ _ _ _ _ _ (tried_as _ c.in-Ok-Differ.field-0-is c.in-Ok-Differ.ensures) c.in-Ok-walk.ensures c.in-Ok-packed.ensures) c.in-Err-walk_turns.ensures

pub walk_first-returns-then-packs : goal.walk_first-returns-then-packs
walk_first-returns-then-packs t c = has_to_pack refl refl

pub walk_first-returns-in-Ok-Agree : goal.walk_first-returns-in-Ok-Agree
walk_first-returns-in-Ok-Agree t c = tried_looped _ _ _ _ _ _ _ _ _ (looped_as _ c.in-Ok-Agree.field-0-is c.in-Ok-Agree.ensures)

pub walk_first-returns-in-Err : goal.walk_first-returns-in-Err
walk_first-returns-in-Err t c = tried_err _ _ _ _ _ _ _ _ _ _ c.in-Err.ensures

pub walk_first-again-requires : goal.walk_first-again-requires
walk_first-again-requires t c = record { mark = turns_mark _ _ _ _ _ _ c.args.state.now _ _ c.mark-mark.ensures (looped_as _ c.in-Ok-Differ.field-0-is c.in-Ok-Differ.ensures) }

pub walk_first-returns-in-Err-again : goal.walk_first-returns-in-Err-again
walk_first-returns-in-Err-again t c = not_tried (only_memory c.in-Err-again.ensures.err)

pub walk_first-returns-in-Ok : goal.walk_first-returns-in-Ok
walk_first-returns-in-Ok t c = tried_again _ _ _ _ _ _ c.args.state.now _ _ c.again.new.state c.mark-mark.ensures (looped_as _ c.in-Ok-Differ.field-0-is c.in-Ok-Differ.ensures) c.in-Ok.ensures.steps c.in-Ok.ensures.next

pub walk_for-walk_block-requires : goal.walk_for-walk_block-requires
walk_for-walk_block-requires t c = (omega arith, (c.requires.kept, (c.requires.level, turn_mark _ _ _ _ _ _ _ _ c.name.new.self _ _ _ c.mark-mark.ensures c.in-Ok-bind_turn.ensures)))

pub walk_rows-walk_block-requires : goal.walk_rows-walk_block-requires
walk_rows-walk_block-requires t c = (omega arith, (c.requires.kept, (c.requires.level, row_mark _ _ _ _ _ _ _ _ c.name.new.self _ _ _ c.mark-mark.ensures c.in-Ok-bind_row.ensures)))

pub walk_while-walk_block-requires : goal.walk_while-walk_block-requires
walk_while-walk_block-requires t c = (omega arith, (c.requires.kept, (c.requires.level, while_mark _ _ _ _ _ _ _ c.enter.new.state _ _ c.bind.new.work _ _ c.mark-mark.ensures c.in-Ok-walk_test.ensures c.in-Ok-bind.ensures)))

pub walk_test-close_scalar-requires : goal.walk_test-close_scalar-requires
walk_test-close_scalar-requires t c = record { mark = test_mark _ _ _ _ _ _ _ c.args.state.now c.bind.new.work _ _ _ _ c.mark-mark.ensures c.in-Ok.ensures c.in-Ok-walk_scalar.ensures }

pub apply_to-returns-in-Ok-Known : goal.apply_to-returns-in-Ok-Known
apply_to-returns-in-Ok-Known t c = primitive_known _ _ _ _ _ c.args.state.now c.apply_primitive.new.work _ (primitive_as c.args.context.now _ _ _ _ c.args.state.now c.apply_primitive.new.work _ _ c.in-Ok-Known.field-0-is c.in-Ok-Known.ensures)

pub apply_to-returns-in-Ok-Ready : goal.apply_to-returns-in-Ok-Ready
apply_to-returns-in-Ok-Ready t c = primitive_job _ _ _ _ _ c.args.state.now c.apply_primitive.new.work _ _ _ (primitive_as c.args.context.now _ _ _ _ c.args.state.now c.apply_primitive.new.work _ _ c.in-Ok-Ready.field-0-is c.in-Ok-Ready.ensures) c.walk_job.ensures

pub apply_to-returns-in-Err : goal.apply_to-returns-in-Err
apply_to-returns-in-Err t c = primitive_err _ _ _ _ _ c.args.state.now c.apply_primitive.new.work _ _ c.in-Err.ensures

pub walk_job-end_job-requires : goal.walk_job-end_job-requires
walk_job-end_job-requires t c = record { mark = job_mark _ _ _ c.begin_job.new.work _ _ _ c.mark-mark.ensures c.in-Ok-apply_all.ensures }

pub walk_job-returns-in-Ok-apply_all : goal.walk_job-returns-in-Ok-apply_all
walk_job-returns-in-Ok-apply_all t c = job_as _ _ _ _ _ c.put_known.ensures _ _ _ (job_end _ _ _ _ _ c.begin_job.new.work _ _ _ _ c.mark-mark.ensures _ _ c.in-Ok.ensures c.in-Ok-apply_all.ensures c.end_job.ensures)
