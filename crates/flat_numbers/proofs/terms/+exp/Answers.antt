use Rattle.std.proofs.Common.{arith}
use Rattle.flat_numbers.proofs.TermNumbers.{form_use, form_strict, form_lambda, form_apply, form_lets, form_if, form_loop, whole_loop, turns_for, turns_in, turns_test, exp_passed, exps_passed, whole_let, let_passed, lets_passed}
use Rattle.flat_numbers.proofs.terms.+exp.Goals as goal

pub after_parts-loop-exp-preserved : goal.after_parts-loop-exp-preserved
after_parts-loop-exp-preserved t c = exp_passed _ _ _ _ _ _ c.loop-exp-test.true c.loop-exp.invariant c.in_ok-next.ensures

pub after_parts-returns : goal.after_parts-returns
after_parts-returns t c = exps_passed _ _ _ _ (omega (arith, c.loop-exp-test.false)) c.loop-exp.invariant

pub after_lets-loop-one-preserved : goal.after_lets-loop-one-preserved
after_lets-loop-one-preserved t c = let_passed _ _ _ _ _ _ c.loop-one-test.true c.loop-one.invariant c.in_ok-next.ensures

pub after_lets-returns : goal.after_lets-returns
after_lets-returns t c = lets_passed _ _ _ _ (omega (arith, c.loop-one-test.false)) c.loop-one.invariant

pub after_exp-returns-in_ok-twice-in-Use : goal.after_exp-returns-in_ok-twice-in-Use
after_exp-returns-in_ok-twice-in-Use t c = form_use _ _ _ _ _ c.in-Use.is _ _ c.in_ok-once-in-Use.ensures c.in_ok-twice-in-Use.ensures c.after-in-Use-2.ensures

pub after_exp-returns-in_ok-first-in-Strict : goal.after_exp-returns-in_ok-first-in-Strict
after_exp-returns-in_ok-first-in-Strict t c = form_strict _ _ _ _ _ _ c.in-Strict.is _ _ c.own_numbers_of.ensures c.in_ok-first-in-Strict.ensures c.after_parts.ensures

pub after_exp-returns-in_ok-inside-in-Lambda : goal.after_exp-returns-in_ok-inside-in-Lambda
after_exp-returns-in_ok-inside-in-Lambda t c = form_lambda _ _ _ _ _ c.in-Lambda.is _ _ c.in_ok-first-in-Lambda.ensures c.in_ok-inside-in-Lambda.ensures c.after_exp.ensures

pub after_exp-returns-in_ok-second-in-Apply : goal.after_exp-returns-in_ok-second-in-Apply
after_exp-returns-in_ok-second-in-Apply t c = form_apply _ _ _ _ _ c.in-Apply.is _ _ c.in_ok-first-in-Apply.ensures c.in_ok-second-in-Apply.ensures c.after_exp-in-Apply-2.ensures

pub after_exp-returns-in_ok-last-in-Lets : goal.after_exp-returns-in_ok-last-in-Lets
after_exp-returns-in_ok-last-in-Lets t c = form_lets _ _ _ _ _ c.in-Lets.is _ c.in_ok-last-in-Lets.ensures c.after_exp-in-Lets.ensures

pub after_exp-returns-in_ok-third-in-If : goal.after_exp-returns-in_ok-third-in-If
after_exp-returns-in_ok-third-in-If t c = form_if _ _ _ _ _ _ c.in-If.is _ _ _ c.in_ok-first-in-If.ensures c.in_ok-second-in-If.ensures c.in_ok-third-in-If.ensures c.after_exp-in-If-3.ensures

pub after_exp-returns-in-Loop : goal.after_exp-returns-in-Loop
after_exp-returns-in-Loop t c = form_loop _ _ _ _ c.in-Loop.is c.after_loop.ensures

pub after_let-returns : goal.after_let-returns
after_let-returns t c = whole_let _ _ _ _ _ c.in_ok-first.ensures c.in_ok-value.ensures c.after_exp.ensures

pub after_loop-returns : goal.after_loop-returns
after_loop-returns t c = whole_loop _ _ _ _ _ _ _ c.in_ok-name.ensures c.in_ok-first.ensures c.in_ok-turns.ensures c.in_ok-body.ensures c.after_exp-2.ensures

pub after_turns-returns-in_ok-first-in-For : goal.after_turns-returns-in_ok-first-in-For
after_turns-returns-in_ok-first-in-For t c = turns_for _ _ _ _ _ c.in-For.is _ c.in_ok-first-in-For.ensures c.after_exp.ensures

pub after_turns-returns-in_ok-first-in-ForIn : goal.after_turns-returns-in_ok-first-in-ForIn
after_turns-returns-in_ok-first-in-ForIn t c = turns_in _ _ _ _ _ c.in-ForIn.is _ c.in_ok-first-in-ForIn.ensures c.after_exp-in-ForIn.ensures

pub after_turns-returns-in-While : goal.after_turns-returns-in-While
after_turns-returns-in-While t c = turns_test _ _ _ _ c.in-While.is c.after_exp-in-While.ensures
