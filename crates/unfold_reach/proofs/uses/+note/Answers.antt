use Rattle.std.proofs.Common.{arith}
use Rattle.unfold_reach.proofs.Reaching.{note_use, note_strict, note_lambda, note_apply, note_lets, note_if, note_loop, turns_counted_noted, turns_over_noted, turns_while_noted, all_more, all_done, lets_more, lets_done}
use Rattle.unfold_reach.proofs.uses.+note.Goals as goal

pub note_all-loop-exp-preserved : goal.note_all-loop-exp-preserved
note_all-loop-exp-preserved t c = all_more _ _ _ _ _ _ c.loop-exp-test.true c.loop-exp.invariant c.note.ensures

pub note_all-returns : goal.note_all-returns
note_all-returns t c = all_done _ _ _ _ (omega (arith, c.loop-exp-test.false)) c.loop-exp.invariant

pub note_lets-loop-one-preserved : goal.note_lets-loop-one-preserved
note_lets-loop-one-preserved t c = lets_more _ _ _ _ _ _ c.loop-one-test.true c.loop-one.invariant c.note.ensures

pub note_lets-returns : goal.note_lets-returns
note_lets-returns t c = lets_done _ _ _ _ (omega (arith, c.loop-one-test.false)) c.loop-one.invariant

pub note-returns-in-Use : goal.note-returns-in-Use
note-returns-in-Use t c = note_use _ _ _ _ _ c.in-Use.is c.note_use.ensures

pub note-returns-in-Strict : goal.note-returns-in-Strict
note-returns-in-Strict t c = note_strict _ _ _ _ _ _ c.in-Strict.is c.note_all.ensures

pub note-returns-in-Lambda : goal.note-returns-in-Lambda
note-returns-in-Lambda t c = note_lambda _ _ _ _ _ c.in-Lambda.is c.note.ensures

pub note-returns-in-Apply : goal.note-returns-in-Apply
note-returns-in-Apply t c = note_apply _ _ _ _ _ _ c.in-Apply.is c.note-in-Apply.ensures c.note-in-Apply-2.ensures

pub note-returns-in-Lets : goal.note-returns-in-Lets
note-returns-in-Lets t c = note_lets _ _ _ _ _ _ c.in-Lets.is c.note_lets.ensures c.note-in-Lets.ensures

pub note-returns-in-If : goal.note-returns-in-If
note-returns-in-If t c = note_if _ _ _ _ _ _ _ _ c.in-If.is c.note-in-If.ensures c.note-in-If-2.ensures c.note-in-If-3.ensures

pub note-returns-in-Loop : goal.note-returns-in-Loop
note-returns-in-Loop t c = note_loop _ _ _ _ _ _ c.in-Loop.is c.note-in-Loop.ensures c.note_turns.ensures c.note-in-Loop-2.ensures

pub note_turns-returns-in-For : goal.note_turns-returns-in-For
note_turns-returns-in-For t c = turns_counted_noted _ _ _ _ _ c.in-For.is c.note.ensures

pub note_turns-returns-in-ForIn : goal.note_turns-returns-in-ForIn
note_turns-returns-in-ForIn t c = turns_over_noted _ _ _ _ _ c.in-ForIn.is c.note-in-ForIn.ensures

pub note_turns-returns-in-While : goal.note_turns-returns-in-While
note_turns-returns-in-While t c = turns_while_noted _ _ _ _ c.in-While.is c.note-in-While.ensures
