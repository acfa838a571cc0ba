use Rattle.told_rows.proofs.TakenForms.{outer_it, outer_not, outer_none}
use Rattle.told_rows.proofs.taken.said_size.Goals as goal

pub returns-then-branch : goal.returns-then-branch
returns-then-branch c = λ Z w. outer_it _ c.in_ok-own.field-0 _ (c.in_ok-own.ensures Z w) c.in-Some.own c.in_ok-is_outer-in-Some.field-0 c.in-Some.is (c.in_ok-is_outer-in-Some.ensures Z w) c.if-branch.true

pub returns-else-branch : goal.returns-else-branch
returns-else-branch c = λ Z w. outer_not _ c.in_ok-own.field-0 _ (c.in_ok-own.ensures Z w) c.in-Some.own c.in_ok-is_outer-in-Some.field-0 c.in-Some.is (c.in_ok-is_outer-in-Some.ensures Z w) c.if-branch.false

pub returns-in-None : goal.returns-in-None
returns-in-None c = λ Z w. outer_none _ c.in_ok-own.field-0 _ (c.in_ok-own.ensures Z w) c.in-None.is
