use Rattle.std.proofs.Common.{refl}
use Rattle.size_applying.proofs.ComposedForms.{lambda_told, no_lambda, use_number, strict_number, apply_number, lets_number, if_number, loop_number}
use Rattle.size_applying.proofs.compositions.lambda_order.Goals as goal

pub returns-in-Lambda : goal.returns-in-Lambda
returns-in-Lambda c = lambda_told c.args.left c.args.right c.args.exp.now c.bare.result.now c.bare.ensures.same c.in-Lambda.pats c.in-Lambda.body c.parameter_order.result c.in-Lambda.is c.parameter_order.ensures

pub returns-in-Use : goal.returns-in-Use
returns-in-Use c = no_lambda c.args.left c.args.right c.args.exp.now c.bare.result.now c.bare.ensures.same 0 (use_number c.bare.result.now c.in-Use.field-0 c.in-Use.field-1 c.in-Use.is) refl

pub returns-in-Strict : goal.returns-in-Strict
returns-in-Strict c = no_lambda c.args.left c.args.right c.args.exp.now c.bare.result.now c.bare.ensures.same 1 (strict_number c.bare.result.now c.in-Strict.act c.in-Strict.mark c.in-Strict.parts c.in-Strict.is) refl

pub returns-in-Apply : goal.returns-in-Apply
returns-in-Apply c = no_lambda c.args.left c.args.right c.args.exp.now c.bare.result.now c.bare.ensures.same 3 (apply_number c.bare.result.now c.in-Apply.field-0 c.in-Apply.field-1 c.in-Apply.is) refl

pub returns-in-Lets : goal.returns-in-Lets
returns-in-Lets c = no_lambda c.args.left c.args.right c.args.exp.now c.bare.result.now c.bare.ensures.same 4 (lets_number c.bare.result.now c.in-Lets.field-0 c.in-Lets.field-1 c.in-Lets.is c.bare.ensures.bare) refl

pub returns-in-If : goal.returns-in-If
returns-in-If c = no_lambda c.args.left c.args.right c.args.exp.now c.bare.result.now c.bare.ensures.same 5 (if_number c.bare.result.now c.in-If.field-0 c.in-If.field-1 c.in-If.field-2 c.in-If.is) refl

pub returns-in-Loop : goal.returns-in-Loop
returns-in-Loop c = no_lambda c.args.left c.args.right c.args.exp.now c.bare.result.now c.bare.ensures.same 6 (loop_number c.bare.result.now c.in-Loop.field-0 c.in-Loop.is) refl
