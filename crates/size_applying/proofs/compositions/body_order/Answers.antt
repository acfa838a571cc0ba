use Rattle.std.proofs.Common.{refl}
use Rattle.size_applying.proofs.ComposedForms.{body_told, no_body, use_number, strict_number, lambda_number, lets_number, if_number, loop_number}
use Rattle.size_applying.proofs.compositions.body_order.Goals as goal

pub returns-in-Apply : goal.returns-in-Apply
returns-in-Apply c = body_told c.args.parts.left c.args.parts.right c.args.parts.parameter c.args.body.now c.bare.result.now c.bare.ensures.same c.in-Apply.outer c.in-Apply.inner c.outer_order.result c.in-Apply.is c.outer_order.ensures

pub returns-in-Use : goal.returns-in-Use
returns-in-Use c = no_body c.args.parts.left c.args.parts.right c.args.parts.parameter c.args.body.now c.bare.result.now c.bare.ensures.same 0 (use_number c.bare.result.now c.in-Use.field-0 c.in-Use.field-1 c.in-Use.is) refl

pub returns-in-Strict : goal.returns-in-Strict
returns-in-Strict c = no_body c.args.parts.left c.args.parts.right c.args.parts.parameter c.args.body.now c.bare.result.now c.bare.ensures.same 1 (strict_number c.bare.result.now c.in-Strict.act c.in-Strict.mark c.in-Strict.parts c.in-Strict.is) refl

pub returns-in-Lambda : goal.returns-in-Lambda
returns-in-Lambda c = no_body c.args.parts.left c.args.parts.right c.args.parts.parameter c.args.body.now c.bare.result.now c.bare.ensures.same 2 (lambda_number c.bare.result.now c.in-Lambda.field-0 c.in-Lambda.field-1 c.in-Lambda.is) refl

pub returns-in-Lets : goal.returns-in-Lets
returns-in-Lets c = no_body c.args.parts.left c.args.parts.right c.args.parts.parameter c.args.body.now c.bare.result.now c.bare.ensures.same 4 (lets_number c.bare.result.now c.in-Lets.field-0 c.in-Lets.field-1 c.in-Lets.is c.bare.ensures.bare) refl

pub returns-in-If : goal.returns-in-If
returns-in-If c = no_body c.args.parts.left c.args.parts.right c.args.parts.parameter c.args.body.now c.bare.result.now c.bare.ensures.same 5 (if_number c.bare.result.now c.in-If.field-0 c.in-If.field-1 c.in-If.field-2 c.in-If.is) refl

pub returns-in-Loop : goal.returns-in-Loop
returns-in-Loop c = no_body c.args.parts.left c.args.parts.right c.args.parts.parameter c.args.body.now c.bare.result.now c.bare.ensures.same 6 (loop_number c.bare.result.now c.in-Loop.field-0 c.in-Loop.is) refl
