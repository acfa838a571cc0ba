use Rattle.std.proofs.Common.{refl}
use Rattle.fut_flat.specs.Erased.{term_of}
use Rattle.size_applying.proofs.ComposedForms.{outer_told, no_outer, strict_number, lambda_number, apply_number, lets_number, if_number, loop_number}
use Rattle.size_applying.proofs.compositions.outer_order.Goals as goal

pub returns-in-Use : goal.returns-in-Use
returns-in-Use c = outer_told c.args.parts.left c.args.parts.right c.args.parts.parameter c.args.outer.now c.bare-outer.result.now c.bare-outer.ensures.same (term_of c.args.inner.now) c.in-Use.head c.in-Use.field-1 c.inner_order.result c.in-Use.is c.inner_order.ensures

pub returns-in-Strict : goal.returns-in-Strict
returns-in-Strict c = no_outer c.args.parts.left c.args.parts.right c.args.parts.parameter c.args.outer.now c.bare-outer.result.now c.bare-outer.ensures.same (term_of c.args.inner.now) 1 (strict_number c.bare-outer.result.now c.in-Strict.act c.in-Strict.mark c.in-Strict.parts c.in-Strict.is) refl

pub returns-in-Lambda : goal.returns-in-Lambda
returns-in-Lambda c = no_outer c.args.parts.left c.args.parts.right c.args.parts.parameter c.args.outer.now c.bare-outer.result.now c.bare-outer.ensures.same (term_of c.args.inner.now) 2 (lambda_number c.bare-outer.result.now c.in-Lambda.field-0 c.in-Lambda.field-1 c.in-Lambda.is) refl

pub returns-in-Apply : goal.returns-in-Apply
returns-in-Apply c = no_outer c.args.parts.left c.args.parts.right c.args.parts.parameter c.args.outer.now c.bare-outer.result.now c.bare-outer.ensures.same (term_of c.args.inner.now) 3 (apply_number c.bare-outer.result.now c.in-Apply.field-0 c.in-Apply.field-1 c.in-Apply.is) refl

pub returns-in-Lets : goal.returns-in-Lets
returns-in-Lets c = no_outer c.args.parts.left c.args.parts.right c.args.parts.parameter c.args.outer.now c.bare-outer.result.now c.bare-outer.ensures.same (term_of c.args.inner.now) 4 (lets_number c.bare-outer.result.now c.in-Lets.field-0 c.in-Lets.field-1 c.in-Lets.is c.bare-outer.ensures.bare) refl

pub returns-in-If : goal.returns-in-If
returns-in-If c = no_outer c.args.parts.left c.args.parts.right c.args.parts.parameter c.args.outer.now c.bare-outer.result.now c.bare-outer.ensures.same (term_of c.args.inner.now) 5 (if_number c.bare-outer.result.now c.in-If.field-0 c.in-If.field-1 c.in-If.field-2 c.in-If.is) refl

pub returns-in-Loop : goal.returns-in-Loop
returns-in-Loop c = no_outer c.args.parts.left c.args.parts.right c.args.parts.parameter c.args.outer.now c.bare-outer.result.now c.bare-outer.ensures.same (term_of c.args.inner.now) 6 (loop_number c.bare-outer.result.now c.in-Loop.field-0 c.in-Loop.is) refl
