use Rattle.std.proofs.Common.{refl}
use Rattle.size_applying.proofs.ComposedForms.{bare_long, lets_compose, no_lets, use_number, strict_number, lambda_number, apply_number, if_number, loop_number}
use Rattle.size_applying.proofs.compositions.composition_under.Goals as goal

pub composition_in-requires : goal.composition_in-requires
composition_in-requires c = bare_long c.bare.result.now c.in-Lets.row c.in-Lets.body c.in-Lets.is c.bare.ensures.bare

pub returns-in-Lets : goal.returns-in-Lets
returns-in-Lets c = lets_compose c.args.left c.args.exp.now c.bare.result.now c.bare.ensures.same c.in-Lets.row c.in-Lets.body c.composition_in.result c.in-Lets.is c.composition_in.ensures

pub returns-in-Use : goal.returns-in-Use
returns-in-Use c = no_lets c.args.left c.args.exp.now c.bare.result.now c.bare.ensures.same 0 (use_number c.bare.result.now c.in-Use.field-0 c.in-Use.field-1 c.in-Use.is) refl

pub returns-in-Strict : goal.returns-in-Strict
returns-in-Strict c = no_lets c.args.left c.args.exp.now c.bare.result.now c.bare.ensures.same 1 (strict_number c.bare.result.now c.in-Strict.act c.in-Strict.mark c.in-Strict.parts c.in-Strict.is) refl

pub returns-in-Lambda : goal.returns-in-Lambda
returns-in-Lambda c = no_lets c.args.left c.args.exp.now c.bare.result.now c.bare.ensures.same 2 (lambda_number c.bare.result.now c.in-Lambda.field-0 c.in-Lambda.field-1 c.in-Lambda.is) refl

pub returns-in-Apply : goal.returns-in-Apply
returns-in-Apply c = no_lets c.args.left c.args.exp.now c.bare.result.now c.bare.ensures.same 3 (apply_number c.bare.result.now c.in-Apply.field-0 c.in-Apply.field-1 c.in-Apply.is) refl

pub returns-in-If : goal.returns-in-If
returns-in-If c = no_lets c.args.left c.args.exp.now c.bare.result.now c.bare.ensures.same 5 (if_number c.bare.result.now c.in-If.field-0 c.in-If.field-1 c.in-If.field-2 c.in-If.is) refl

pub returns-in-Loop : goal.returns-in-Loop
returns-in-Loop c = no_lets c.args.left c.args.exp.now c.bare.result.now c.bare.ensures.same 6 (loop_number c.bare.result.now c.in-Loop.field-0 c.in-Loop.is) refl
