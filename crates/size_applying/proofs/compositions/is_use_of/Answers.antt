use Rattle.std.proofs.Common.{refl, ◌∙◌}
use Rattle.size_applying.proofs.ComposedForms.{no_use, use_there, use_away, strict_number, lambda_number, apply_number, lets_number, if_number, loop_number}
use Rattle.size_applying.proofs.compositions.is_use_of.Goals as goal

pub returns-then-named : goal.returns-then-named
returns-then-named c = c.is_place-there.ensures ∙ use_there c.args.exp.now c.bare-exp.result.now c.args.name c.args.place c.bare-exp.ensures.same c.in-Use.used c.in-Use.field-1 c.is_name-named.result c.in-Use.is c.if-named.true c.is_name-named.ensures

pub returns-in-Strict : goal.returns-in-Strict
returns-in-Strict c = no_use c.args.exp.now c.bare-exp.result.now c.args.name c.args.place c.bare-exp.ensures.same 1 (strict_number c.bare-exp.result.now c.in-Strict.act c.in-Strict.mark c.in-Strict.parts c.in-Strict.is) refl

pub returns-in-Lambda : goal.returns-in-Lambda
returns-in-Lambda c = no_use c.args.exp.now c.bare-exp.result.now c.args.name c.args.place c.bare-exp.ensures.same 2 (lambda_number c.bare-exp.result.now c.in-Lambda.field-0 c.in-Lambda.field-1 c.in-Lambda.is) refl

pub returns-in-Apply : goal.returns-in-Apply
returns-in-Apply c = no_use c.args.exp.now c.bare-exp.result.now c.args.name c.args.place c.bare-exp.ensures.same 3 (apply_number c.bare-exp.result.now c.in-Apply.field-0 c.in-Apply.field-1 c.in-Apply.is) refl

pub returns-in-Lets : goal.returns-in-Lets
returns-in-Lets c = no_use c.args.exp.now c.bare-exp.result.now c.args.name c.args.place c.bare-exp.ensures.same 4 (lets_number c.bare-exp.result.now c.in-Lets.field-0 c.in-Lets.field-1 c.in-Lets.is c.bare-exp.ensures.bare) refl

pub returns-in-If : goal.returns-in-If
returns-in-If c = no_use c.args.exp.now c.bare-exp.result.now c.args.name c.args.place c.bare-exp.ensures.same 5 (if_number c.bare-exp.result.now c.in-If.field-0 c.in-If.field-1 c.in-If.field-2 c.in-If.is) refl

pub returns-in-Loop : goal.returns-in-Loop
returns-in-Loop c = no_use c.args.exp.now c.bare-exp.result.now c.args.name c.args.place c.bare-exp.ensures.same 6 (loop_number c.bare-exp.result.now c.in-Loop.field-0 c.in-Loop.is) refl

pub returns-else-named : goal.returns-else-named
returns-else-named c = c.if-named.false ∙ use_away c.args.exp.now c.bare-exp.result.now c.args.name c.args.place c.bare-exp.ensures.same c.in-Use.used c.in-Use.field-1 c.is_name-named.result c.in-Use.is c.if-named.false c.is_name-named.ensures
