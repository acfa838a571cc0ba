use Rattle.std.proofs.Common.{arith}
use Rattle.size_patterns.proofs.HeadForms.{empty_row_has, row_has, use_has, strict_has, apply_has, if_has, loop_has}
use Rattle.size_patterns.proofs.heads.+has_parameters.Goals as goal

pub returns-then-is_empty : goal.returns-then-is_empty
returns-then-is_empty t c = λ N types. empty_row_has N types c.args.heads.now c.args.node c.args.value.now _ c.in-Lets.row c.in-Lets.body c.in-Lets.is (grind (arith, c.if-is_empty.true, c.is_empty.ensures)) (c.has_parameters.ensures N types)

pub returns-else-is_empty : goal.returns-else-is_empty
returns-else-is_empty t c = λ N types. row_has N types c.args.heads.now c.args.node c.args.value.now _ c.in-Lets.row c.in-Lets.body c.in-Lets.is (λ e. grind (arith, c.if-is_empty.false, c.is_empty.ensures, e)) (c.none_left.ensures N types)

pub returns-in-Use : goal.returns-in-Use
returns-in-Use t c = λ N types. use_has N types c.args.heads.now c.args.node c.args.value.now _ _ _ c.in-Use.is (c.none_left-in-Use.ensures N types)

pub returns-in-Strict : goal.returns-in-Strict
returns-in-Strict t c = λ N types. strict_has N types c.args.heads.now c.args.node c.args.value.now _ _ _ _ c.in-Strict.is (c.none_left-in-Strict.ensures N types)

pub returns-in-Apply : goal.returns-in-Apply
returns-in-Apply t c = λ N types. apply_has N types c.args.heads.now c.args.node c.args.value.now _ _ _ c.in-Apply.is (c.none_left-in-Apply.ensures N types)

pub returns-in-If : goal.returns-in-If
returns-in-If t c = λ N types. if_has N types c.args.heads.now c.args.node c.args.value.now _ _ _ _ c.in-If.is (c.none_left-in-If.ensures N types)

pub returns-in-Loop : goal.returns-in-Loop
returns-in-Loop t c = λ N types. loop_has N types c.args.heads.now c.args.node c.args.value.now _ _ c.in-Loop.is (c.none_left-in-Loop.ensures N types)
