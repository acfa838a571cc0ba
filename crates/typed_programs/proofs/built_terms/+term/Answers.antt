use Rattle.typed_programs.proofs.FormLaws.{was_strict, was_lambda, was_apply, was_lets, was_if, was_loop, loop_was, was_counted, was_over, was_while, none_more, built_use, built_strict, built_lambda, built_apply, built_lets, built_if, built_loop, loop_built, built_counted, built_over, built_while}
use Rattle.typed_programs.proofs.built_terms.+term.Goals as goal

pub exp_is_built-returns-in-Use-clause-built : goal.exp_is_built-returns-in-Use-clause-built
exp_is_built-returns-in-Use-clause-built t c r = built_use c.args.exp.now c.in-Use.field-0 c.in-Use.field-1 c.in-Use.is

pub exp_is_built-returns-then-act_is_built : goal.exp_is_built-returns-then-act_is_built
exp_is_built-returns-then-act_is_built t c = record {
  built = λ r. built_strict c.args.exp.now c.in-Strict.act c.in-Strict.mark c.in-Strict.parts c.in-Strict.is (c.act_is_built.ensures.built c.if-act_is_built.true) (c.parts_are_built.ensures.built r);
  unbuilt = λ r h. c.parts_are_built.ensures.unbuilt r (was_strict c.args.exp.now c.in-Strict.act c.in-Strict.mark c.in-Strict.parts c.in-Strict.is h).1;
}

pub exp_is_built-returns-then-params-gt0 : goal.exp_is_built-returns-then-params-gt0
exp_is_built-returns-then-params-gt0 t c = record {
  built = λ r. built_lambda c.args.exp.now c.in-Lambda.params c.in-Lambda.body c.in-Lambda.is c.if-params-gt0.true (c.exp_is_built.ensures.built r);
  unbuilt = λ r h. c.exp_is_built.ensures.unbuilt r (was_lambda c.args.exp.now c.in-Lambda.params c.in-Lambda.body c.in-Lambda.is h).1;
}

pub exp_is_built-returns-then-exp_is_built : goal.exp_is_built-returns-then-exp_is_built
exp_is_built-returns-then-exp_is_built t c = record {
  built = λ r. built_apply c.args.exp.now c.in-Apply.function c.in-Apply.argument c.in-Apply.is (c.exp_is_built-in-Apply.ensures.built c.if-exp_is_built.true) (c.exp_is_built-then-exp_is_built.ensures.built r);
  unbuilt = λ r h. c.exp_is_built-then-exp_is_built.ensures.unbuilt r (was_apply c.args.exp.now c.in-Apply.function c.in-Apply.argument c.in-Apply.is h).1;
}

pub exp_is_built-returns-then-lets_are_built : goal.exp_is_built-returns-then-lets_are_built
exp_is_built-returns-then-lets_are_built t c = record {
  built = λ r. built_lets c.args.exp.now c.in-Lets.lets c.in-Lets.body c.in-Lets.is (c.lets_are_built.ensures.built c.if-lets_are_built.true) (c.exp_is_built-then-lets_are_built.ensures.built r);
  unbuilt = λ r h. c.exp_is_built-then-lets_are_built.ensures.unbuilt r (was_lets c.args.exp.now c.in-Lets.lets c.in-Lets.body c.in-Lets.is h).1;
}

pub exp_is_built-returns-in-Loop : goal.exp_is_built-returns-in-Loop
exp_is_built-returns-in-Loop t c = record {
  built = λ r. built_loop c.args.exp.now c.in-Loop.turning c.in-Loop.is (c.loop_is_built.ensures.built r);
  unbuilt = λ r h. c.loop_is_built.ensures.unbuilt r (was_loop c.args.exp.now c.in-Loop.turning c.in-Loop.is h);
}

pub turns_are_built-returns-in-For : goal.turns_are_built-returns-in-For
turns_are_built-returns-in-For t c = record {
  built = λ r. built_counted c.args.turning.now.form c.in-For.field-0 c.in-For.bound c.in-For.is (c.exp_is_built.ensures.built r);
  unbuilt = λ r h. c.exp_is_built.ensures.unbuilt r (was_counted c.args.turning.now.form c.in-For.field-0 c.in-For.bound c.in-For.is h);
}

pub turns_are_built-returns-in-While : goal.turns_are_built-returns-in-While
turns_are_built-returns-in-While t c = record {
  built = λ r. built_while c.args.turning.now.form c.in-While.test c.in-While.is (c.exp_is_built-in-While.ensures.built r);
  unbuilt = λ r h. c.exp_is_built-in-While.ensures.unbuilt r (was_while c.args.turning.now.form c.in-While.test c.in-While.is h);
}

pub exp_is_built-returns-then-exp_is_built-3 : goal.exp_is_built-returns-then-exp_is_built-3
exp_is_built-returns-then-exp_is_built-3 t c = record {
  built = λ r. built_if c.args.exp.now c.in-If.test c.in-If.yes c.in-If.no c.in-If.is (c.exp_is_built-in-If.ensures.built c.if-exp_is_built-2.true) (c.exp_is_built-then-exp_is_built-2.ensures.built c.if-exp_is_built-3.true) (c.exp_is_built-then-exp_is_built-3.ensures.built r);
  unbuilt = λ r h. c.exp_is_built-then-exp_is_built-3.ensures.unbuilt r (was_if c.args.exp.now c.in-If.test c.in-If.yes c.in-If.no c.in-If.is h).2;
}

pub loop_is_built-returns-then-turns_are_built : goal.loop_is_built-returns-then-turns_are_built
loop_is_built-returns-then-turns_are_built t c = record {
  built = λ r. loop_built c.args.turning.now (c.exp_is_built.ensures.built c.if-not-exp_is_built.false) (c.turns_are_built.ensures.built c.if-turns_are_built.true) (c.exp_is_built-then-turns_are_built.ensures.built r);
  unbuilt = λ r h. c.exp_is_built-then-turns_are_built.ensures.unbuilt r (loop_was c.args.turning.now h).2;
}

pub exp_is_built-returns-else-act_is_built-clause-unbuilt : goal.exp_is_built-returns-else-act_is_built-clause-unbuilt
exp_is_built-returns-else-act_is_built-clause-unbuilt t c r h = c.act_is_built.ensures.unbuilt c.if-act_is_built.false (was_strict c.args.exp.now c.in-Strict.act c.in-Strict.mark c.in-Strict.parts c.in-Strict.is h).0

pub exp_is_built-returns-else-params-gt0-clause-unbuilt : goal.exp_is_built-returns-else-params-gt0-clause-unbuilt
exp_is_built-returns-else-params-gt0-clause-unbuilt t c r h = none_more c.if-params-gt0.false (was_lambda c.args.exp.now c.in-Lambda.params c.in-Lambda.body c.in-Lambda.is h).0

pub exp_is_built-returns-else-exp_is_built-clause-unbuilt : goal.exp_is_built-returns-else-exp_is_built-clause-unbuilt
exp_is_built-returns-else-exp_is_built-clause-unbuilt t c r h = c.exp_is_built-in-Apply.ensures.unbuilt c.if-exp_is_built.false (was_apply c.args.exp.now c.in-Apply.function c.in-Apply.argument c.in-Apply.is h).0

pub exp_is_built-returns-else-lets_are_built-clause-unbuilt : goal.exp_is_built-returns-else-lets_are_built-clause-unbuilt
exp_is_built-returns-else-lets_are_built-clause-unbuilt t c r h = c.lets_are_built.ensures.unbuilt c.if-lets_are_built.false (was_lets c.args.exp.now c.in-Lets.lets c.in-Lets.body c.in-Lets.is h).0

pub exp_is_built-returns-else-exp_is_built-3-clause-unbuilt : goal.exp_is_built-returns-else-exp_is_built-3-clause-unbuilt
exp_is_built-returns-else-exp_is_built-3-clause-unbuilt t c r h = c.exp_is_built-then-exp_is_built-2.ensures.unbuilt c.if-exp_is_built-3.false (was_if c.args.exp.now c.in-If.test c.in-If.yes c.in-If.no c.in-If.is h).1

pub exp_is_built-returns-else-exp_is_built-2-clause-unbuilt : goal.exp_is_built-returns-else-exp_is_built-2-clause-unbuilt
exp_is_built-returns-else-exp_is_built-2-clause-unbuilt t c r h = c.exp_is_built-in-If.ensures.unbuilt c.if-exp_is_built-2.false (was_if c.args.exp.now c.in-If.test c.in-If.yes c.in-If.no c.in-If.is h).0

pub loop_is_built-returns-then-not-exp_is_built-clause-unbuilt : goal.loop_is_built-returns-then-not-exp_is_built-clause-unbuilt
loop_is_built-returns-then-not-exp_is_built-clause-unbuilt t c r h = c.exp_is_built.ensures.unbuilt c.if-not-exp_is_built.true (loop_was c.args.turning.now h).0

pub loop_is_built-returns-else-turns_are_built-clause-unbuilt : goal.loop_is_built-returns-else-turns_are_built-clause-unbuilt
loop_is_built-returns-else-turns_are_built-clause-unbuilt t c r h = c.turns_are_built.ensures.unbuilt c.if-turns_are_built.false (loop_was c.args.turning.now h).1

pub turns_are_built-returns-in-ForIn : goal.turns_are_built-returns-in-ForIn
turns_are_built-returns-in-ForIn t c = record {
  built = λ r. built_over c.args.turning.now.form c.in-ForIn.field-0 c.in-ForIn.array c.in-ForIn.is (c.exp_is_built-in-ForIn.ensures.built r);
  unbuilt = λ r h. c.exp_is_built-in-ForIn.ensures.unbuilt r (was_over c.args.turning.now.form c.in-ForIn.field-0 c.in-ForIn.array c.in-ForIn.is h);
}
