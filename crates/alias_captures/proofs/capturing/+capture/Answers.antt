use Rattle.std.proofs.Common.{◌-◌, refl, arith}
use Rattle.std.specs.Borrow.{Bor}
use Rattle.fut_aliases.specs.Aliases.{Set}
use Rattle.alias_captures.specs.Captures.{capture_of}
use Rattle.alias_scopes.specs.Scopes.{scope_of}
use Rattle.alias_captures.proofs.CaptureForms.{also, all_more, all_start, form_apply, form_if, form_lambda, form_lets, form_loop, form_no_let, form_one, form_parts, form_use, lets_more, turns_for, turns_in, turns_test, whole_loop}
use Rattle.alias_captures.proofs.capturing.+capture.Goals as goal

pub all_names-parts-init : goal.all_names-parts-init
all_names-parts-init t c = record { all = λ N k. all_start N (scope_of c.args.scope.now) c.args.parts.now _ c.no_alias-all.ensures; within = omega arith }

pub all_names-parts-preserved : goal.all_names-parts-preserved
all_names-parts-preserved t c = record {
  all = λ N k. all_more N (scope_of c.args.scope.now) c.args.parts.now c.parts.i (c.parts.i - 1) _ _ _ (omega (arith, c.parts-test.true)) c.parts.invariant.within (c.parts.invariant.all N k) (c.in_ok-all.ensures N k);
  within = omega (arith, c.parts.invariant.within);
}

pub add_lets-row-preserved : goal.add_lets-row-preserved
add_lets-row-preserved t c = record {
  all = λ N k. lets_more N (scope_of c.args.scope.now) c.args.row.now c.args.behind.now c.row.i (c.row.i - 1) _ _ _ (omega (arith, c.row-test.true)) c.row.invariant.within (c.row.invariant.all N k) (c.in_ok-all.ensures N k);
  within = omega (arith, c.row.invariant.within);
}

pub add_turns-returns-in-For : goal.add_turns-returns-in-For
add_turns-returns-in-For t c = λ N k. also _ (λ (s : Bor Set) h. turns_for N (scope_of c.args.scope.now) c.args.form.now s.now c.args.behind.now _ _ c.in-For.is h) (c.add_names.ensures N k)

pub add_turns-returns-in-ForIn : goal.add_turns-returns-in-ForIn
add_turns-returns-in-ForIn t c = λ N k. also _ (λ (s : Bor Set) h. turns_in N (scope_of c.args.scope.now) c.args.form.now s.now c.args.behind.now _ _ c.in-ForIn.is h) (c.add_names-in-ForIn.ensures N k)

pub add_turns-returns-in-While : goal.add_turns-returns-in-While
add_turns-returns-in-While t c = λ N k. also _ (λ (s : Bor Set) h. turns_test N (scope_of c.args.scope.now) c.args.form.now s.now c.args.behind.now _ c.in-While.is h) (c.add_names-in-While.ensures N k)

pub loop_names-returns : goal.loop_names-returns
loop_names-returns t c = λ N k. also _ (λ (s : Bor Set) h. whole_loop N (scope_of c.args.scope.now) c.args.whole.now s.now _ _ (c.in_ok-last.ensures N k) (c.in_ok-behind.ensures N k) h) (c.add_names.ensures N k)

pub capture-returns-in-Use : goal.capture-returns-in-Use
capture-returns-in-Use t c = λ N k. form_use N (scope_of c.args.scope.now) c.args.exp.now _ _ _ c.in-Use.is (c.name_captured.ensures N _ _)

pub capture-returns-then-parts-eq1 : goal.capture-returns-then-parts-eq1
capture-returns-then-parts-eq1 t c = λ N k. also _ (λ d h. form_one N (scope_of c.args.scope.now) c.args.exp.now (capture_of d) _ _ _ _ c.in-Strict.is c.if-parts-eq1.true _ (c.in_ok-found-in-Strict.ensures N k) h) (c.one_field.ensures N k)

pub capture-returns-in_ok-set-in-Strict : goal.capture-returns-in_ok-set-in-Strict
capture-returns-in_ok-set-in-Strict t c = λ N k. form_parts N (scope_of c.args.scope.now) c.args.exp.now _ _ refl _ _ _ c.in-Strict.is c.if-parts-eq1.false (c.in_ok-set-in-Strict.ensures N k)

pub capture-returns-in_ok-set-in-Lambda : goal.capture-returns-in_ok-set-in-Lambda
capture-returns-in_ok-set-in-Lambda t c = λ N k. form_lambda N (scope_of c.args.scope.now) c.args.exp.now _ _ refl _ _ c.in-Lambda.is (c.in_ok-set-in-Lambda.ensures N k)

pub capture-returns-in_ok-set-in-Apply : goal.capture-returns-in_ok-set-in-Apply
capture-returns-in_ok-set-in-Apply t c = λ N k. form_apply N (scope_of c.args.scope.now) c.args.exp.now _ _ refl _ _ c.in-Apply.is _ (c.in_ok-behind-in-Apply.ensures N k) (c.in_ok-set-in-Apply.ensures N k)

pub capture-returns-in_ok-set-in-If : goal.capture-returns-in_ok-set-in-If
capture-returns-in_ok-set-in-If t c = λ N k. form_if N (scope_of c.args.scope.now) c.args.exp.now _ _ refl _ _ _ c.in-If.is _ _ (c.in_ok-last-in-If.ensures N k) (c.in_ok-behind-in-If.ensures N k) (c.in_ok-set-in-If.ensures N k)

pub capture-returns-in_ok-set-in-Loop : goal.capture-returns-in_ok-set-in-Loop
capture-returns-in_ok-set-in-Loop t c = λ N k. form_loop N (scope_of c.args.scope.now) c.args.exp.now _ _ refl _ c.in-Loop.is (c.in_ok-set-in-Loop.ensures N k)

pub capture-returns-then-row-eq0 : goal.capture-returns-then-row-eq0
capture-returns-then-row-eq0 t c = λ N k. also _ (λ d h. form_no_let N (scope_of c.args.scope.now) c.args.exp.now (capture_of d) _ _ c.in-Lets.is c.if-row-eq0.true h) (c.capture-then-row-eq0.ensures N k)

pub capture-returns-in_ok-set-in-Lets : goal.capture-returns-in_ok-set-in-Lets
capture-returns-in_ok-set-in-Lets t c = λ N k. form_lets N (scope_of c.args.scope.now) c.args.exp.now _ _ refl _ _ c.in-Lets.is c.if-row-eq0.false _ (c.in_ok-behind-in-Lets.ensures N k) (c.in_ok-set-in-Lets.ensures N k)
