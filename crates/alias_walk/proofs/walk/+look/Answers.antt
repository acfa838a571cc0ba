use Rattle.std.proofs.Common.{◌+◌, [], List, ◌++◌, map, None, refl, sym, ap, ◌∙◌, subst, arith, rules}
use Rattle.std.proofs.lemmas.Result.{err_from_is_err_and}
use Rattle.fut_aliases.specs.Aliases.{first_name_alone}
use Rattle.fut_aliases.specs.Capturing.{some_name}
use Rattle.fut_flat.specs.Erased.{Row, operation_of, pattern_of, patterns, term_of, terms, type_of}
use Rattle.fut_flat.specs.Numbers.{numbers}
use Rattle.fut_flat.specs.Terms.{Declared, Project}
use Rattle.fut_flat.proofs.ErasedForms.{row_is, row_of, term_apply, term_if, term_lambda, term_lets, term_loop, term_strict, term_use, turns_counted, turns_of, turns_over, turns_while}
use Rattle.alias_applications.specs.Shown.{part_with, wanted_of}
use Rattle.alias_scopes.specs.Scopes.{scope_of}
use Rattle.alias_forms.specs.Walked.{here_at, kinds_at, types_at}
use Rattle.alias_forms.proofs.SeenForms.{told_named}
use Rattle.alias_walk.proofs.Answers.{value_stops, value_refused, value_done, plain_stops, plain_refused, plain_done, field_stops, field_refused, field_done, declared_stops, declared_refused, declared_halts, declared_done, test_stops, yes_stops, no_stops, join_stops, if_done, head_stops, ready_stops, argument_stops, apply_done, let_stops, let_refused, let_done, first_stops, rest_stops, body_stops_at, lets_done, entered_at, lambda_stops, lambda_done, strict_one, ends_one, wanted_as}
use Rattle.alias_walk.proofs.Ends.{apply_named, count_is, no_let, some_let, if_named, lets_named, lets_numbers, one_named, seen_ends, strict_named}
use Rattle.alias_forms.proofs.Binding.{reshown, restopped}
use Rattle.alias_forms.proofs.PartForms.{Walking, walk_begins, walk_ends, walk_ends_at, walk_goes, walk_stops}
use Rattle.alias_forms.proofs.RowWalks.{row_begins, row_ends, row_ends_at, row_goes, row_stops}
use Rattle.alias_forms.proofs.FunctionForms.{lambda_named}
use Rattle.uniqueness.specs.declared.held.Held.{Held}
use Rattle.alias_parts.specs.Known.{Knows}
use Rattle.alias_values.specs.Trees.{stars_of}
use Rattle.fut_aliases.specs.Looking.{wanted_parameter, wanted_part}
use Rattle.fut_flat.specs.Numbers.{pattern_numbers}
use Rattle.fut_typing.specs.Names.{Names}
use Rattle.uniqueness.specs.Held.{here_of}
use Rattle.alias_forms.specs.Loops.{going_of, flow_shown}
use Rattle.alias_forms.specs.Seen.{held_found}
use Rattle.alias_forms.proofs.BranchForms.{back_is}
use Rattle.alias_forms.proofs.Binding.{grew}
use Rattle.alias_forms.proofs.LoopWalks.{flow_done, flow_stops}
use Rattle.alias_joins.specs.SetRows.{sets_of}
use Rattle.alias_loops.specs.Carried.{carrieds_of}
use Rattle.fut_aliases.specs.Looking.{turn_here}
use Rattle.alias_forms.specs.Turns.{turn_again}
use Rattle.alias_walk.proofs.Loops.{again_done, again_stops, array_done, array_stops, asked_is, both_named, carried_is, condition_stops, count_done, count_stops, counted_ends, counted_goes, counted_passed, enter_stops, flow_stops_at, flowing_is, going_stops, leave_stops, look_asked, look_flows, look_stops, loop_done, loop_first_stops, loop_named, loop_numbers, over_ends, over_goes, over_passed, test_stops_at, tested, tested_ends, turn_body_stops, turn_done, turn_there, turned_done, turned_stops, while_done}
use Rattle.alias_walk.proofs.walk.+look.Goals as goal

pub looked-returns-in-Use-clause-step : goal.looked-returns-in-Use-clause-step
looked-returns-in-Use-clause-step t c = λ N k. rw (term_use c.args.exp.now c.in-Use.name c.in-Use.modules c.in-Use.is) (c.name_looked.ensures.step N _ _)

pub looked-returns-in-Use-clause-ends : goal.looked-returns-in-Use-clause-ends
looked-returns-in-Use-clause-ends t c = rw (term_use c.args.exp.now c.in-Use.name c.in-Use.modules c.in-Use.is) (c.name_looked.ensures.ends _)

pub looked-returns-in-Strict-clause-step : goal.looked-returns-in-Strict-clause-step
looked-returns-in-Strict-clause-step t c = λ N k. rw (term_strict c.args.exp.now c.in-Strict.act c.in-Strict.mark c.in-Strict.parts c.in-Strict.is) (c.strict_looked.ensures.step N k)

pub looked-returns-in-Strict-clause-ends : goal.looked-returns-in-Strict-clause-ends
looked-returns-in-Strict-clause-ends t c = rw (term_strict c.args.exp.now c.in-Strict.act c.in-Strict.mark c.in-Strict.parts c.in-Strict.is) c.strict_looked.ensures.ends

pub looked-returns-in-Lambda-clause-step : goal.looked-returns-in-Lambda-clause-step
looked-returns-in-Lambda-clause-step t c = λ N k. rw (term_lambda c.args.exp.now c.in-Lambda.parameters c.in-Lambda.body c.in-Lambda.is) (c.lambda_looked.ensures.step N k)

pub looked-returns-in-Lambda-clause-ends : goal.looked-returns-in-Lambda-clause-ends
looked-returns-in-Lambda-clause-ends t c = rw (term_lambda c.args.exp.now c.in-Lambda.parameters c.in-Lambda.body c.in-Lambda.is) c.lambda_looked.ensures.ends

pub looked-returns-in-Apply-clause-step : goal.looked-returns-in-Apply-clause-step
looked-returns-in-Apply-clause-step t c = λ N k. c.call_looked.ensures.step N k _

pub looked-returns-in-If-clause-step : goal.looked-returns-in-If-clause-step
looked-returns-in-If-clause-step t c = λ N k. c.branches_looked.ensures.step N k _

pub value_looked-returns-in_err-seen-clause-step : goal.value_looked-returns-in_err-seen-clause-step
value_looked-returns-in_err-seen-clause-step t c =
    let p = err_from_is_err_and c.from_residual.result c.from_residual.ensures.1 in
    rw (p.1, p.2) (λ N k. value_stops N c.args.site.now (term_of c.args.exp.now) c.args.at (wanted_of c.args.wanted) (c.in_err-seen.ensures.step N k))

pub value_looked-returns-in_err-held-clause-step : goal.value_looked-returns-in_err-held-clause-step
value_looked-returns-in_err-held-clause-step t c =
    let p = err_from_is_err_and c.from_residual-in_err-held.result c.from_residual-in_err-held.ensures.1 in
    rw (p.1, p.2) (λ N k. value_refused N c.args.site.now (term_of c.args.exp.now) c.args.at (wanted_of c.args.wanted) c.in_ok-seen.seen (c.in_ok-seen.ensures.step N k) (c.in_err-held.ensures (scope_of c.args.site.now.scope.now) _ (told_named c.in_ok-seen.ensures.ends.named c.or_function.ensures)))

pub value_looked-returns-clause-step : goal.value_looked-returns-clause-step
value_looked-returns-clause-step t c = λ N k. value_done N c.args.site.now (term_of c.args.exp.now) c.args.at (wanted_of c.args.wanted) c.in_ok-seen.seen (c.in_ok-seen.ensures.step N k) (c.in_ok-held.ensures (scope_of c.args.site.now.scope.now) _ (told_named c.in_ok-seen.ensures.ends.named c.or_function.ensures))

pub strict_looked-returns-in-Project-clause-step : goal.strict_looked-returns-in-Project-clause-step
strict_looked-returns-in-Project-clause-step t c = λ N k. rw (ap operation_of c.in-Project.is) (strict_one N c.args.site.now c.args.exps.now _ (Project c.in-Project.field.now) c.args.mark c.args.at (wanted_of c.args.wanted) c.if-exps-ne1.false (c.field_looked.ensures.step N k c.args.mark (wanted_of c.args.wanted)))

pub strict_looked-returns-in-Project-clause-ends : goal.strict_looked-returns-in-Project-clause-ends
strict_looked-returns-in-Project-clause-ends t c = rw (ap operation_of c.in-Project.is) (ends_one c.field_looked.result c.args.exps.now _ (Project c.in-Project.field.now) c.args.mark c.args.at c.if-exps-ne1.false (c.field_looked.ensures.ends c.args.mark))

pub strict_looked-returns-in-Declared-clause-step : goal.strict_looked-returns-in-Declared-clause-step
strict_looked-returns-in-Declared-clause-step t c = λ N k. rw (ap operation_of c.in-Declared.is) (strict_one N c.args.site.now c.args.exps.now _ (Declared (type_of c.in-Declared.written.now)) c.args.mark c.args.at (wanted_of c.args.wanted) c.if-exps-ne1.false (c.declared_looked.ensures.step N k c.args.mark))

pub strict_looked-returns-in-Declared-clause-ends : goal.strict_looked-returns-in-Declared-clause-ends
strict_looked-returns-in-Declared-clause-ends t c = rw (ap operation_of c.in-Declared.is) (ends_one c.declared_looked.result c.args.exps.now _ (Declared (type_of c.in-Declared.written.now)) c.args.mark c.args.at c.if-exps-ne1.false (c.declared_looked.ensures.ends c.args.mark))

pub plain_looked-returns-in_err-found-clause-step : goal.plain_looked-returns-in_err-found-clause-step
plain_looked-returns-in_err-found-clause-step t c =
    let p = err_from_is_err_and c.from_residual.result c.from_residual.ensures.1 in
    rw (p.1, p.2) (λ N k. plain_stops N c.args.site.now c.args.act.now c.args.mark (terms (map term_of c.args.exps.now)) c.args.at c.in-Ok.first (wanted_of c.args.wanted) c.requires.plain (c.in-Ok.ensures ∙ ap (λ n. c.args.at + n) c.own_numbers_of.ensures) (c.in_err-found.ensures.step N k))

pub plain_looked-returns-in_err-value-clause-step : goal.plain_looked-returns-in_err-value-clause-step
plain_looked-returns-in_err-value-clause-step t c =
    let p = err_from_is_err_and c.from_residual-in_err-value.result c.from_residual-in_err-value.ensures.1 in
    rw (p.1, p.2) (λ N k. plain_refused N c.args.site.now c.args.act.now c.args.mark (terms (map term_of c.args.exps.now)) c.args.at c.in-Ok.first (wanted_of c.args.wanted) c.requires.plain (c.in-Ok.ensures ∙ ap (λ n. c.args.at + n) c.own_numbers_of.ensures) c.in_ok-found.found (c.in_ok-found.ensures.step N k) (c.in_err-value.ensures N k (scope_of c.args.site.now.scope.now)))

pub plain_looked-returns-clause-step : goal.plain_looked-returns-clause-step
plain_looked-returns-clause-step t c = λ N k. plain_done N c.args.site.now c.args.act.now c.args.mark (terms (map term_of c.args.exps.now)) c.args.at c.in-Ok.first (wanted_of c.args.wanted) c.requires.plain (c.in-Ok.ensures ∙ ap (λ n. c.args.at + n) c.own_numbers_of.ensures) c.in_ok-found.found (c.in_ok-found.ensures.step N k) (c.in_ok-value.ensures N k (scope_of c.args.site.now.scope.now)) (c.whole_seen.ensures.step first_name_alone N (kinds_at c.args.site.now) _ (strict_named _ _ _ c.in_ok-found.ensures.ends.first))

pub plain_looked-returns-clause-ends : goal.plain_looked-returns-clause-ends
plain_looked-returns-clause-ends t c = seen_ends c.whole_seen.result _ c.args.at (strict_named _ _ _ c.in_ok-found.ensures.ends.first) (omega (arith, c.in-Ok.ensures, c.own_numbers_of.ensures, c.in_ok-found.ensures.ends.next)) c.whole_seen.ensures.ends

pub all_looked-loop-exp-init : goal.all_looked-loop-exp-init
all_looked-loop-exp-init t c = (subst (λ z. Walking first_name_alone (kinds_at c.args.site.now) (types_at c.args.site.now) (Knows c.args.site.now.program.names) (λ (M : Names). wanted_part first_name_alone M (kinds_at c.args.site.now) (types_at c.args.site.now) (operation_of c.args.act.now) c.args.node (wanted_of c.args.wanted)) c.args.exps.now c.args.at (here_at c.args.site.now) c.args.losses.now c.args.losses.now z c.args.at None 0) (sym c.new-parts.ensures.items) (walk_begins first_name_alone (kinds_at c.args.site.now) (types_at c.args.site.now) (Knows c.args.site.now.program.names) (λ (M : Names). wanted_part first_name_alone M (kinds_at c.args.site.now) (types_at c.args.site.now) (operation_of c.args.act.now) c.args.node (wanted_of c.args.wanted)) c.args.exps.now c.args.at (here_at c.args.site.now) c.args.losses.now), search rules)

pub all_looked-returns-in_err-found-clause-step : goal.all_looked-returns-in_err-found-clause-step
all_looked-returns-in_err-found-clause-step t c =
    let p = err_from_is_err_and c.from_residual.result c.from_residual.ensures.1 in
    rw (p.1, p.2) (λ N k. walk_stops first_name_alone (kinds_at c.args.site.now) (types_at c.args.site.now) (Knows c.args.site.now.program.names) (λ (M : Names). wanted_part first_name_alone M (kinds_at c.args.site.now) (types_at c.args.site.now) (operation_of c.args.act.now) c.args.node (wanted_of c.args.wanted)) c.args.exps.now c.args.at (here_at c.args.site.now) c.args.losses.now c.loop-exp.losses c.loop-exp.parts.items c.loop-exp.next c.loop-exp.first_name c.loop-exp.exp-index c.loop-exp.invariant.0 _ c.loop-exp-test.true (wanted_of c.in-Ok.also) N k ((λ (M : Names) (k : Knows c.args.site.now.program.names M). c.in-Ok.ensures first_name_alone M k ∙ ap (wanted_part first_name_alone M (kinds_at c.args.site.now) (types_at c.args.site.now) (operation_of c.args.act.now) c.args.node (wanted_of c.args.wanted)) (c.len.ensures ∙ c.loop-exp.invariant.1)) N k) (c.in_err-found.ensures.step N k))

pub all_looked-loop-exp-preserved : goal.all_looked-loop-exp-preserved
all_looked-loop-exp-preserved t c = (walk_goes first_name_alone (kinds_at c.args.site.now) (types_at c.args.site.now) (Knows c.args.site.now.program.names) (λ (M : Names). wanted_part first_name_alone M (kinds_at c.args.site.now) (types_at c.args.site.now) (operation_of c.args.act.now) c.args.node (wanted_of c.args.wanted)) c.args.exps.now c.args.at (here_at c.args.site.now) c.args.losses.now c.loop-exp.losses c.loop-exp.parts.items c.loop-exp.next c.loop-exp.first_name c.loop-exp.exp-index c.loop-exp.invariant.0 _ c.loop-exp-test.true (wanted_of c.in-Ok.also) _ c.in_ok-found.found _ _ (λ (M : Names) (k : Knows c.args.site.now.program.names M). c.in-Ok.ensures first_name_alone M k ∙ ap (wanted_part first_name_alone M (kinds_at c.args.site.now) (types_at c.args.site.now) (operation_of c.args.act.now) c.args.node (wanted_of c.args.wanted)) (c.len.ensures ∙ c.loop-exp.invariant.1)) (λ N k. c.in_ok-found.ensures.step N k) c.in_ok-found.ensures.ends c.in-Ok-push.ensures.items c.or_name-first_name.ensures, search rules)

pub all_looked-returns-clause-step : goal.all_looked-returns-clause-step
all_looked-returns-clause-step t c = λ N k. walk_ends first_name_alone (kinds_at c.args.site.now) (types_at c.args.site.now) (Knows c.args.site.now.program.names) (λ (M : Names). wanted_part first_name_alone M (kinds_at c.args.site.now) (types_at c.args.site.now) (operation_of c.args.act.now) c.args.node (wanted_of c.args.wanted)) c.args.exps.now c.args.at (here_at c.args.site.now) c.args.losses.now c.loop-exp.losses c.loop-exp.parts.items c.loop-exp.next c.loop-exp.first_name c.loop-exp.exp-index c.loop-exp.invariant.0 c.loop-exp-test.false _ c.into_bump_slice.ensures N k

pub all_looked-returns-clause-ends : goal.all_looked-returns-clause-ends
all_looked-returns-clause-ends t c = walk_ends_at first_name_alone (kinds_at c.args.site.now) (types_at c.args.site.now) (Knows c.args.site.now.program.names) (λ (M : Names). wanted_part first_name_alone M (kinds_at c.args.site.now) (types_at c.args.site.now) (operation_of c.args.act.now) c.args.node (wanted_of c.args.wanted)) c.args.exps.now c.args.at (here_at c.args.site.now) c.args.losses.now c.loop-exp.losses c.loop-exp.parts.items c.loop-exp.next c.loop-exp.first_name c.loop-exp.exp-index c.loop-exp.invariant.0 c.loop-exp-test.false _ c.into_bump_slice.ensures refl refl

pub branches_looked-returns-in_err-tested-clause-step : goal.branches_looked-returns-in_err-tested-clause-step
branches_looked-returns-in_err-tested-clause-step t c =
    let p = err_from_is_err_and c.from_residual.result c.from_residual.ensures.1 in
    rw (p.1, p.2, term_if c.args.exp.now c.in-If.test c.in-If.yes c.in-If.no c.in-If.is) (λ N k w. test_stops N c.args.site.now (term_of c.in-If.test.now) (term_of c.in-If.yes.now) (term_of c.in-If.no.now) c.args.at c.in-Ok.first (c.in-Ok.first + numbers (term_of c.in-If.test.now)) (c.in-Ok.first + numbers (term_of c.in-If.test.now) + numbers (term_of c.in-If.yes.now)) w c.in-Ok.ensures refl refl (c.in_err-tested.ensures.step N k))

pub branches_looked-returns-in_err-one-clause-step : goal.branches_looked-returns-in_err-one-clause-step
branches_looked-returns-in_err-one-clause-step t c =
    let p = err_from_is_err_and c.from_residual-in_err-one.result c.from_residual-in_err-one.ensures.1 in
    rw (p.1, p.2, term_if c.args.exp.now c.in-If.test c.in-If.yes c.in-If.no c.in-If.is) (λ N k w. yes_stops N c.args.site.now (term_of c.in-If.test.now) (term_of c.in-If.yes.now) (term_of c.in-If.no.now) c.args.at c.in-Ok.first c.in_ok-tested.tested.after (c.in_ok-tested.tested.after + numbers (term_of c.in-If.yes.now)) w c.in-Ok.ensures c.in_ok-tested.ensures.ends.next c.in_ok-tested.tested (c.in_ok-tested.ensures.step N k) refl (c.in_err-one.ensures.step N k))

pub branches_looked-returns-in_err-other-clause-step : goal.branches_looked-returns-in_err-other-clause-step
branches_looked-returns-in_err-other-clause-step t c =
    let p = err_from_is_err_and c.from_residual-in_err-other.result c.from_residual-in_err-other.ensures.1 in
    rw (p.1, p.2, term_if c.args.exp.now c.in-If.test c.in-If.yes c.in-If.no c.in-If.is) (λ N k w. no_stops N c.args.site.now (term_of c.in-If.test.now) (term_of c.in-If.yes.now) (term_of c.in-If.no.now) c.args.at c.in-Ok.first c.in_ok-tested.tested.after c.in_ok-one.one.after w c.in-Ok.ensures c.in_ok-tested.ensures.ends.next c.in_ok-tested.tested (c.in_ok-tested.ensures.step N k) c.in_ok-one.ensures.ends.next c.len-before.ensures c.in-Ok-end_branch.ensures.back (c.in_ok-one.ensures.step N k) (c.in_err-other.ensures.step N k))

pub branches_looked-returns-in_err-value-clause-step : goal.branches_looked-returns-in_err-value-clause-step
branches_looked-returns-in_err-value-clause-step t c =
    let p = err_from_is_err_and c.from_residual-in_err-value.result c.from_residual-in_err-value.ensures.1 in
    rw (p.1, p.2, term_if c.args.exp.now c.in-If.test c.in-If.yes c.in-If.no c.in-If.is) (λ N k w. join_stops N c.args.site.now (term_of c.in-If.test.now) (term_of c.in-If.yes.now) (term_of c.in-If.no.now) c.args.at c.in-Ok.first c.in_ok-tested.tested.after c.in_ok-one.one.after w c.in-Ok.ensures c.in_ok-tested.ensures.ends.next c.in_ok-tested.tested (c.in_ok-tested.ensures.step N k) c.in_ok-one.ensures.ends.next (c.in_err-value.ensures _ _ _ _ _ c.len-before.ensures c.in-Ok-end_branch.ensures.back c.in-Ok-end_branch.ensures.later (c.in_ok-one.ensures.step N k) (c.in_ok-other.ensures.step N k)))

pub branches_looked-returns-clause-step : goal.branches_looked-returns-clause-step
branches_looked-returns-clause-step t c = λ N k w. rw (term_if c.args.exp.now c.in-If.test c.in-If.yes c.in-If.no c.in-If.is) (if_done N c.args.site.now (term_of c.in-If.test.now) (term_of c.in-If.yes.now) (term_of c.in-If.no.now) c.args.at c.in-Ok.first c.in_ok-tested.tested.after c.in_ok-one.one.after w c.in-Ok.ensures c.in_ok-tested.ensures.ends.next c.in_ok-tested.tested (c.in_ok-tested.ensures.step N k) c.in_ok-one.ensures.ends.next (c.in_ok-value.ensures _ _ _ _ _ c.len-before.ensures c.in-Ok-end_branch.ensures.back c.in-Ok-end_branch.ensures.later (c.in_ok-one.ensures.step N k) (c.in_ok-other.ensures.step N k)) (c.whole_seen.ensures.step first_name_alone N (kinds_at c.args.site.now) _ (if_named _ _ _ c.in_ok-tested.ensures.ends.named.first_so c.in_ok-one.ensures.ends.named.first_so c.in_ok-other.ensures.ends.named.first_so c.or_name-later_name.ensures c.or_name-first_name.ensures)))

pub branches_looked-returns-clause-ends : goal.branches_looked-returns-clause-ends
branches_looked-returns-clause-ends t c = rw (term_if c.args.exp.now c.in-If.test c.in-If.yes c.in-If.no c.in-If.is) (seen_ends c.whole_seen.result _ c.args.at (if_named _ _ _ c.in_ok-tested.ensures.ends.named.first_so c.in_ok-one.ensures.ends.named.first_so c.in_ok-other.ensures.ends.named.first_so c.or_name-later_name.ensures c.or_name-first_name.ensures) (omega (arith, c.in-Ok.ensures, c.in_ok-tested.ensures.ends.next, c.in_ok-one.ensures.ends.next, c.in_ok-other.ensures.ends.next)) c.whole_seen.ensures.ends)

pub field_looked-returns-in_err-seen-clause-step : goal.field_looked-returns-in_err-seen-clause-step
field_looked-returns-in_err-seen-clause-step t c =
    let p = err_from_is_err_and c.from_residual.result c.from_residual.ensures.1 in
    rw (p.1, p.2) (λ N k mark w. field_stops N c.args.site.now c.args.field.now mark (term_of c.args.exp.now) c.args.at c.in-Ok.first w c.in-Ok.ensures (c.in_err-seen.ensures.step N k))

pub field_looked-returns-in_err-part-clause-step : goal.field_looked-returns-in_err-part-clause-step
field_looked-returns-in_err-part-clause-step t c =
    let p = err_from_is_err_and c.from_residual-in_err-part.result c.from_residual-in_err-part.ensures.1 in
    rw (p.1, p.2) (λ N k mark w. field_refused N c.args.site.now c.args.field.now mark (term_of c.args.exp.now) c.args.at c.in-Ok.first w c.in-Ok.ensures c.in_ok-seen.seen (c.in_ok-seen.ensures.step N k) (c.in_err-part.ensures first_name_alone N k (scope_of c.args.site.now.scope.now) _ (told_named (one_named _ _ _ c.in_ok-seen.ensures.ends.named.first_so) c.or_function.ensures)))

pub field_looked-returns-clause-step : goal.field_looked-returns-clause-step
field_looked-returns-clause-step t c = λ N k mark w. field_done N c.args.site.now c.args.field.now mark (term_of c.args.exp.now) c.args.at c.in-Ok.first w c.in-Ok.ensures c.in_ok-seen.seen (c.in_ok-seen.ensures.step N k) (c.in_ok-part.ensures first_name_alone N k (scope_of c.args.site.now.scope.now) _ (told_named (one_named _ _ _ c.in_ok-seen.ensures.ends.named.first_so) c.or_function.ensures))

pub field_looked-returns-clause-ends : goal.field_looked-returns-clause-ends
field_looked-returns-clause-ends t c = λ mark. record { named = one_named _ _ _ c.in_ok-seen.ensures.ends.named.first_so; next = omega (arith, c.in-Ok.ensures, c.in_ok-seen.ensures.ends.next) }

pub declared_looked-returns-in_err-found-clause-step : goal.declared_looked-returns-in_err-found-clause-step
declared_looked-returns-in_err-found-clause-step t c =
    let p = err_from_is_err_and c.from_residual.result c.from_residual.ensures.1 in
    rw (p.1, p.2) (λ N k mark. declared_stops N c.args.site.now (type_of c.args.written.now) mark (term_of c.args.exp.now) c.args.at c.in-Ok.first (wanted_of c.args.wanted) c.in-Ok.ensures (stars_of c.in-Ok-declared_or_wanted.stars.now) (c.in-Ok-declared_or_wanted.ensures N k) (c.in_err-found.ensures.step N k))

pub declared_looked-returns-in_err-value-clause-step : goal.declared_looked-returns-in_err-value-clause-step
declared_looked-returns-in_err-value-clause-step t c =
    let p = err_from_is_err_and c.from_residual-in_err-value.result c.from_residual-in_err-value.ensures.1 in
    rw (p.1, p.2) (λ N k mark. declared_refused N c.args.site.now (type_of c.args.written.now) mark (term_of c.args.exp.now) c.args.at c.in-Ok.first (wanted_of c.args.wanted) c.in-Ok.ensures (stars_of c.in-Ok-declared_or_wanted.stars.now) (c.in-Ok-declared_or_wanted.ensures N k) c.in_ok-found.found (c.in_ok-found.ensures.step N k) (c.in_err-value.ensures (scope_of c.args.site.now.scope.now) _))

pub declared_looked-returns-in_err-part-clause-step : goal.declared_looked-returns-in_err-part-clause-step
declared_looked-returns-in_err-part-clause-step t c =
    let p = err_from_is_err_and c.from_residual-in_err-part.result c.from_residual-in_err-part.ensures.1 in
    rw (p.1, p.2) (λ N k mark. declared_halts N c.args.site.now (type_of c.args.written.now) mark (term_of c.args.exp.now) c.args.at c.in-Ok.first (wanted_of c.args.wanted) c.in-Ok.ensures (stars_of c.in-Ok-declared_or_wanted.stars.now) (c.in-Ok-declared_or_wanted.ensures N k) c.in_ok-found.found (c.in_ok-found.ensures.step N k) c.in_ok-value.value (c.in_ok-value.ensures (scope_of c.args.site.now.scope.now) _) (c.in_err-part.ensures first_name_alone N (kinds_at c.args.site.now) _ (told_named c.in_ok-found.ensures.ends.named c.or_function.ensures)))

pub declared_looked-returns-clause-step : goal.declared_looked-returns-clause-step
declared_looked-returns-clause-step t c = λ N k mark. declared_done N c.args.site.now (type_of c.args.written.now) mark (term_of c.args.exp.now) c.args.at c.in-Ok.first (wanted_of c.args.wanted) c.in-Ok.ensures (stars_of c.in-Ok-declared_or_wanted.stars.now) (c.in-Ok-declared_or_wanted.ensures N k) c.in_ok-found.found (c.in_ok-found.ensures.step N k) c.in_ok-value.value (c.in_ok-value.ensures (scope_of c.args.site.now.scope.now) _) (c.in_ok-part.ensures first_name_alone N (kinds_at c.args.site.now) _ (told_named c.in_ok-found.ensures.ends.named c.or_function.ensures))

pub declared_looked-returns-clause-ends : goal.declared_looked-returns-clause-ends
declared_looked-returns-clause-ends t c = λ mark. record { named = one_named _ _ _ c.in_ok-found.ensures.ends.named.first_so; next = omega (arith, c.in-Ok.ensures, c.in_ok-found.ensures.ends.next) }

pub call_looked-returns-in_err-seen-clause-step : goal.call_looked-returns-in_err-seen-clause-step
call_looked-returns-in_err-seen-clause-step t c =
    let p = err_from_is_err_and c.from_residual.result c.from_residual.ensures.1 in
    rw (p.1, p.2) (λ N k w. restopped (c.in_err-seen.ensures.step N k w))

pub call_looked-returns-clause-step : goal.call_looked-returns-clause-step
call_looked-returns-clause-step t c = λ N k w. reshown c.gathered.ensures (c.in_ok-seen.ensures.step N k w)

pub apply_looked-returns-in_err-head-clause-step : goal.apply_looked-returns-in_err-head-clause-step
apply_looked-returns-in_err-head-clause-step t c =
    let p = err_from_is_err_and c.from_residual.result c.from_residual.ensures.1 in
    rw (p.1, p.2, term_apply c.args.exp.now c.in-Apply.function c.in-Apply.argument c.in-Apply.is) (λ N k w. head_stops N c.args.site.now (term_of c.in-Apply.function.now) (term_of c.in-Apply.argument.now) c.args.at c.in-Ok.first (c.in-Ok.first + numbers (term_of c.in-Apply.function.now)) w c.in-Ok.ensures _ refl _ (c.in_err-head.ensures.step N k))

pub apply_looked-returns-in_err-part-clause-step : goal.apply_looked-returns-in_err-part-clause-step
apply_looked-returns-in_err-part-clause-step t c =
    let p = err_from_is_err_and c.from_residual-in_err-part.result c.from_residual-in_err-part.ensures.1 in
    rw (p.1, p.2, term_apply c.args.exp.now c.in-Apply.function c.in-Apply.argument c.in-Apply.is) (λ N k w. ready_stops N c.args.site.now (term_of c.in-Apply.function.now) (term_of c.in-Apply.argument.now) c.args.at c.in-Ok.first c.in_ok-head.head.after w c.in-Ok.ensures _ c.in_ok-head.ensures.ends.next _ c.in_ok-head.head (c.in_ok-head.ensures.step N k) _ (c.in_err-part.ensures first_name_alone N (scope_of c.args.site.now.scope.now) _ (told_named c.in_ok-head.ensures.ends.named c.or_function.ensures)))

pub apply_looked-returns-in_err-found-clause-step : goal.apply_looked-returns-in_err-found-clause-step
apply_looked-returns-in_err-found-clause-step t c =
    let p = err_from_is_err_and c.from_residual-in_err-found.result c.from_residual-in_err-found.ensures.1 in
    rw (p.1, p.2, term_apply c.args.exp.now c.in-Apply.function c.in-Apply.argument c.in-Apply.is) (λ N k w. argument_stops N c.args.site.now (term_of c.in-Apply.function.now) (term_of c.in-Apply.argument.now) c.args.at c.in-Ok.first c.in_ok-head.head.after w c.in-Ok.ensures _ c.in_ok-head.ensures.ends.next _ c.in_ok-head.head (c.in_ok-head.ensures.step N k) _ c.in_ok-part.part (c.in_ok-part.ensures first_name_alone N (scope_of c.args.site.now.scope.now) _ (told_named c.in_ok-head.ensures.ends.named c.or_function.ensures)) (wanted_as N c.args.site.now (term_of c.in-Apply.argument.now) c.in_ok-head.head.after (c.wanted_parameter-wanted.ensures ∙ ap (λ z. wanted_parameter (part_with c.in_ok-part.part z)) c.deref.ensures.value) (c.in_err-found.ensures.step N k)))

pub apply_looked-returns-clause-step : goal.apply_looked-returns-clause-step
apply_looked-returns-clause-step t c = λ N k w. rw (term_apply c.args.exp.now c.in-Apply.function c.in-Apply.argument c.in-Apply.is) (apply_done N c.args.site.now (term_of c.in-Apply.function.now) (term_of c.in-Apply.argument.now) c.args.at c.in-Ok.first c.in_ok-head.head.after w c.in-Ok.ensures _ c.in_ok-head.ensures.ends.next _ c.in_ok-head.head (c.in_ok-head.ensures.step N k) _ c.in_ok-part.part (c.in_ok-part.ensures first_name_alone N (scope_of c.args.site.now.scope.now) _ (told_named c.in_ok-head.ensures.ends.named c.or_function.ensures)) (wanted_as N c.args.site.now (term_of c.in-Apply.argument.now) c.in_ok-head.head.after (c.wanted_parameter-wanted.ensures ∙ ap (λ z. wanted_parameter (part_with c.in_ok-part.part z)) c.deref.ensures.value) (c.in_ok-found.ensures.step N k)) (c.in-Ok-with_argument.ensures first_name_alone N (kinds_at c.args.site.now) (types_at c.args.site.now)))

pub apply_looked-returns-clause-ends : goal.apply_looked-returns-clause-ends
apply_looked-returns-clause-ends t c = rw (term_apply c.args.exp.now c.in-Apply.function c.in-Apply.argument c.in-Apply.is) (record { named = apply_named _ _ c.in_ok-head.ensures.ends.named.first_so c.in_ok-found.ensures.ends.named.first_so c.or_name.ensures; next = omega (arith, c.in-Ok.ensures, c.in_ok-head.ensures.ends.next, c.in_ok-found.ensures.ends.next) })

pub lambda_looked-returns-in_err-found-clause-step : goal.lambda_looked-returns-in_err-found-clause-step
lambda_looked-returns-in_err-found-clause-step t c =
    let p = err_from_is_err_and c.from_residual.result c.from_residual.ensures.1 in
    rw (p.1, p.2) (λ N k. lambda_stops N c.args.site.now (patterns (map pattern_of c.args.parameters.now)) (term_of c.args.body.now) c.args.at (wanted_of c.args.wanted) (entered_at N c.args.site.now (patterns (map pattern_of c.args.parameters.now)) (term_of c.args.body.now) c.args.at (wanted_of c.args.wanted) c.in-Ok.entered (c.in-Ok.ensures.enters N k) (c.in_err-found.ensures.step N k)))

pub lambda_looked-returns-clause-step : goal.lambda_looked-returns-clause-step
lambda_looked-returns-clause-step t c = λ N k. lambda_done N c.args.site.now (patterns (map pattern_of c.args.parameters.now)) (term_of c.args.body.now) c.args.at (wanted_of c.args.wanted) (c.end_function.ensures.step N k (wanted_of c.args.wanted) (c.in-Ok.ensures.enters N k) _ _ c.len-before.ensures (entered_at N c.args.site.now (patterns (map pattern_of c.args.parameters.now)) (term_of c.args.body.now) c.args.at (wanted_of c.args.wanted) c.in-Ok.entered (c.in-Ok.ensures.enters N k) (c.in_ok-found.ensures.step N k)) c.in_ok-found.ensures.ends.named.first_so)

pub lambda_looked-returns-clause-ends : goal.lambda_looked-returns-clause-ends
lambda_looked-returns-clause-ends t c = seen_ends c.end_function.result _ c.args.at (lambda_named (patterns (map pattern_of c.args.parameters.now)) (term_of c.args.body.now) c.in_ok-found.ensures.ends.named.first_so) (omega (arith, c.in-Ok.ensures.node, c.in_ok-found.ensures.ends.next)) c.end_function.ensures.ends

pub let_looked-returns-in_err-found-clause-step : goal.let_looked-returns-in_err-found-clause-step
let_looked-returns-in_err-found-clause-step t c =
    let p = err_from_is_err_and c.from_residual.result c.from_residual.ensures.1 in
    rw (p.1, p.2) (λ N k. let_stops N (record { program = c.args.site.now.program; here = c.args.site.now.here; scope = c.args.scope }) (row_of c.args.one.now) (term_of c.args.one.now.value) c.args.at c.in-Ok.node (sym (ap (λ (r : Row). r.1) (row_is c.args.one.now))) (c.in-Ok.ensures ∙ ap (λ (r : Row). 1 + c.args.at + pattern_numbers r.0.pattern) (sym (row_is c.args.one.now))) (c.in_err-found.ensures.step N k))

pub let_looked-returns-in_err-scope-clause-step : goal.let_looked-returns-in_err-scope-clause-step
let_looked-returns-in_err-scope-clause-step t c =
    let p = err_from_is_err_and c.from_residual-in_err-scope.result c.from_residual-in_err-scope.ensures.1 in
    rw (p.1, p.2) (λ N k. let_refused N (record { program = c.args.site.now.program; here = c.args.site.now.here; scope = c.args.scope }) (row_of c.args.one.now) (term_of c.args.one.now.value) c.args.at c.in-Ok.node (sym (ap (λ (r : Row). r.1) (row_is c.args.one.now))) (c.in-Ok.ensures ∙ ap (λ (r : Row). 1 + c.args.at + pattern_numbers r.0.pattern) (sym (row_is c.args.one.now))) c.in_ok-found.found (c.in_ok-found.ensures.step N k) (c.in_err-scope.ensures N k _))

pub let_looked-returns-clause-step : goal.let_looked-returns-clause-step
let_looked-returns-clause-step t c = λ N k. let_done N (record { program = c.args.site.now.program; here = c.args.site.now.here; scope = c.args.scope }) (row_of c.args.one.now) (term_of c.args.one.now.value) c.args.at c.in-Ok.node (sym (ap (λ (r : Row). r.1) (row_is c.args.one.now))) (c.in-Ok.ensures ∙ ap (λ (r : Row). 1 + c.args.at + pattern_numbers r.0.pattern) (sym (row_is c.args.one.now))) c.in_ok-found.found (c.in_ok-found.ensures.step N k) (c.in_ok-scope.ensures N k _) refl

pub let_looked-returns-clause-ends : goal.let_looked-returns-clause-ends
let_looked-returns-clause-ends t c = record { first = c.in_ok-found.ensures.ends.named.first_so ∙ sym (ap (λ (r : Row). some_name r.1) (row_is c.args.one.now)); behind = c.in_ok-found.ensures.ends.next ∙ ap (λ n. n + numbers (term_of c.args.one.now.value)) c.in-Ok.ensures ∙ ap (λ (r : Row). 1 + c.args.at + pattern_numbers r.0.pattern + numbers r.1) (sym (row_is c.args.one.now)) }

pub row_looked-loop-i-init : goal.row_looked-loop-i-init
row_looked-loop-i-init t c = row_begins first_name_alone (kinds_at c.args.site.now) (types_at c.args.site.now) (Knows c.args.site.now.program.names) c.args.site.now.here c.args.lets.now c.args.at (here_of (scope_of c.args.scope.now) c.args.site.now.here) c.args.losses.now _ refl refl refl

pub row_looked-returns-in_err-behind-clause-step : goal.row_looked-returns-in_err-behind-clause-step
row_looked-returns-in_err-behind-clause-step t c =
    let p = err_from_is_err_and c.from_residual.result c.from_residual.ensures.1 in
    rw (p.1, p.2) (λ N k. row_stops first_name_alone (kinds_at c.args.site.now) (types_at c.args.site.now) (Knows c.args.site.now.program.names) c.args.site.now.here c.args.lets.now c.args.at (here_of (scope_of c.args.scope.now) c.args.site.now.here) c.args.losses.now c.loop-i.losses _ c.loop-i.inside c.loop-i.i c.loop-i.invariant _ c.loop-i-test.true N k (c.in_err-behind.ensures.step N k))

pub row_looked-loop-i-preserved : goal.row_looked-loop-i-preserved
row_looked-loop-i-preserved t c = row_goes first_name_alone (kinds_at c.args.site.now) (types_at c.args.site.now) (Knows c.args.site.now.program.names) c.args.site.now.here c.args.lets.now c.args.at (here_of (scope_of c.args.scope.now) c.args.site.now.here) c.args.losses.now c.loop-i.losses _ c.loop-i.inside c.loop-i.i c.loop-i.invariant _ c.loop-i-test.true c.in_ok-behind.behind _ (λ N k. c.in_ok-behind.ensures.step N k) c.in_ok-behind.ensures.ends refl c.or_name.ensures refl

pub row_looked-returns-clause-step : goal.row_looked-returns-clause-step
row_looked-returns-clause-step t c = λ N k. row_ends first_name_alone (kinds_at c.args.site.now) (types_at c.args.site.now) (Knows c.args.site.now.program.names) c.args.site.now.here c.args.lets.now c.args.at (here_of (scope_of c.args.scope.now) c.args.site.now.here) c.args.losses.now c.loop-i.losses c.loop-i.inside c.loop-i.i c.loop-i.invariant c.loop-i-test.false N k

pub row_looked-returns-clause-ends : goal.row_looked-returns-clause-ends
row_looked-returns-clause-ends t c = row_ends_at first_name_alone (kinds_at c.args.site.now) (types_at c.args.site.now) (Knows c.args.site.now.program.names) c.args.site.now.here c.args.lets.now c.args.at (here_of (scope_of c.args.scope.now) c.args.site.now.here) c.args.losses.now c.loop-i.losses c.loop-i.inside c.loop-i.i c.loop-i.invariant c.loop-i-test.false

pub head_looked-returns-in_err-seen-in_default : goal.head_looked-returns-in_err-seen-in_default
head_looked-returns-in_err-seen-in_default t c =
    let p = err_from_is_err_and c.from_residual.result c.from_residual.ensures.1 in
    rw (p.1, p.2) (record { step = λ N k. restopped (c.in_err-seen-in_default.ensures.step N k); ends = tt })

pub head_looked-returns-in-Ok : goal.head_looked-returns-in-Ok
head_looked-returns-in-Ok t c = record { step = λ N k. reshown (ap (part_with c.in_ok-seen-in_default.seen.part) (c.in-Ok.ensures.items ∙ ap (λ (z : List Held). z ++ c.in_ok-seen-in_default.seen.part.arguments.now) c.requires.none)) (c.in_ok-seen-in_default.ensures.step N k); ends = c.in_ok-seen-in_default.ensures.ends }

pub lets_looked-returns-then-lets-eq0-clause-step : goal.lets_looked-returns-then-lets-eq0-clause-step
lets_looked-returns-then-lets-eq0-clause-step t c = λ N k. rw (term_lets c.args.exp.now c.in-Lets.lets c.in-Lets.body c.in-Lets.is, no_let c.in-Lets.lets.now (term_of c.in-Lets.body.now) c.if-lets-eq0.true) (c.looked.ensures.step N k)

pub lets_looked-returns-then-lets-eq0-clause-ends : goal.lets_looked-returns-then-lets-eq0-clause-ends
lets_looked-returns-then-lets-eq0-clause-ends t c = rw (term_lets c.args.exp.now c.in-Lets.lets c.in-Lets.body c.in-Lets.is, no_let c.in-Lets.lets.now (term_of c.in-Lets.body.now) c.if-lets-eq0.true) c.looked.ensures.ends

pub lets_looked-returns-in_err-one-clause-step : goal.lets_looked-returns-in_err-one-clause-step
lets_looked-returns-in_err-one-clause-step t c =
    let p = err_from_is_err_and c.from_residual.result c.from_residual.ensures.1 in
    rw (p.1, p.2, term_lets c.args.exp.now c.in-Lets.lets c.in-Lets.body c.in-Lets.is) (λ N k. first_stops N c.args.site.now c.in-Lets.lets.now _ (some_let c.in-Lets.lets.now c.if-lets-eq0.false) (term_of c.in-Lets.body.now) c.args.at (wanted_of c.args.wanted) _ _ refl refl (c.in_err-one.ensures.step N k))

pub lets_looked-returns-in_err-row-clause-step : goal.lets_looked-returns-in_err-row-clause-step
lets_looked-returns-in_err-row-clause-step t c =
    let p = err_from_is_err_and c.from_residual-in_err-row.result c.from_residual-in_err-row.ensures.1 in
    rw (p.1, p.2, term_lets c.args.exp.now c.in-Lets.lets c.in-Lets.body c.in-Lets.is) (λ N k. rest_stops N c.args.site.now c.in-Lets.lets.now _ (some_let c.in-Lets.lets.now c.if-lets-eq0.false) (term_of c.in-Lets.body.now) c.args.at (wanted_of c.args.wanted) c.in_ok-one.one.after _ c.in_ok-one.ensures.ends.behind refl c.in_ok-one.one (c.in_ok-one.ensures.step N k) (c.in_err-row.ensures.step N k))

pub lets_looked-returns-in_err-found-clause-step : goal.lets_looked-returns-in_err-found-clause-step
lets_looked-returns-in_err-found-clause-step t c =
    let p = err_from_is_err_and c.from_residual-in_err-found.result c.from_residual-in_err-found.ensures.1 in
    rw (p.1, p.2, term_lets c.args.exp.now c.in-Lets.lets c.in-Lets.body c.in-Lets.is) (λ N k. body_stops_at N c.args.site.now c.in-Lets.lets.now _ (some_let c.in-Lets.lets.now c.if-lets-eq0.false) (term_of c.in-Lets.body.now) c.args.at (wanted_of c.args.wanted) c.in_ok-one.one.after c.in_ok-row.row.after c.in_ok-one.ensures.ends.behind c.in_ok-row.ensures.ends.behind c.in_ok-one.one (c.in_ok-one.ensures.step N k) c.in_ok-row.row (c.in_ok-row.ensures.step N k) (c.in_err-found.ensures.step N k))

pub lets_looked-returns-clause-step : goal.lets_looked-returns-clause-step
lets_looked-returns-clause-step t c = λ N k. rw (term_lets c.args.exp.now c.in-Lets.lets c.in-Lets.body c.in-Lets.is) (lets_done N c.args.site.now c.in-Lets.lets.now _ (some_let c.in-Lets.lets.now c.if-lets-eq0.false) (term_of c.in-Lets.body.now) c.args.at (wanted_of c.args.wanted) c.in_ok-one.one.after c.in_ok-row.row.after c.in_ok-one.ensures.ends.behind c.in_ok-row.ensures.ends.behind c.in_ok-one.one (c.in_ok-one.ensures.step N k) c.in_ok-row.row (c.in_ok-row.ensures.step N k) (c.in_ok-found.ensures.step N k) (c.end_lets.ensures.step first_name_alone N (kinds_at c.args.site.now) _ _ (count_is c.in-Lets.lets.now (some_let c.in-Lets.lets.now c.if-lets-eq0.false)) c.in_ok-row.ensures.ends.first c.in_ok-found.ensures.ends.named))

pub lets_looked-returns-clause-ends : goal.lets_looked-returns-clause-ends
lets_looked-returns-clause-ends t c = rw (term_lets c.args.exp.now c.in-Lets.lets c.in-Lets.body c.in-Lets.is) (seen_ends c.end_lets.result _ c.args.at (lets_named c.in-Lets.lets.now _ (some_let c.in-Lets.lets.now c.if-lets-eq0.false) (term_of c.in-Lets.body.now) c.in_ok-one.ensures.ends.first c.in_ok-row.ensures.ends.first c.in_ok-found.ensures.ends.named.first_so) (lets_numbers c.in-Lets.lets.now _ (some_let c.in-Lets.lets.now c.if-lets-eq0.false) (term_of c.in-Lets.body.now) c.args.at c.in_ok-one.ensures.ends.behind c.in_ok-row.ensures.ends.behind c.in_ok-found.ensures.ends.next) c.end_lets.ensures.ends)

pub looked-returns-in-Loop-clause-step : goal.looked-returns-in-Loop-clause-step
looked-returns-in-Loop-clause-step t c = λ N k. rw (term_loop c.args.exp.now c.in-Loop.whole c.in-Loop.is) (c.loop_looked.ensures.step N k _)

pub looked-returns-in-Loop-clause-ends : goal.looked-returns-in-Loop-clause-ends
looked-returns-in-Loop-clause-ends t c = rw (term_loop c.args.exp.now c.in-Loop.whole c.in-Loop.is) c.loop_looked.ensures.ends

pub loop_looked-returns-in_err-first-clause-step : goal.loop_looked-returns-in_err-first-clause-step
loop_looked-returns-in_err-first-clause-step t c =
    let p = err_from_is_err_and c.from_residual.result c.from_residual.ensures.1 in
    rw (p.1, p.2) (λ N k w. loop_first_stops N c.args.site.now c.args.whole.now c.args.at c.in-Ok.node _ w c.in-Ok.ensures refl (c.in_err-first.ensures.step N k))

pub loop_looked-returns-in_err-going-clause-step : goal.loop_looked-returns-in_err-going-clause-step
loop_looked-returns-in_err-going-clause-step t c =
    let p = err_from_is_err_and c.from_residual-in_err-going.result c.from_residual-in_err-going.ensures.1 in
    rw (p.1, p.2) (λ N k w. going_stops N c.args.site.now c.args.whole.now c.args.at c.in-Ok.node c.in_ok-first.first.after w c.in-Ok.ensures c.in_ok-first.ensures.ends.next c.in_ok-first.first (c.in_ok-first.ensures.step N k) (c.in_err-going.ensures.step N k))

pub loop_looked-returns-in_err-flow-clause-step : goal.loop_looked-returns-in_err-flow-clause-step
loop_looked-returns-in_err-flow-clause-step t c =
    let p = err_from_is_err_and c.from_residual-in_err-flow.result c.from_residual-in_err-flow.ensures.1 in
    rw (p.1, p.2) (λ N k w. flow_stops_at N c.args.site.now c.args.whole.now c.args.at c.in-Ok.node c.in_ok-first.first.after w c.in-Ok.ensures c.in_ok-first.ensures.ends.next c.in_ok-first.first (c.in_ok-first.ensures.step N k) c.in_ok-going.going (c.in_ok-going.ensures.step N k) (c.in_err-flow.ensures.step N k))

pub loop_looked-returns-in_err-value-clause-step : goal.loop_looked-returns-in_err-value-clause-step
loop_looked-returns-in_err-value-clause-step t c =
    let p = err_from_is_err_and c.from_residual-in_err-value.result c.from_residual-in_err-value.ensures.1 in
    rw (p.1, p.2) (λ N k w. turned_stops N c.args.site.now c.args.whole.now c.args.at c.in-Ok.node c.in_ok-first.first.after w c.in-Ok.ensures c.in_ok-first.ensures.ends.next c.in_ok-first.first (c.in_ok-first.ensures.step N k) c.in_ok-going.going (c.in_ok-going.ensures.step N k) c.in_ok-flow.flow (c.in_ok-flow.ensures.step N k) (c.in_ok-flow.ensures.back N k) (c.in_ok-flow.ensures.carried N k) (c.in_err-value.ensures N k))

pub loop_looked-returns-clause-step : goal.loop_looked-returns-clause-step
loop_looked-returns-clause-step t c = λ N k w. loop_done N c.args.site.now c.args.whole.now c.args.at c.in-Ok.node c.in_ok-first.first.after w c.in-Ok.ensures c.in_ok-first.ensures.ends.next c.in_ok-first.first (c.in_ok-first.ensures.step N k) c.in_ok-going.going (c.in_ok-going.ensures.step N k) c.in_ok-flow.flow (c.in_ok-flow.ensures.step N k) (c.in_ok-flow.ensures.back N k) (c.in_ok-flow.ensures.carried N k) (c.in_ok-value.ensures N k) (c.whole_seen.ensures.step first_name_alone N (kinds_at c.args.site.now) _ (loop_named c.args.whole.now c.in_ok-first.ensures.ends.named.first_so c.in_ok-flow.ensures.ends.first c.or_name-first_name.ensures))

pub loop_looked-returns-clause-ends : goal.loop_looked-returns-clause-ends
loop_looked-returns-clause-ends t c = seen_ends c.whole_seen.result _ c.args.at (loop_named c.args.whole.now c.in_ok-first.ensures.ends.named.first_so c.in_ok-flow.ensures.ends.first c.or_name-first_name.ensures) (loop_numbers c.args.whole.now c.args.at c.in-Ok.ensures c.in_ok-first.ensures.ends.next c.in_ok-flow.ensures.ends.begins c.in_ok-flow.ensures.ends.behind) c.whole_seen.ensures.ends

pub turns_looked-returns-in-For-clause-step : goal.turns_looked-returns-in-For-clause-step
turns_looked-returns-in-For-clause-step t c = λ N k. rw (ap turns_of c.in-For.is ∙ turns_counted _ _) (c.count_looked.ensures.step N k _)

pub turns_looked-returns-in-For-clause-ends : goal.turns_looked-returns-in-For-clause-ends
turns_looked-returns-in-For-clause-ends t c = rw (ap turns_of c.in-For.is ∙ turns_counted _ _) (c.count_looked.ensures.ends _)

pub turns_looked-returns-in-ForIn-clause-step : goal.turns_looked-returns-in-ForIn-clause-step
turns_looked-returns-in-ForIn-clause-step t c = λ N k. rw (ap turns_of c.in-ForIn.is ∙ turns_over _ _) (c.array_looked.ensures.step N k)

pub turns_looked-returns-in-ForIn-clause-ends : goal.turns_looked-returns-in-ForIn-clause-ends
turns_looked-returns-in-ForIn-clause-ends t c = rw (ap turns_of c.in-ForIn.is ∙ turns_over _ _) c.array_looked.ensures.ends

pub turns_looked-returns-in-While-clause-step : goal.turns_looked-returns-in-While-clause-step
turns_looked-returns-in-While-clause-step t c = λ N k. rw (ap turns_of c.in-While.is ∙ turns_while _) (while_done N c.args.site.now _ c.args.at refl c.no_alias.ensures refl)

pub turns_looked-returns-in-While-clause-ends : goal.turns_looked-returns-in-While-clause-ends
turns_looked-returns-in-While-clause-ends t c = rw (ap turns_of c.in-While.is ∙ turns_while _) tt

pub count_looked-returns-in_err-found-clause-step : goal.count_looked-returns-in_err-found-clause-step
count_looked-returns-in_err-found-clause-step t c =
    let p = err_from_is_err_and c.from_residual.result c.from_residual.ensures.1 in
    rw (p.1, p.2) (λ N k i. count_stops N c.args.site.now i (term_of c.args.count.now) c.args.at c.in-Ok.first c.in-Ok.ensures (c.in_err-found.ensures.step N k))

pub count_looked-returns-clause-step : goal.count_looked-returns-clause-step
count_looked-returns-clause-step t c = λ N k i. count_done N c.args.site.now i (term_of c.args.count.now) c.args.at c.in-Ok.first c.in-Ok.ensures (c.in_ok-found.ensures.step N k) c.no_alias.ensures c.in-Ok-of_node.ensures refl c.no_alias-2.ensures refl

pub count_looked-returns-clause-ends : goal.count_looked-returns-clause-ends
count_looked-returns-clause-ends t c = λ i. counted_ends i (term_of c.args.count.now) c.args.at c.in-Ok.ensures c.in_ok-found.ensures.ends.named.first_so c.in_ok-found.ensures.ends.next

pub array_looked-returns-in_err-found-clause-step : goal.array_looked-returns-in_err-found-clause-step
array_looked-returns-in_err-found-clause-step t c =
    let p = err_from_is_err_and c.from_residual.result c.from_residual.ensures.1 in
    rw (p.1, p.2) (λ N k. array_stops N c.args.site.now (pattern_of c.args.pattern.now) (term_of c.args.array.now) c.args.at c.in-Ok.node c.in-Ok.ensures (c.in_err-found.ensures.step N k))

pub array_looked-returns-clause-step : goal.array_looked-returns-clause-step
array_looked-returns-clause-step t c = λ N k. array_done N c.args.site.now (pattern_of c.args.pattern.now) (term_of c.args.array.now) c.args.at c.in-Ok.node c.in-Ok.ensures (c.in_ok-found.ensures.step N k) c.in-Ok-aliases.ensures c.in-Ok-of_node.ensures refl refl

pub array_looked-returns-clause-ends : goal.array_looked-returns-clause-ends
array_looked-returns-clause-ends t c = over_ends (pattern_of c.args.pattern.now) (term_of c.args.array.now) c.args.at c.in-Ok.ensures c.in_ok-found.ensures.ends.named.first_so c.in_ok-found.ensures.ends.next

pub flow_looked-returns-in_err-turn-clause-step : goal.flow_looked-returns-in_err-turn-clause-step
flow_looked-returns-in_err-turn-clause-step t c =
    let p = err_from_is_err_and c.from_residual.result c.from_residual.ensures.1 in
    rw (p.1, p.2) (λ N k. flow_stops N (kinds_at c.args.site.now) (types_at c.args.site.now) (here_at c.args.site.now) (pattern_of c.args.whole.now.pat) (turns_of c.args.whole.now.form) (term_of c.args.whole.now.body) c.args.first.now.after c.args.at (going_of N (kinds_at c.args.site.now) (types_at c.args.site.now) (turns_of c.args.whole.now.form) c.args.first.now.after c.args.going.now) (turn_there N c.args.site.now (turns_of c.args.whole.now.form) (term_of c.args.whole.now.body) c.args.first.now.after (flowing_is N c.args.site.now (pattern_of c.args.whole.now.pat) (turns_of c.args.whole.now.form) c.args.first.now.after c.args.at c.args.going.now [] (c.in-Ok.ensures N k)) (c.in_err-turn.ensures.step N k)))

pub flow_looked-returns-clause-step : goal.flow_looked-returns-clause-step
flow_looked-returns-clause-step t c = λ N k. flow_done N (kinds_at c.args.site.now) (types_at c.args.site.now) (here_at c.args.site.now) (pattern_of c.args.whole.now.pat) (turns_of c.args.whole.now.form) (term_of c.args.whole.now.body) c.args.first.now.after c.args.at (going_of N (kinds_at c.args.site.now) (types_at c.args.site.now) (turns_of c.args.whole.now.form) c.args.first.now.after c.args.going.now) (turn_there N c.args.site.now (turns_of c.args.whole.now.form) (term_of c.args.whole.now.body) c.args.first.now.after (flowing_is N c.args.site.now (pattern_of c.args.whole.now.pat) (turns_of c.args.whole.now.form) c.args.first.now.after c.args.at c.args.going.now [] (c.in-Ok.ensures N k)) (c.in_ok-turn.ensures.step N k)) c.len-before.ensures c.in-Ok-end_flow.ensures.later c.in-Ok-end_flow.ensures.back c.in-Ok-end_flow.ensures.rest.value

pub flow_looked-returns-clause-carried : goal.flow_looked-returns-clause-carried
flow_looked-returns-clause-carried t c = λ N k. c.in-Ok-end_flow.ensures.carried N k ∙ carried_is N c.args.site.now (pattern_of c.args.whole.now.pat) (term_of c.args.whole.now.first) c.args.at c.args.node (held_found c.args.first.now) _ _ _ _ c.in-Ok-end_flow.flow (turn_there N c.args.site.now (turns_of c.args.whole.now.form) (term_of c.args.whole.now.body) c.args.first.now.after (flowing_is N c.args.site.now (pattern_of c.args.whole.now.pat) (turns_of c.args.whole.now.form) c.args.first.now.after c.args.at c.args.going.now [] (c.in-Ok.ensures N k)) (c.in_ok-turn.ensures.step N k)) c.len-before.ensures c.in-Ok-end_flow.ensures.later c.in-Ok-end_flow.ensures.rest.value

pub flow_looked-returns-clause-back : goal.flow_looked-returns-clause-back
flow_looked-returns-clause-back t c = λ N k. back_is (grew (turn_there N c.args.site.now (turns_of c.args.whole.now.form) (term_of c.args.whole.now.body) c.args.first.now.after (flowing_is N c.args.site.now (pattern_of c.args.whole.now.pat) (turns_of c.args.whole.now.form) c.args.first.now.after c.args.at c.args.going.now [] (c.in-Ok.ensures N k)) (c.in_ok-turn.ensures.step N k))) c.len-before.ensures c.in-Ok-end_flow.ensures.back

pub flow_looked-returns-clause-ends : goal.flow_looked-returns-clause-ends
flow_looked-returns-clause-ends t c = record { first = c.in-Ok-end_flow.ensures.rest.first ∙ c.in_ok-turn.ensures.ends.first; begins = c.in-Ok-end_flow.ensures.rest.begins ∙ c.in_ok-turn.ensures.ends.begins; behind = c.in-Ok-end_flow.ensures.rest.behind ∙ c.in_ok-turn.ensures.ends.behind ∙ ap (λ n. n + numbers (term_of c.args.whole.now.body)) (sym c.in-Ok-end_flow.ensures.rest.begins) }

pub turned_looked-returns-in_err-enter : goal.turned_looked-returns-in_err-enter
turned_looked-returns-in_err-enter t c =
    let p = err_from_is_err_and c.from_residual.result c.from_residual.ensures.1 in
    rw (p.1, p.2) (λ N k. enter_stops N c.args.site.now (pattern_of c.args.whole.now.pat) (turns_of c.args.whole.now.form) (term_of c.args.whole.now.body) c.args.first.now.after c.args.at c.args.flow.now.body (held_found c.args.first.now) (going_of N (kinds_at c.args.site.now) (types_at c.args.site.now) (turns_of c.args.whole.now.form) c.args.first.now.after c.args.going.now) (flow_shown N (kinds_at c.args.site.now) (types_at c.args.site.now) c.args.losses.now c.args.flow.now) (carrieds_of c.args.flow.now.carried.now) c.requires.begins (c.in_err-enter.ensures (scope_of c.args.site.now.scope.now)))

pub turned_looked-returns-in_err-given : goal.turned_looked-returns-in_err-given
turned_looked-returns-in_err-given t c =
    let p = err_from_is_err_and c.from_residual-in_err-given.result c.from_residual-in_err-given.ensures.1 in
    rw (p.1, p.2) (λ N k. look_stops N c.args.site.now (pattern_of c.args.whole.now.pat) (turns_of c.args.whole.now.form) (term_of c.args.whole.now.body) c.args.first.now.after c.args.at c.args.flow.now.body (held_found c.args.first.now) (going_of N (kinds_at c.args.site.now) (types_at c.args.site.now) (turns_of c.args.whole.now.form) c.args.first.now.after c.args.going.now) (flow_shown N (kinds_at c.args.site.now) (types_at c.args.site.now) c.args.losses.now c.args.flow.now) (carrieds_of c.args.flow.now.carried.now) c.requires.begins (c.in_ok-enter.ensures (scope_of c.args.site.now.scope.now)) c.in-Ok.ensures (c.in_err-given.ensures N k c.args.losses.now (grew (c.in_ok-enter.ensures (scope_of c.args.site.now.scope.now)))))

pub turned_looked-returns : goal.turned_looked-returns
turned_looked-returns t c = λ N k. turned_done N c.args.site.now (pattern_of c.args.whole.now.pat) (turns_of c.args.whole.now.form) (term_of c.args.whole.now.body) c.args.first.now.after c.args.at c.args.flow.now.body (held_found c.args.first.now) (going_of N (kinds_at c.args.site.now) (types_at c.args.site.now) (turns_of c.args.whole.now.form) c.args.first.now.after c.args.going.now) (flow_shown N (kinds_at c.args.site.now) (types_at c.args.site.now) c.args.losses.now c.args.flow.now) (carrieds_of c.args.flow.now.carried.now) c.requires.begins (c.in_ok-enter.ensures (scope_of c.args.site.now.scope.now)) c.in-Ok.ensures (c.in_ok-given.ensures N k c.args.losses.now (grew (c.in_ok-enter.ensures (scope_of c.args.site.now.scope.now)))) c.in-Ok-loop_value.ensures

pub again_looked-returns-then-site : goal.again_looked-returns-then-site
again_looked-returns-then-site t c = λ N k before grown. look_asked N c.args.site.now c.args.site.now.here.asked (flow_shown N (kinds_at c.args.site.now) (types_at c.args.site.now) before c.args.flow.now) (turn_again first_name_alone N (kinds_at c.args.site.now) (types_at c.args.site.now) (here_at c.args.site.now) (turns_of c.args.whole.now.form) (term_of c.args.whole.now.body) c.args.turns c.args.at (carrieds_of c.args.flow.now.carried.now) (turn_here first_name_alone N (kinds_at c.args.site.now) (types_at c.args.site.now) (here_at c.args.site.now) (pattern_of c.args.whole.now.pat) c.args.at (going_of N (kinds_at c.args.site.now) (types_at c.args.site.now) (turns_of c.args.whole.now.form) c.args.turns c.args.going.now) (sets_of c.args.sets.now))) c.if-site.true (c.asked_looked.ensures N k)

pub again_looked-returns : goal.again_looked-returns
again_looked-returns t c = λ N k before grown. look_flows N c.args.site.now c.args.site.now.here.asked (turn_again first_name_alone N (kinds_at c.args.site.now) (types_at c.args.site.now) (here_at c.args.site.now) (turns_of c.args.whole.now.form) (term_of c.args.whole.now.body) c.args.turns c.args.at (carrieds_of c.args.flow.now.carried.now) (turn_here first_name_alone N (kinds_at c.args.site.now) (types_at c.args.site.now) (here_at c.args.site.now) (pattern_of c.args.whole.now.pat) c.args.at (going_of N (kinds_at c.args.site.now) (types_at c.args.site.now) (turns_of c.args.whole.now.form) c.args.turns c.args.going.now) (sets_of c.args.sets.now))) before c.args.flow.now c.if-site.false grown c.in-Ok.ensures

pub asked_looked-returns-in_err-turn : goal.asked_looked-returns-in_err-turn
asked_looked-returns-in_err-turn t c =
    let p = err_from_is_err_and c.from_residual.result c.from_residual.ensures.1 in
    rw (p.1, p.2) (λ N k. again_stops N c.args.site.now (turns_of c.args.whole.now.form) (term_of c.args.whole.now.body) c.args.turns c.args.at c.args.flow.now.body (carrieds_of c.args.flow.now.carried.now) (turn_here first_name_alone N (kinds_at c.args.site.now) (types_at c.args.site.now) (here_at c.args.site.now) (pattern_of c.args.whole.now.pat) c.args.at (going_of N (kinds_at c.args.site.now) (types_at c.args.site.now) (turns_of c.args.whole.now.form) c.args.turns c.args.going.now) (sets_of c.args.sets.now)) c.requires.begins (turn_there N c.args.site.now (turns_of c.args.whole.now.form) (term_of c.args.whole.now.body) c.args.turns (asked_is N c.args.site.now (pattern_of c.args.whole.now.pat) (turns_of c.args.whole.now.form) c.args.turns c.args.at c.args.going.now (sets_of c.args.sets.now) (c.in-Ok.ensures N k)) (c.in_err-turn.ensures.step N k)))

pub asked_looked-returns-in_err-leave : goal.asked_looked-returns-in_err-leave
asked_looked-returns-in_err-leave t c =
    let p = err_from_is_err_and c.from_residual-in_err-leave.result c.from_residual-in_err-leave.ensures.1 in
    rw (p.1, p.2) (λ N k. leave_stops N c.args.site.now (turns_of c.args.whole.now.form) (term_of c.args.whole.now.body) c.args.turns c.args.at c.args.flow.now.body (carrieds_of c.args.flow.now.carried.now) (turn_here first_name_alone N (kinds_at c.args.site.now) (types_at c.args.site.now) (here_at c.args.site.now) (pattern_of c.args.whole.now.pat) c.args.at (going_of N (kinds_at c.args.site.now) (types_at c.args.site.now) (turns_of c.args.whole.now.form) c.args.turns c.args.going.now) (sets_of c.args.sets.now)) c.requires.begins c.in_ok-turn.turn (turn_there N c.args.site.now (turns_of c.args.whole.now.form) (term_of c.args.whole.now.body) c.args.turns (asked_is N c.args.site.now (pattern_of c.args.whole.now.pat) (turns_of c.args.whole.now.form) c.args.turns c.args.at c.args.going.now (sets_of c.args.sets.now) (c.in-Ok.ensures N k)) (c.in_ok-turn.ensures.step N k)) (c.in_err-leave.ensures (scope_of c.args.site.now.scope.now)))

pub asked_looked-returns : goal.asked_looked-returns
asked_looked-returns t c = λ N k. again_done N c.args.site.now (turns_of c.args.whole.now.form) (term_of c.args.whole.now.body) c.args.turns c.args.at c.args.flow.now.body (carrieds_of c.args.flow.now.carried.now) (turn_here first_name_alone N (kinds_at c.args.site.now) (types_at c.args.site.now) (here_at c.args.site.now) (pattern_of c.args.whole.now.pat) c.args.at (going_of N (kinds_at c.args.site.now) (types_at c.args.site.now) (turns_of c.args.whole.now.form) c.args.turns c.args.going.now) (sets_of c.args.sets.now)) c.requires.begins c.in_ok-turn.turn (turn_there N c.args.site.now (turns_of c.args.whole.now.form) (term_of c.args.whole.now.body) c.args.turns (asked_is N c.args.site.now (pattern_of c.args.whole.now.pat) (turns_of c.args.whole.now.form) c.args.turns c.args.at c.args.going.now (sets_of c.args.sets.now) (c.in-Ok.ensures N k)) (c.in_ok-turn.ensures.step N k)) (c.in_ok-leave.ensures (scope_of c.args.site.now.scope.now))

pub turn_looked-returns-in_err-passed-clause-step : goal.turn_looked-returns-in_err-passed-clause-step
turn_looked-returns-in_err-passed-clause-step t c =
    let p = err_from_is_err_and c.from_residual.result c.from_residual.ensures.1 in
    rw (p.1, p.2) (λ N k. condition_stops N c.args.site.now (turns_of c.args.whole.now.form) (term_of c.args.whole.now.body) c.args.at (c.in_err-passed.ensures.step N k))

pub turn_looked-returns-in_err-found-clause-step : goal.turn_looked-returns-in_err-found-clause-step
turn_looked-returns-in_err-found-clause-step t c =
    let p = err_from_is_err_and c.from_residual-in_err-found.result c.from_residual-in_err-found.ensures.1 in
    rw (p.1, p.2) (λ N k. turn_body_stops N c.args.site.now (turns_of c.args.whole.now.form) (term_of c.args.whole.now.body) c.args.at c.in_ok-passed.passed.after c.in_ok-passed.ensures.ends.next (c.in_ok-passed.ensures.step N k) (c.in_err-found.ensures.step N k))

pub turn_looked-returns-clause-step : goal.turn_looked-returns-clause-step
turn_looked-returns-clause-step t c = λ N k. turn_done N c.args.site.now (turns_of c.args.whole.now.form) (term_of c.args.whole.now.body) c.args.at c.in_ok-passed.passed.after c.in_ok-passed.ensures.ends.next (c.in_ok-passed.ensures.step N k) (c.in_ok-found.ensures.step N k) refl

pub turn_looked-returns-clause-ends : goal.turn_looked-returns-clause-ends
turn_looked-returns-clause-ends t c = record { first = both_named c.or_name.ensures c.in_ok-passed.ensures.ends.first c.in_ok-found.ensures.ends.named.first_so; begins = c.in_ok-passed.ensures.ends.next; behind = c.in_ok-found.ensures.ends.next }

pub condition_looked-returns-in-While-clause-step : goal.condition_looked-returns-in-While-clause-step
condition_looked-returns-in-While-clause-step t c = λ N k. rw (ap turns_of c.in-While.is ∙ turns_while _) (c.test_looked.ensures.step N k)

pub condition_looked-returns-in-While-clause-ends : goal.condition_looked-returns-in-While-clause-ends
condition_looked-returns-in-While-clause-ends t c = rw (ap turns_of c.in-While.is ∙ turns_while _) c.test_looked.ensures.ends

pub condition_looked-returns-in-For-clause-step : goal.condition_looked-returns-in-For-clause-step
condition_looked-returns-in-For-clause-step t c = λ N k. rw (ap turns_of c.in-For.is ∙ turns_counted _ _) (counted_passed N c.args.site.now _ _ c.args.at)

pub condition_looked-returns-in-For-clause-ends : goal.condition_looked-returns-in-For-clause-ends
condition_looked-returns-in-For-clause-ends t c = counted_goes _ _ c.args.at c.args.going.now (ap turns_of c.in-For.is ∙ turns_counted _ _) c.requires.ends refl refl

pub condition_looked-returns-in-ForIn-clause-step : goal.condition_looked-returns-in-ForIn-clause-step
condition_looked-returns-in-ForIn-clause-step t c = λ N k. rw (ap turns_of c.in-ForIn.is ∙ turns_over _ _) (over_passed N c.args.site.now _ _ c.args.at)

pub condition_looked-returns-in-ForIn-clause-ends : goal.condition_looked-returns-in-ForIn-clause-ends
condition_looked-returns-in-ForIn-clause-ends t c = over_goes _ _ c.args.at c.args.going.now (ap turns_of c.in-ForIn.is ∙ turns_over _ _) c.requires.ends refl refl

pub test_looked-returns-in_err-found-clause-step : goal.test_looked-returns-in_err-found-clause-step
test_looked-returns-in_err-found-clause-step t c =
    let p = err_from_is_err_and c.from_residual.result c.from_residual.ensures.1 in
    rw (p.1, p.2) (λ N k. test_stops_at N c.args.site.now (term_of c.args.test.now) c.args.at (c.in_err-found.ensures.step N k))

pub test_looked-returns-clause-step : goal.test_looked-returns-clause-step
test_looked-returns-clause-step t c = λ N k. tested N c.args.site.now (term_of c.args.test.now) c.args.at (c.in_ok-found.ensures.step N k)

pub test_looked-returns-clause-ends : goal.test_looked-returns-clause-ends
test_looked-returns-clause-ends t c = tested_ends (term_of c.args.test.now) c.args.at c.in_ok-found.ensures.ends.named.first_so c.in_ok-found.ensures.ends.next refl refl
