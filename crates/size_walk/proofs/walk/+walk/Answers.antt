use Rattle.std.proofs.Common.{◌+◌, ◌∙◌, [], List, drop, map, refl, sym, ap, subst, arith, true, suc, ◌++◌, ◌∷◌, Ok, rules}
use Rattle.std.proofs.lemmas.Result.{err_from_is_err_and}
use Rattle.fut_flat.specs.Erased.{operation_of, pattern_of, patterns, term_of, terms}
use Rattle.fut_flat.specs.Numbers.{all_numbers, numbers}
use Rattle.fut_flat.proofs.ErasedForms.{row_of, term_apply, term_if, term_lambda, term_lets, term_loop, term_strict, term_use, turns_of, turns_counted, turns_over, turns_while}
use Rattle.size_arena.specs.Trees.{size_of}
use Rattle.size_forms.specs.Shown.{part_is, row_is, tree_is, whole_is, end_of, opened_is, turn_is}
use Rattle.size_applying.specs.declared.arguments.Argument.{Argument}
use Rattle.size_walk.specs.Walked.{Has_arguments, Lambda_met, types_at, want_of, turn_going}
use Rattle.size_walk.proofs.LambdaLaws.{lambda_begin_stops, lambda_body_stops, lambda_done}
use Rattle.fut_sizes.specs.Applications.{applied, functions_met}
use Rattle.fut_sizes.specs.Matching.{made_at, none_opened, nothing_found}
use Rattle.fut_sizes.specs.Sizing.{as_argument, finished, met_noted}
use Rattle.size_applying.specs.Going.{Is_met}
use Rattle.size_applying.specs.Wanted.{Is_argument, Is_part, none_each, one_each}
use Rattle.size_program.proofs.StepLaws.{steps_stop, steps_then}
use Rattle.fut_sizes.specs.Steps.{note}
use Rattle.size_walk.proofs.FormLaws.{if_done, no_stops, row_begins, row_ends, row_goes, row_numbers, row_stops, strict_done, strict_refused, strict_stops, test_stops, yes_stops}
use Rattle.size_applying.proofs.WayLaws.{way_arrow, way_end, way_end_stop, way_start, way_stop}
use Rattle.size_applying.proofs.FunctionLaws.{all_stop, all_then, early_taken, functions_end, functions_more, functions_start, functions_stop}
use Rattle.size_arena.proofs.Parts.{drop_past}
use Rattle.std.proofs.Math.Seq.{drop-cons}
use Rattle.size_walk.proofs.TakingLaws.{as_wanted, left_behind, next_functions, next_way, taken_again, taken_on, taken_over}
use Rattle.size_walk.proofs.MeetLaws.{lambda_met, lambda_not_met, made_where}
use Rattle.size_walk.proofs.Joining.{halted, retold}
use Rattle.size_walk.proofs.PartLaws.{for_applied, for_waiting, lambda_alone, lambda_alone_stops, lambda_wanted, not_wanted, unapplied_is, whole_argument, whole_argument_stops, argument_done, argument_refused, argument_stops, whole_done, whole_refused, whole_stops}
use Rattle.size_walk.proofs.ApplyingLaws.{argument_stops_there, give_stops_there, given_begins, given_ends, given_goes, given_number, head_stops}
use Rattle.size_walk.proofs.SpineLaws.{apply_part, give_applied, give_stops, give_waiting}
use Rattle.size_forms.specs.declared.turns.Turn.{Turn}
use Rattle.size_forms.specs.declared.walked.Walked.{Walked}
use Rattle.size_walk.proofs.ComposedLaws.{entering_stops, lambda_stops, left_stops, met_stops, right_stops, wanted_stops, wanted_then}
use Rattle.size_walk.proofs.RowLaws.{all_behind, all_ends, behind_stops, close_stops, lets_done, lets_stop, open_begins, open_ends, open_goes, open_stops}
use Rattle.size_walk.proofs.TurnLaws.{body_stops, condition_stops, counted_gone, counted_passed, each_stops, enter_stops, first_stops, gone_done, gone_stops, loop_done, over_gone, over_passed, turn_again, turn_ends, turn_kept, turn_last, turn_stops, turns_begin, turns_stop, while_gone}
use Rattle.size_walk.proofs.BottomLaws.{both_met, both_stop, composed_ends, counted_next, each_there, ends_there, heading_stops, lambda_there, last_escapes, last_stops, lets_composed, lets_none, loop_ends, next_there, none_closed, noted_done, noted_stops, other_place, other_term, outer_done, outer_stops, over_next, rest_of, right_at, second_there, split_ends, split_row, value_done, value_ends, value_given, value_stops, value_term, while_ends, while_next, while_stops, while_tested}
use Rattle.size_walk.proofs.walk.+walk.Goals as goal

pub size_whole-returns-in_err-walked-clause-sized : goal.size_whole-returns-in_err-walked-clause-sized
size_whole-returns-in_err-walked-clause-sized t c =
    let p = err_from_is_err_and c.from_residual.result c.from_residual.ensures.1 in
    rw (p.1, p.2) (whole_stops (types_at c.args.site.now) c.args.site.now.program c.args.site.now.names.now (term_of c.args.exp.now) c.args.heads.now c.args.node _ _ _ _ c.in_err-walked.ensures.sized)

pub size_whole-returns-in_err-size-clause-sized : goal.size_whole-returns-in_err-size-clause-sized
size_whole-returns-in_err-size-clause-sized t c =
    let p = err_from_is_err_and c.from_residual-in_err-size.result c.from_residual-in_err-size.ensures.1 in
    rw (p.1, p.2) (whole_refused (types_at c.args.site.now) c.args.site.now.program c.args.site.now.names.now (term_of c.args.exp.now) c.args.heads.now c.args.node c.in_ok-walked.walked _ _ _ c.in_ok-walked.ensures.sized _ (λ N k y is. c.in_err-size.ensures N k y is))

pub size_whole-returns-clause-sized : goal.size_whole-returns-clause-sized
size_whole-returns-clause-sized t c = whole_done (types_at c.args.site.now) c.args.site.now.program c.args.site.now.names.now (term_of c.args.exp.now) c.args.heads.now c.args.node c.in_ok-walked.walked _ _ _ c.in_ok-walked.ensures.sized c.in_ok-size.size _ (λ N k y is. c.in_ok-size.ensures N k y is)

pub size_part-returns-in-Use-clause-sized : goal.size_part-returns-in-Use-clause-sized
size_part-returns-in-Use-clause-sized t c = rw (term_use c.args.exp.now c.in-Use.name c.in-Use.before c.in-Use.is) (c.size_use.ensures.sized _ _)

pub size_part-returns-in-Use-clause-next : goal.size_part-returns-in-Use-clause-next
size_part-returns-in-Use-clause-next t c = rw (term_use c.args.exp.now c.in-Use.name c.in-Use.before c.in-Use.is) c.size_use.ensures.next

pub size_part-returns-in-Strict-clause-sized : goal.size_part-returns-in-Strict-clause-sized
size_part-returns-in-Strict-clause-sized t c = rw (term_strict c.args.exp.now c.in-Strict.act c.in-Strict.mark c.in-Strict.parts c.in-Strict.is) (c.size_strict.ensures.sized _)

pub size_part-returns-in-Strict-clause-next : goal.size_part-returns-in-Strict-clause-next
size_part-returns-in-Strict-clause-next t c = rw (term_strict c.args.exp.now c.in-Strict.act c.in-Strict.mark c.in-Strict.parts c.in-Strict.is) c.size_strict.ensures.next

pub size_part-returns-in-Lambda-clause-sized : goal.size_part-returns-in-Lambda-clause-sized
size_part-returns-in-Lambda-clause-sized t c = c.wait.ensures.sized c.args.site.now.program _ _ _ (term_lambda c.args.exp.now _ _ c.in-Lambda.is)

pub size_part-returns-in-Apply-clause-sized : goal.size_part-returns-in-Apply-clause-sized
size_part-returns-in-Apply-clause-sized t c = apply_part (part_is (types_at c.args.site.now)) (types_at c.args.site.now) c.args.site.now.program c.args.site.now.names.now c.args.exp.now _ _ c.args.heads.now c.args.node _ _ _ (term_apply c.args.exp.now _ _ c.in-Apply.is) c.size_apply.ensures.sized

pub size_part-returns-in-Lets-clause-sized : goal.size_part-returns-in-Lets-clause-sized
size_part-returns-in-Lets-clause-sized t c = rw (term_lets c.args.exp.now c.in-Lets.row c.in-Lets.body c.in-Lets.is) c.size_lets.ensures.sized

pub size_part-returns-in-Lets-clause-next : goal.size_part-returns-in-Lets-clause-next
size_part-returns-in-Lets-clause-next t c = rw (term_lets c.args.exp.now c.in-Lets.row c.in-Lets.body c.in-Lets.is) c.size_lets.ensures.next

pub size_part-returns-in-If-clause-sized : goal.size_part-returns-in-If-clause-sized
size_part-returns-in-If-clause-sized t c = rw (term_if c.args.exp.now c.in-If.test c.in-If.yes c.in-If.no c.in-If.is) (c.size_if.ensures.sized _)

pub size_part-returns-in-If-clause-next : goal.size_part-returns-in-If-clause-next
size_part-returns-in-If-clause-next t c = rw (term_if c.args.exp.now c.in-If.test c.in-If.yes c.in-If.no c.in-If.is) c.size_if.ensures.next

pub size_part-returns-in-Loop-clause-sized : goal.size_part-returns-in-Loop-clause-sized
size_part-returns-in-Loop-clause-sized t c = rw (term_loop c.args.exp.now c.in-Loop.whole c.in-Loop.is) (c.size_loop.ensures.sized _)

pub size_part-returns-in-Loop-clause-next : goal.size_part-returns-in-Loop-clause-next
size_part-returns-in-Loop-clause-next t c = rw (term_loop c.args.exp.now c.in-Loop.whole c.in-Loop.is) c.size_loop.ensures.next

pub finish-returns-in-Applied : goal.finish-returns-in-Applied
finish-returns-in-Applied t c = λ N k p so. for_applied N (types_at c.args.site.now) tree_is (finished N (types_at c.args.site.now) c.args.node) so c.in-Applied.size c.in-Applied.is_regular c.in-Applied.arguments c.in-Applied.is (λ given each. c.finish_applied.ensures N k given each)

pub finish-returns-in_err-size-in-Waiting : goal.finish-returns-in_err-size-in-Waiting
finish-returns-in_err-size-in-Waiting t c =
    let p = err_from_is_err_and c.from_residual.result c.from_residual.ensures.1 in
    rw (p.1, p.2) (λ N k p so. lambda_alone_stops N (types_at c.args.site.now) so c.in-Waiting.exp c.in-Waiting.own c.in-Waiting.names c.in-Waiting.heads c.in-Waiting.is _ _ c.nothing_found-table.ensures c.args.node _ _ _ _ (λ h waits σ holds. c.in_err-size-in-Waiting.ensures.sized N k h waits σ holds))

pub finish-returns-in_err-note-in-Waiting : goal.finish-returns-in_err-note-in-Waiting
finish-returns-in_err-note-in-Waiting t c =
    let p = err_from_is_err_and c.from_residual-in_err-note-in-Waiting.result c.from_residual-in_err-note-in-Waiting.ensures.1 in
    rw (p.1, p.2) (λ N k p so. lambda_alone N (types_at c.args.site.now) so c.in-Waiting.exp c.in-Waiting.own c.in-Waiting.names c.in-Waiting.heads c.in-Waiting.is _ _ c.nothing_found-table.ensures c.args.node c.in_ok-size-in-Waiting.size _ _ _ _ (λ h waits σ holds. c.in_ok-size-in-Waiting.ensures.sized N k h waits σ holds) c.in_err-note-in-Waiting.ensures tree_is _ (λ noted. halted _ tree_is (note c.args.node (size_of c.in_ok-size-in-Waiting.size.now)) _ _ _ _ noted))

pub finish-returns-in_ok-note-in-Waiting : goal.finish-returns-in_ok-note-in-Waiting
finish-returns-in_ok-note-in-Waiting t c = λ N k p so. lambda_alone N (types_at c.args.site.now) so c.in-Waiting.exp c.in-Waiting.own c.in-Waiting.names c.in-Waiting.heads c.in-Waiting.is _ _ c.nothing_found-table.ensures c.args.node c.in_ok-size-in-Waiting.size _ _ _ _ (λ h waits σ holds. c.in_ok-size-in-Waiting.ensures.sized N k h waits σ holds) c.in_ok-note-in-Waiting.ensures tree_is _ (λ noted. retold _ tree_is (note c.args.node (size_of c.in_ok-size-in-Waiting.size.now)) _ _ _ _ (λ a same. same) noted)

pub finish_applied-returns-in_err-application : goal.finish_applied-returns-in_err-application
finish_applied-returns-in_err-application t c =
    let p = err_from_is_err_and c.from_residual.result c.from_residual.ensures.1 in
    rw (p.1, p.2) (λ N k given are. steps_stop (Is_met c.apply.new.table) tree_is (applied c.args.node c.args.is_regular given [] none_opened true (size_of c.args.size.now) [] nothing_found) (met_noted N (types_at c.args.site.now) c.args.node) _ _ _ _ _ refl (c.in_err-application.ensures.met N k given are))

pub finish_applied-returns : goal.finish_applied-returns
finish_applied-returns t c = λ N k given are. steps_then (Is_met c.apply.new.table) tree_is (applied c.args.node c.args.is_regular given [] none_opened true (size_of c.args.size.now) [] nothing_found) (met_noted N (types_at c.args.site.now) c.args.node) _ _ _ _ c.in_ok-application.application _ refl (c.in_ok-application.ensures.met N k given are) (λ m met. c.note_met.ensures N (types_at c.args.site.now) m met)

pub size_lambda-returns-in_err-begun-clause-sized : goal.size_lambda-returns-in_err-begun-clause-sized
size_lambda-returns-in_err-begun-clause-sized t c =
    let p = err_from_is_err_and c.from_residual.result c.from_residual.ensures.1 in
    rw (p.1, p.2) (λ N k f waits σ holds. lambda_begin_stops N (types_at c.args.site.now) c.args.lambda.now.exp.now c.args.lambda.now.node c.args.lambda.now.names.now c.args.lambda.now.heads.now f waits (patterns (map pattern_of c.in-Lambda.pats.now)) (term_of c.in-Lambda.body.now) (term_lambda c.args.lambda.now.exp.now c.in-Lambda.pats c.in-Lambda.body c.in-Lambda.is) (want_of c.args.want.now) σ (Lambda_met _) _ _ _ _ _ (c.in_err-begun.ensures.begun N waits.scope σ k waits.in_scope holds))

pub size_lambda-returns-in_err-whole-clause-sized : goal.size_lambda-returns-in_err-whole-clause-sized
size_lambda-returns-in_err-whole-clause-sized t c =
    let p = err_from_is_err_and c.from_residual-in_err-whole.result c.from_residual-in_err-whole.ensures.1 in
    rw (p.1, p.2) (λ N k f waits σ holds. lambda_body_stops N (types_at c.args.site.now) c.args.lambda.now.exp.now c.args.lambda.now.node c.args.lambda.now.names.now c.args.lambda.now.heads.now f waits (patterns (map pattern_of c.in-Lambda.pats.now)) (term_of c.in-Lambda.body.now) (term_lambda c.args.lambda.now.exp.now c.in-Lambda.pats c.in-Lambda.body c.in-Lambda.is) (want_of c.args.want.now) σ (Lambda_met _) _ _ _ c.args.site.now.program k c.in_ok-begun.begun (c.in_ok-begun.ensures.begun N waits.scope σ k waits.in_scope holds) c.in_ok-begun.ensures.body _ _ _ c.in_err-whole.ensures.sized)

pub size_lambda-returns-clause-sized : goal.size_lambda-returns-clause-sized
size_lambda-returns-clause-sized t c = λ N k f waits σ holds. lambda_done N (types_at c.args.site.now) c.args.lambda.now.exp.now c.args.lambda.now.node c.args.lambda.now.names.now c.args.lambda.now.heads.now f waits (patterns (map pattern_of c.in-Lambda.pats.now)) (term_of c.in-Lambda.body.now) (term_lambda c.args.lambda.now.exp.now c.in-Lambda.pats c.in-Lambda.body c.in-Lambda.is) (want_of c.args.want.now) σ (Lambda_met _) _ _ _ c.args.site.now.program k c.in_ok-begun.begun (c.in_ok-begun.ensures.begun N waits.scope σ k waits.in_scope holds) c.in_ok-begun.ensures.body _ c.in_ok-whole.whole _ _ c.in_ok-whole.ensures.sized c.in_ok-whole.ensures.next (λ E so. c.end_lambda.ensures.ended N (types_at c.args.site.now) E so)

pub size_argument-returns-in_err-walked-clause-sized : goal.size_argument-returns-in_err-walked-clause-sized
size_argument-returns-in_err-walked-clause-sized t c =
    let p = err_from_is_err_and c.from_residual.result c.from_residual.ensures.1 in
    rw (p.1, p.2) (argument_stops (types_at c.args.site.now) c.args.site.now.program c.args.site.now.names.now (term_of c.args.exp.now) c.args.node _ _ _ _ c.in_err-walked.ensures.sized)

pub size_argument-returns-in_err-argument-clause-sized : goal.size_argument-returns-in_err-argument-clause-sized
size_argument-returns-in_err-argument-clause-sized t c =
    let p = err_from_is_err_and c.from_residual-in_err-argument.result c.from_residual-in_err-argument.ensures.1 in
    rw (p.1, p.2) (argument_refused (types_at c.args.site.now) c.args.site.now.program c.args.site.now.names.now (term_of c.args.exp.now) c.args.node c.in_ok-walked.walked _ _ _ c.in_ok-walked.ensures.sized _ (λ N k y is. c.in_err-argument.ensures N k y is))

pub size_argument-returns-clause-sized : goal.size_argument-returns-clause-sized
size_argument-returns-clause-sized t c = argument_done (types_at c.args.site.now) c.args.site.now.program c.args.site.now.names.now (term_of c.args.exp.now) c.args.node c.in_ok-walked.walked _ _ _ c.in_ok-walked.ensures.sized c.in_ok-argument.argument _ (λ N k y is. c.in_ok-argument.ensures N k y is)

pub as_argument-returns-then-arguments-eq0 : goal.as_argument-returns-then-arguments-eq0
as_argument-returns-then-arguments-eq0 t c = λ N k p so. unapplied_is N (types_at c.args.site.now) (term_of c.args.exp.now) c.args.node _ _ so c.in-Applied.size _ c.in-Applied.arguments c.in-Applied.is c.if-arguments-eq0.true _ (c.unapplied.ensures N (types_at c.args.site.now))

pub as_argument-returns-in_err-whole-in-Applied : goal.as_argument-returns-in_err-whole-in-Applied
as_argument-returns-in_err-whole-in-Applied t c =
    let p = err_from_is_err_and c.from_residual.result c.from_residual.ensures.1 in
    rw (p.1, p.2) (λ N k p so. whole_argument_stops N (types_at c.args.site.now) (term_of c.args.exp.now) c.args.node _ _ so c.in-Applied.size _ c.in-Applied.arguments c.in-Applied.is c.if-arguments-eq0.false _ (c.in_err-whole-in-Applied.ensures N k p so))

pub as_argument-returns-in_ok-whole-in-Applied : goal.as_argument-returns-in_ok-whole-in-Applied
as_argument-returns-in_ok-whole-in-Applied t c = λ N k p so. whole_argument N (types_at c.args.site.now) (term_of c.args.exp.now) c.args.node _ _ so c.in-Applied.size _ c.in-Applied.arguments c.in-Applied.is c.if-arguments-eq0.false _ (c.in_ok-whole-in-Applied.ensures N k p so)

pub as_argument-returns-in-Waiting : goal.as_argument-returns-in-Waiting
as_argument-returns-in-Waiting t c = λ N k p so. for_waiting N (types_at c.args.site.now) (Is_argument N (types_at c.args.site.now)) (as_argument N (types_at c.args.site.now) c.args.node (term_of c.args.exp.now)) so c.in-Waiting.exp c.in-Waiting.own c.in-Waiting.names c.in-Waiting.heads c.in-Waiting.is (λ h waits. c.late.ensures N (types_at c.args.site.now) h _ waits)

pub size_strict-returns-in_err-row-clause-sized : goal.size_strict-returns-in_err-row-clause-sized
size_strict-returns-in_err-row-clause-sized t c =
    let p = err_from_is_err_and c.from_residual.result c.from_residual.ensures.1 in
    rw (p.1, p.2) (λ bs. strict_stops (types_at c.args.site.now) c.args.site.now.program c.args.site.now.names.now (operation_of c.args.act.now) c.args.mark (terms (map term_of c.args.parts.now)) bs c.args.node c.in-Ok.first (c.in-Ok.ensures ∙ ap (λ n. c.args.node + n) c.own_numbers_of.ensures) _ _ _ (part_is (types_at c.args.site.now)) _ c.in_err-row.ensures.sized)

pub size_strict-returns-in_err-size-clause-sized : goal.size_strict-returns-in_err-size-clause-sized
size_strict-returns-in_err-size-clause-sized t c =
    let p = err_from_is_err_and c.from_residual-in_err-size.result c.from_residual-in_err-size.ensures.1 in
    rw (p.1, p.2) (λ bs. strict_refused (types_at c.args.site.now) c.args.site.now.program c.args.site.now.names.now (operation_of c.args.act.now) c.args.mark (terms (map term_of c.args.parts.now)) bs c.args.node c.in-Ok.first (c.in-Ok.ensures ∙ ap (λ n. c.args.node + n) c.own_numbers_of.ensures) _ _ _ c.in_ok-row.row c.in_ok-row.ensures.sized (part_is (types_at c.args.site.now)) _ (λ N k. c.in_err-size.ensures N k))

pub size_strict-returns-clause-sized : goal.size_strict-returns-clause-sized
size_strict-returns-clause-sized t c = λ bs. strict_done (types_at c.args.site.now) c.args.site.now.program c.args.site.now.names.now (operation_of c.args.act.now) c.args.mark (terms (map term_of c.args.parts.now)) bs c.args.node c.in-Ok.first (c.in-Ok.ensures ∙ ap (λ n. c.args.node + n) c.own_numbers_of.ensures) _ _ _ c.in_ok-row.row c.in_ok-row.ensures.sized c.in_ok-size.size _ (λ N k. c.in_ok-size.ensures N k) c.walked.ensures.part

pub size_strict-returns-clause-next : goal.size_strict-returns-clause-next
size_strict-returns-clause-next t c = c.walked.ensures.next ∙ c.in_ok-row.ensures.next ∙ ap (λ n. n + all_numbers (terms (map term_of c.args.parts.now))) (c.in-Ok.ensures ∙ ap (λ n. c.args.node + n) c.own_numbers_of.ensures) ∙ omega arith

pub size_if-returns-in_err-tested-clause-sized : goal.size_if-returns-in_err-tested-clause-sized
size_if-returns-in_err-tested-clause-sized t c =
    let p = err_from_is_err_and c.from_residual.result c.from_residual.ensures.1 in
    rw (p.1, p.2) (λ bs. test_stops (types_at c.args.site.now) c.args.site.now.program c.args.site.now.names.now (term_of c.args.test.now) (term_of c.args.yes.now) (term_of c.args.no.now) bs c.args.node c.in-Ok.first _ _ (omega (arith, c.in-Ok.ensures)) refl refl (part_is (types_at c.args.site.now)) _ _ _ _ c.in_err-tested.ensures.sized)

pub size_if-returns-in_err-one-clause-sized : goal.size_if-returns-in_err-one-clause-sized
size_if-returns-in_err-one-clause-sized t c =
    let p = err_from_is_err_and c.from_residual-in_err-one.result c.from_residual-in_err-one.ensures.1 in
    rw (p.1, p.2) (λ bs. yes_stops (types_at c.args.site.now) c.args.site.now.program c.args.site.now.names.now (term_of c.args.test.now) (term_of c.args.yes.now) (term_of c.args.no.now) bs c.args.node c.in-Ok.first c.in_ok-tested.tested.next _ (omega (arith, c.in-Ok.ensures)) c.in_ok-tested.ensures.next refl (part_is (types_at c.args.site.now)) _ c.in_ok-tested.tested _ c.in_ok-tested.ensures.sized _ _ _ c.in_err-one.ensures.sized)

pub size_if-returns-in_err-other-clause-sized : goal.size_if-returns-in_err-other-clause-sized
size_if-returns-in_err-other-clause-sized t c =
    let p = err_from_is_err_and c.from_residual-in_err-other.result c.from_residual-in_err-other.ensures.1 in
    rw (p.1, p.2) (λ bs. no_stops (types_at c.args.site.now) c.args.site.now.program c.args.site.now.names.now (term_of c.args.test.now) (term_of c.args.yes.now) (term_of c.args.no.now) bs c.args.node c.in-Ok.first c.in_ok-tested.tested.next c.in_ok-one.one.next (omega (arith, c.in-Ok.ensures)) c.in_ok-tested.ensures.next c.in_ok-one.ensures.next (part_is (types_at c.args.site.now)) _ c.in_ok-tested.tested _ c.in_ok-tested.ensures.sized c.in_ok-one.one _ c.in_ok-one.ensures.sized _ _ _ c.in_err-other.ensures.sized)

pub size_if-returns-clause-sized : goal.size_if-returns-clause-sized
size_if-returns-clause-sized t c = λ bs. if_done (types_at c.args.site.now) c.args.site.now.program c.args.site.now.names.now (term_of c.args.test.now) (term_of c.args.yes.now) (term_of c.args.no.now) bs c.args.node c.in-Ok.first c.in_ok-tested.tested.next c.in_ok-one.one.next (omega (arith, c.in-Ok.ensures)) c.in_ok-tested.ensures.next c.in_ok-one.ensures.next _ _ _ _ c.in_ok-tested.tested c.in_ok-one.one c.in_ok-other.other c.in_ok-tested.ensures.sized c.in_ok-one.ensures.sized c.in_ok-other.ensures.sized c.in-Ok-kept.size c.in-Ok-kept.ensures _ c.walked.ensures.part

pub size_if-returns-clause-next : goal.size_if-returns-clause-next
size_if-returns-clause-next t c = c.walked.ensures.next ∙ c.in_ok-other.ensures.next ∙ omega (arith, c.in-Ok.ensures, c.in_ok-tested.ensures.next, c.in_ok-one.ensures.next)

pub size_row-loop-exp-init : goal.size_row-loop-exp-init
size_row-loop-exp-init t c = row_begins (types_at c.args.site.now) c.args.site.now.program c.args.site.now.names.now c.args.exps.now c.args.node c.args.tables.now _ c.new-made.ensures.items

pub size_row-returns-in_err-whole-clause-sized : goal.size_row-returns-in_err-whole-clause-sized
size_row-returns-in_err-whole-clause-sized t c =
    let p = err_from_is_err_and c.from_residual.result c.from_residual.ensures.1 in
    rw (p.1, p.2) (row_stops (types_at c.args.site.now) c.args.site.now.program c.args.site.now.names.now c.args.exps.now c.args.node c.args.tables.now c.loop-exp.exp-index c.loop-exp.next c.loop-exp.made.items _ c.loop-exp.invariant _ c.loop-exp-test.true row_is _ _ c.in_err-whole.ensures.sized)

pub size_row-loop-exp-preserved : goal.size_row-loop-exp-preserved
size_row-loop-exp-preserved t c = row_goes (types_at c.args.site.now) c.args.site.now.program c.args.site.now.names.now c.args.exps.now c.args.node c.args.tables.now c.loop-exp.exp-index c.loop-exp.next c.loop-exp.made.items _ c.loop-exp.invariant _ c.loop-exp-test.true c.in_ok-whole.whole _ _ c.in_ok-whole.ensures.sized c.in_ok-whole.ensures.next c.in-Ok.ensures.items

pub size_row-returns-clause-sized : goal.size_row-returns-clause-sized
size_row-returns-clause-sized t c = row_ends (types_at c.args.site.now) c.args.site.now.program c.args.site.now.names.now c.args.exps.now c.args.node c.args.tables.now c.loop-exp.exp-index c.loop-exp.next c.loop-exp.made.items _ c.loop-exp.invariant c.loop-exp-test.false _ c.into_bump_slice.ensures

pub size_row-returns-clause-next : goal.size_row-returns-clause-next
size_row-returns-clause-next t c = row_numbers (types_at c.args.site.now) c.args.site.now.program c.args.site.now.names.now c.args.exps.now c.args.node c.args.tables.now c.loop-exp.exp-index c.loop-exp.next c.loop-exp.made.items _ c.loop-exp.invariant c.loop-exp-test.false

pub match_function-returns-in-Early-clause-met : goal.match_function-returns-in-Early-clause-met
match_function-returns-in-Early-clause-met t c = λ N k w wants σ holds. early_taken N (types_at c.args.site.now) c.args.is_regular c.args.wanting.now w wants σ _ _ _ _ c.in-Early.is _ _ _ (c.function_meets.ensures.met N (types_at c.args.site.now) w wants σ holds)

pub match_function-returns-in_err-size_lambda-in-Late-clause-met : goal.match_function-returns-in_err-size_lambda-in-Late-clause-met
match_function-returns-in_err-size_lambda-in-Late-clause-met t c =
    let p = err_from_is_err_and c.from_residual.result c.from_residual.ensures.1 in
    rw (p.1, p.2) (λ N k w wants σ holds. lambda_not_met N (types_at c.args.site.now) c.args.is_regular c.args.wanting.now w wants σ c.in-Late.exp c.in-Late.own c.in-Late.names c.in-Late.is _ _ _ _ _ (c.in-Ok.ensures.wish N (types_at c.args.site.now) w wants σ holds) (λ h waits. c.in_err-size_lambda-in-Late.ensures.sized N k h waits (made_at w.node σ) (made_where c.args.wanting.now w wants.node σ _ (c.in-Ok.ensures.made σ holds))))

pub match_function-returns-in_ok-size_lambda-in-Late-clause-met : goal.match_function-returns-in_ok-size_lambda-in-Late-clause-met
match_function-returns-in_ok-size_lambda-in-Late-clause-met t c = λ N k w wants σ holds. lambda_met N (types_at c.args.site.now) c.args.is_regular c.args.wanting.now w wants σ c.in-Late.exp c.in-Late.own c.in-Late.names c.in-Late.is _ _ _ c.in_ok-size_lambda-in-Late.field-0 _ (c.in-Ok.ensures.wish N (types_at c.args.site.now) w wants σ holds) (λ h waits. c.in_ok-size_lambda-in-Late.ensures.sized N k h waits (made_at w.node σ) (made_where c.args.wanting.now w wants.node σ _ (c.in-Ok.ensures.made σ holds)))

pub match_functions-loop-wanting-init : goal.match_functions-loop-wanting-init
match_functions-loop-wanting-init t c = (λ N k ws want σ holds. functions_start N (types_at c.args.site.now) c.args.is_regular c.args.tables.now c.args.table.now c.args.wantings.now ws σ want holds, c.requires.held)

pub match_functions-returns-in_err-match_function-clause-met : goal.match_functions-returns-in_err-match_function-clause-met
match_functions-returns-in_err-match_function-clause-met t c =
    let p = err_from_is_err_and c.from_residual.result c.from_residual.ensures.1 in
    rw (p.1, p.2) (λ N k ws want σ holds. functions_stop N (types_at c.args.site.now) c.args.is_regular (functions_met c.args.is_regular ws σ) c.args.tables.now _ _ _ (c.loop-wanting.invariant.0 N k ws want σ holds) _ _ (drop-cons c.args.wantings.now c.loop-wanting.wanting-index _ c.loop-wanting-test.true ∙ ap (λ z. z ∷ drop (suc c.loop-wanting.wanting-index) c.args.wantings.now) (sym c.wanting-item.is)) _ _ _ (λ w wants τ held_so. c.in_err-match_function.ensures.met N k w wants τ held_so) _ _ refl)

pub match_functions-loop-wanting-preserved : goal.match_functions-loop-wanting-preserved
match_functions-loop-wanting-preserved t c = (λ N k ws want σ holds. next_functions N (types_at c.args.site.now) c.args.is_regular (functions_met c.args.is_regular ws σ) c.args.tables.now _ _ c.args.wantings.now c.loop-wanting.wanting-index (functions_more N (types_at c.args.site.now) c.args.is_regular (functions_met c.args.is_regular ws σ) c.args.tables.now _ _ _ (c.loop-wanting.invariant.0 N k ws want σ holds) _ _ (drop-cons c.args.wantings.now c.loop-wanting.wanting-index _ c.loop-wanting-test.true ∙ ap (λ z. z ∷ drop (suc c.loop-wanting.wanting-index) c.args.wantings.now) (sym c.wanting-item.is)) _ _ _ (λ w wants τ held_so. c.in_ok-match_function.ensures.met N k w wants τ held_so) refl), c.in_ok-match_function.ensures.held)

pub match_functions-returns-clause-met : goal.match_functions-returns-clause-met
match_functions-returns-clause-met t c = λ N k ws want σ holds. functions_end N (types_at c.args.site.now) c.args.is_regular (functions_met c.args.is_regular ws σ) c.args.tables.now _ _ _ (c.loop-wanting.invariant.0 N k ws want σ holds) (drop_past c.args.wantings.now c.loop-wanting.wanting-index c.loop-wanting-test.false)

pub match_all-returns-in_err-data_meet-clause-met : goal.match_all-returns-in_err-data_meet-clause-met
match_all-returns-in_err-data_meet-clause-met t c =
    let p = err_from_is_err_and c.from_residual.result c.from_residual.ensures.1 in
    rw (p.1, p.2) (λ N k ws want σ holds. all_stop c.args.is_regular ws σ _ _ _ _ _ (c.in_err-data_meet.ensures.met N (types_at c.args.site.now) ws want σ holds) _ refl)

pub match_all-returns-clause-met : goal.match_all-returns-clause-met
match_all-returns-clause-met t c = λ N k ws want σ holds. all_then c.args.is_regular ws σ _ _ _ _ _ (c.in_ok-data_meet.ensures.met N (types_at c.args.site.now) ws want σ holds) _ refl (λ τ held_so. c.match_functions.ensures.met N k ws want τ held_so)

pub give_argument-returns-in_err-size-in-Waiting : goal.give_argument-returns-in_err-size-in-Waiting
give_argument-returns-in_err-size-in-Waiting t c =
    let p = err_from_is_err_and c.from_residual.result c.from_residual.ensures.1 in
    rw (p.1, p.2) (λ N k p has a so. give_stops N (types_at c.args.site.now) c.args.function.now p c.args.arguments.now.items has _ a so _ _ c.in-Waiting.exp c.in-Waiting.node c.in-Waiting.names c.in-Waiting.heads c.in-Waiting.is _ _ (λ h waits. c.in_err-size-in-Waiting.ensures.sized N k h waits nothing_found c.nothing_found-table.ensures) _ refl (λ q. Has_arguments N (types_at c.args.site.now) q _))

pub give_argument-returns-in-Ok : goal.give_argument-returns-in-Ok
give_argument-returns-in-Ok t c = λ N k p has a so. give_applied N (types_at c.args.site.now) c.args.function.now p c.args.arguments.now.items has _ a so c.args.tables.now c.args.tables.now _ _ _ c.in-Applied.is _ c.in-Ok.ensures.items

pub give_argument-returns-in-Ok-push : goal.give_argument-returns-in-Ok-push
give_argument-returns-in-Ok-push t c = λ N k p has a so. give_waiting N (types_at c.args.site.now) c.args.function.now p c.args.arguments.now.items has _ a so _ _ c.in-Waiting.exp c.in-Waiting.node c.in-Waiting.names c.in-Waiting.heads c.in-Waiting.is _ _ (λ h waits. c.in_ok-size-in-Waiting.ensures.sized N k h waits nothing_found c.nothing_found-table.ensures) c.in_ok-size-in-Waiting.size refl _ (c.in-Ok-push.ensures.items ∙ ap (λ (z : List Argument). z ++ c.args.argument ∷ []) c.clear.ensures.items) _ (c.whole_part.ensures N (types_at c.args.site.now))

pub size_apply-loop-left-init : goal.size_apply-loop-left-init
size_apply-loop-left-init t c = given_begins (types_at c.args.site.now) c.args.site.now.program c.args.site.now.names.now (term_of c.in-Ok.spine.function.now) c.in-Ok.spine.arguments.now c.args.node c.args.tables.now _ c.in_ok-head.head _ _ _ refl c.new-arguments.ensures.items c.in-Ok-behind.ensures c.in_ok-head.ensures.sized c.in_ok-head.ensures.next

pub size_apply-returns-in_err-head-clause-sized : goal.size_apply-returns-in_err-head-clause-sized
size_apply-returns-in_err-head-clause-sized t c =
    let p = err_from_is_err_and c.from_residual.result c.from_residual.ensures.1 in
    rw (p.1, p.2) (head_stops (types_at c.args.site.now) c.args.site.now.program c.args.site.now.names.now (term_of c.in-Ok.spine.function.now) c.in-Ok.spine.arguments.now c.args.node c.args.tables.now (term_of c.args.exp.now) _ c.args.tables.now _ _ _ c.in-Ok.ensures refl c.in-Ok-behind.ensures c.in_err-head.ensures.sized)

pub size_apply-returns-in_err-given-clause-sized : goal.size_apply-returns-in_err-given-clause-sized
size_apply-returns-in_err-given-clause-sized t c =
    let p = err_from_is_err_and c.from_residual-in_err-given.result c.from_residual-in_err-given.ensures.1 in
    rw (p.1, p.2) (argument_stops_there (types_at c.args.site.now) c.args.site.now.program c.args.site.now.names.now (term_of c.in-Ok.spine.function.now) c.in-Ok.spine.arguments.now c.args.node c.args.tables.now c.loop-left.left _ _ _ _ _ c.loop-left.invariant (omega (arith, c.loop-left-test.true)) _ (term_of c.args.exp.now) _ _ c.in-Ok.ensures c.in_err-given.ensures.sized)

pub size_apply-returns-in_err-function-clause-sized : goal.size_apply-returns-in_err-function-clause-sized
size_apply-returns-in_err-function-clause-sized t c =
    let p = err_from_is_err_and c.from_residual-in_err-function.result c.from_residual-in_err-function.ensures.1 in
    rw (p.1, p.2) (give_stops_there (types_at c.args.site.now) c.args.site.now.program c.args.site.now.names.now (term_of c.in-Ok.spine.function.now) c.in-Ok.spine.arguments.now c.args.node c.args.tables.now c.loop-left.left _ _ _ _ _ c.loop-left.invariant (omega (arith, c.loop-left-test.true)) _ c.in_ok-given.given _ c.in_ok-given.ensures.sized (term_of c.args.exp.now) _ _ _ c.in-Ok.ensures (λ N k y has a so. c.in_err-function.ensures N k y has a so))

pub size_apply-loop-left-preserved : goal.size_apply-loop-left-preserved
size_apply-loop-left-preserved t c = given_goes (types_at c.args.site.now) c.args.site.now.program c.args.site.now.names.now (term_of c.in-Ok.spine.function.now) c.in-Ok.spine.arguments.now c.args.node c.args.tables.now c.loop-left.left _ _ _ _ _ c.loop-left.invariant (omega (arith, c.loop-left-test.true)) _ c.in_ok-given.given _ c.in_ok-given.ensures.sized _ _ _ c.in_ok-given.ensures.next (λ N k y has a so. c.in_ok-function.ensures N k y has a so)

pub size_apply-returns-clause-sized : goal.size_apply-returns-clause-sized
size_apply-returns-clause-sized t c = given_ends (types_at c.args.site.now) c.args.site.now.program c.args.site.now.names.now (term_of c.in-Ok.spine.function.now) c.in-Ok.spine.arguments.now c.args.node c.args.tables.now c.loop-left.left _ _ _ _ c.loop-left.invariant (omega (arith, c.loop-left-test.false)) (term_of c.args.exp.now) _ c.in-Ok.ensures (λ N y has. c.in-Ok-gathered.ensures N (types_at c.args.site.now) y has)

pub size_apply-returns-clause-next : goal.size_apply-returns-clause-next
size_apply-returns-clause-next t c = given_number (types_at c.args.site.now) c.args.site.now.program c.args.site.now.names.now (term_of c.in-Ok.spine.function.now) c.in-Ok.spine.arguments.now c.args.node c.args.tables.now c.loop-left.left _ _ _ _ c.loop-left.invariant (omega (arith, c.loop-left-test.false)) (term_of c.args.exp.now) c.in-Ok.ensures

pub take-returns-then-taken-clause-taken : goal.take-returns-then-taken-clause-taken
take-returns-then-taken-clause-taken t c = λ N k whole f left rest split at way. way_arrow N (types_at c.args.site.now) c.args.node c.args.is_regular whole f c.args.tables.now c.args.application.now c.args.table.now c.args.at c.args.argument.now left rest split at way _ _ _ (ap Ok c.if-taken.true) (λ a ws φ goes_on u ls σ so goes holds. c.in-Ok.ensures.taken N (types_at c.args.site.now) a ws φ goes_on u ls σ so goes holds)

pub take-returns-in_err-match_all-clause-taken : goal.take-returns-in_err-match_all-clause-taken
take-returns-in_err-match_all-clause-taken t c =
    let p = err_from_is_err_and c.from_residual.result c.from_residual.ensures.1 in
    rw (p.1, p.2) (λ N k whole f left rest split at way. way_stop N (types_at c.args.site.now) c.args.node c.args.is_regular whole f c.args.tables.now c.args.application.now c.args.table.now c.args.at c.args.argument.now left rest split at way _ _ _ (ap Ok c.if-taken.false) (λ a ws φ goes_on u ls σ so goes holds. c.in-Ok.ensures.taken N (types_at c.args.site.now) a ws φ goes_on u ls σ so goes holds) _ _ _ (as_wanted N (types_at c.args.site.now) c.args.node c.args.is_regular _ _ _ _ _ _ _ c.as_slice.ensures (λ ws want σ holds. c.in_err-match_all.ensures.met N k ws want σ holds)) (Is_met _) _ refl)

pub take-returns-clause-taken : goal.take-returns-clause-taken
take-returns-clause-taken t c = λ N k whole f left rest split at way. taken_again N (types_at c.args.site.now) c.args.node c.args.is_regular whole f c.args.tables.now c.args.application.now c.args.table.now c.args.at c.args.argument.now left rest split at way _ _ _ (ap Ok c.if-taken.false) (λ a ws φ goes_on u ls σ so goes holds. c.in-Ok.ensures.taken N (types_at c.args.site.now) a ws φ goes_on u ls σ so goes holds) _ _ (as_wanted N (types_at c.args.site.now) c.args.node c.args.is_regular _ _ _ _ _ _ _ c.as_slice.ensures (λ ws want σ holds. c.in_ok-match_all.ensures.met N k ws want σ holds)) _ _ _ (λ a ws φ goes_on u ls σ so goes holds. c.in-Ok-take_again.ensures.taken N (types_at c.args.site.now) a ws φ goes_on u ls σ so goes holds)

pub apply-loop-argument-init : goal.apply-loop-argument-init
apply-loop-argument-init t c = ((λ N k given are. way_start N (types_at c.args.site.now) c.args.node c.args.is_regular c.args.tables.now _ c.args.table.now (size_of c.args.size.now) c.args.arguments.now given are (c.in-Ok.ensures N (types_at c.args.site.now)) c.requires.nothing), (nothing_found, c.requires.nothing), search rules)

pub apply-returns-in_err-goes_on-clause-met : goal.apply-returns-in_err-goes_on-clause-met
apply-returns-in_err-goes_on-clause-met t c =
    let p = err_from_is_err_and c.from_residual.result c.from_residual.ensures.1 in
    rw (p.1, p.2) (λ N k given are. c.in_err-goes_on.ensures.taken N k (applied c.args.node c.args.is_regular given [] none_opened true (size_of c.args.size.now) [] nothing_found) c.args.tables.now _ (drop (suc c.loop-argument.argument-index) c.args.arguments.now) (drop-cons c.args.arguments.now c.loop-argument.argument-index _ c.loop-argument-test.true ∙ ap (λ z. z ∷ drop (suc c.loop-argument.argument-index) c.args.arguments.now) (sym c.argument-item.is)) (c.in-Ok-behind.ensures ∙ ap (λ z. c.args.node + z) (left_behind c.args.arguments.now c.loop-argument.argument-index c.loop-argument.left c.loop-argument-test.true c.loop-argument.invariant.2 _ (search rules))) (c.loop-argument.invariant.0 N k given are))

pub apply-returns-in_err-match_all-clause-met : goal.apply-returns-in_err-match_all-clause-met
apply-returns-in_err-match_all-clause-met t c =
    let p = err_from_is_err_and c.from_residual-in_err-match_all.result c.from_residual-in_err-match_all.ensures.1 in
    rw (p.1, p.2) (λ N k given are. way_end_stop N (types_at c.args.site.now) c.args.node c.args.is_regular (applied c.args.node c.args.is_regular given [] none_opened true (size_of c.args.size.now) [] nothing_found) c.args.tables.now _ _ _ _ (drop_past c.args.arguments.now c.loop-argument.argument-index c.loop-argument-test.false) (c.loop-argument.invariant.0 N k given are) _ _ _ (as_wanted N (types_at c.args.site.now) c.args.node c.args.is_regular _ _ _ _ _ _ _ c.as_slice.ensures (λ ws want σ holds. c.in_err-match_all.ensures.met N k ws want σ holds)) (Is_met _) _ refl)

pub apply-returns-then-not-goes_on-clause-met : goal.apply-returns-then-not-goes_on-clause-met
apply-returns-then-not-goes_on-clause-met t c = λ N k given are. taken_over N (types_at c.args.site.now) c.args.node c.args.is_regular (applied c.args.node c.args.is_regular given [] none_opened true (size_of c.args.size.now) [] nothing_found) c.args.tables.now (drop (suc c.loop-argument.argument-index) c.args.arguments.now) _ _ _ c.in_ok-goes_on.goes_on (search rules) (c.in_ok-goes_on.ensures.taken N k (applied c.args.node c.args.is_regular given [] none_opened true (size_of c.args.size.now) [] nothing_found) c.args.tables.now _ (drop (suc c.loop-argument.argument-index) c.args.arguments.now) (drop-cons c.args.arguments.now c.loop-argument.argument-index _ c.loop-argument-test.true ∙ ap (λ z. z ∷ drop (suc c.loop-argument.argument-index) c.args.arguments.now) (sym c.argument-item.is)) (c.in-Ok-behind.ensures ∙ ap (λ z. c.args.node + z) (left_behind c.args.arguments.now c.loop-argument.argument-index c.loop-argument.left c.loop-argument-test.true c.loop-argument.invariant.2 _ (search rules))) (c.loop-argument.invariant.0 N k given are))

pub apply-loop-argument-preserved : goal.apply-loop-argument-preserved
apply-loop-argument-preserved t c = ((λ N k given are. next_way N (types_at c.args.site.now) c.args.node c.args.is_regular (applied c.args.node c.args.is_regular given [] none_opened true (size_of c.args.size.now) [] nothing_found) c.args.tables.now _ _ _ c.args.arguments.now c.loop-argument.argument-index (taken_on N (types_at c.args.site.now) c.args.node c.args.is_regular (applied c.args.node c.args.is_regular given [] none_opened true (size_of c.args.size.now) [] nothing_found) c.args.tables.now (drop (suc c.loop-argument.argument-index) c.args.arguments.now) _ _ _ c.in_ok-goes_on.goes_on (search rules) (c.in_ok-goes_on.ensures.taken N k (applied c.args.node c.args.is_regular given [] none_opened true (size_of c.args.size.now) [] nothing_found) c.args.tables.now _ (drop (suc c.loop-argument.argument-index) c.args.arguments.now) (drop-cons c.args.arguments.now c.loop-argument.argument-index _ c.loop-argument-test.true ∙ ap (λ z. z ∷ drop (suc c.loop-argument.argument-index) c.args.arguments.now) (sym c.argument-item.is)) (c.in-Ok-behind.ensures ∙ ap (λ z. c.args.node + z) (left_behind c.args.arguments.now c.loop-argument.argument-index c.loop-argument.left c.loop-argument-test.true c.loop-argument.invariant.2 _ (search rules))) (c.loop-argument.invariant.0 N k given are)))), c.in_ok-goes_on.ensures.held, search rules)

pub apply-returns-clause-met : goal.apply-returns-clause-met
apply-returns-clause-met t c = λ N k given are. way_end N (types_at c.args.site.now) c.args.node c.args.is_regular (applied c.args.node c.args.is_regular given [] none_opened true (size_of c.args.size.now) [] nothing_found) c.args.tables.now _ _ _ _ (drop_past c.args.arguments.now c.loop-argument.argument-index c.loop-argument-test.false) (c.loop-argument.invariant.0 N k given are) _ _ _ (as_wanted N (types_at c.args.site.now) c.args.node c.args.is_regular _ _ _ _ _ _ _ c.as_slice.ensures (λ ws want σ holds. c.in_ok-match_all.ensures.met N k ws want σ holds)) _ refl (λ ws φ goes_on u ls σ goes holds. c.in-Ok-conclude.ensures N (types_at c.args.site.now) ws φ goes_on u ls σ goes holds)

pub size_condition-returns-in_err-whole-in-While-clause-sized : goal.size_condition-returns-in_err-whole-in-While-clause-sized
size_condition-returns-in_err-whole-in-While-clause-sized t c =
    let p = err_from_is_err_and c.from_residual.result c.from_residual.ensures.1 in
    rw (p.1, p.2) (λ first e. while_stops (types_at c.args.site.now) c.args.site.now.program c.args.site.now.names.now (turns_of c.args.form.now) _ (ap turns_of c.in-While.is ∙ turns_while _) c.args.at first e _ _ _ _ c.in_err-whole-in-While.ensures.sized)

pub size_condition-returns-in_ok-whole-in-While-clause-sized : goal.size_condition-returns-in_ok-whole-in-While-clause-sized
size_condition-returns-in_ok-whole-in-While-clause-sized t c = λ first e. while_tested (types_at c.args.site.now) c.args.site.now.program c.args.site.now.names.now (turns_of c.args.form.now) _ (ap turns_of c.in-While.is ∙ turns_while _) c.args.at first e _ _ c.in_ok-whole-in-While.whole _ c.in_ok-whole-in-While.ensures.sized

pub size_condition-returns-in_ok-whole-in-While-clause-next : goal.size_condition-returns-in_ok-whole-in-While-clause-next
size_condition-returns-in_ok-whole-in-While-clause-next t c = λ first e. while_next (types_at c.args.site.now) c.args.site.now.program c.args.site.now.names.now (turns_of c.args.form.now) _ (ap turns_of c.in-While.is ∙ turns_while _) c.args.at first e _ c.in_ok-whole-in-While.ensures.next

pub size_condition-returns-in-For-clause-sized : goal.size_condition-returns-in-For-clause-sized
size_condition-returns-in-For-clause-sized t c = λ first e. counted_passed (types_at c.args.site.now) c.args.site.now.program c.args.site.now.names.now (turns_of c.args.form.now) first _ _ (ap turns_of c.in-For.is ∙ turns_counted _ _) _ _

pub size_condition-returns-in-For-clause-next : goal.size_condition-returns-in-For-clause-next
size_condition-returns-in-For-clause-next t c = counted_next (turns_of c.args.form.now) _ _ (ap turns_of c.in-For.is ∙ turns_counted _ _) c.args.at

pub size_condition-returns-in-ForIn-clause-sized : goal.size_condition-returns-in-ForIn-clause-sized
size_condition-returns-in-ForIn-clause-sized t c = λ first e. over_passed (types_at c.args.site.now) c.args.site.now.program c.args.site.now.names.now (turns_of c.args.form.now) first _ _ (ap turns_of c.in-ForIn.is ∙ turns_over _ _) _ _

pub size_condition-returns-in-ForIn-clause-next : goal.size_condition-returns-in-ForIn-clause-next
size_condition-returns-in-ForIn-clause-next t c = over_next (turns_of c.args.form.now) _ _ (ap turns_of c.in-ForIn.is ∙ turns_over _ _) c.args.at

pub size_each-returns-in_err-whole-in-For-clause-sized : goal.size_each-returns-in_err-whole-in-For-clause-sized
size_each-returns-in_err-whole-in-For-clause-sized t c =
    let p = err_from_is_err_and c.from_residual.result c.from_residual.ensures.1 in
    rw (p.1, p.2) (gone_stops (types_at c.args.site.now) c.args.site.now.program c.args.site.now.names.now (turns_of c.args.form.now) c.args.at _ c.in-Ok.first (counted_gone (types_at c.args.site.now) c.args.site.now.program c.args.site.now.names.now _ _ (turns_of c.args.form.now) c.args.at c.in-Ok.first (ap turns_of c.in-For.is ∙ turns_counted _ _) c.in-Ok.ensures) _ _ _ _ c.in_err-whole-in-For.ensures.sized)

pub size_each-returns-in_err-whole-in-ForIn-clause-sized : goal.size_each-returns-in_err-whole-in-ForIn-clause-sized
size_each-returns-in_err-whole-in-ForIn-clause-sized t c =
    let p = err_from_is_err_and c.from_residual-in_err-whole-in-ForIn.result c.from_residual-in_err-whole-in-ForIn.ensures.1 in
    rw (p.1, p.2) (gone_stops (types_at c.args.site.now) c.args.site.now.program c.args.site.now.names.now (turns_of c.args.form.now) c.args.at _ c.in-Ok-after_pattern.first (over_gone (types_at c.args.site.now) c.args.site.now.program c.args.site.now.names.now _ _ (turns_of c.args.form.now) c.args.at c.in-Ok-after_pattern.first (ap turns_of c.in-ForIn.is ∙ turns_over _ _) c.in-Ok-after_pattern.ensures) _ _ _ _ c.in_err-whole-in-ForIn.ensures.sized)

pub size_each-returns-in_ok-whole-in-For-clause-sized : goal.size_each-returns-in_ok-whole-in-For-clause-sized
size_each-returns-in_ok-whole-in-For-clause-sized t c = gone_done (types_at c.args.site.now) c.args.site.now.program c.args.site.now.names.now (turns_of c.args.form.now) c.args.at _ c.in-Ok.first (counted_gone (types_at c.args.site.now) c.args.site.now.program c.args.site.now.names.now _ _ (turns_of c.args.form.now) c.args.at c.in-Ok.first (ap turns_of c.in-For.is ∙ turns_counted _ _) c.in-Ok.ensures) _ _ _ c.in_ok-whole-in-For.whole _ c.in_ok-whole-in-For.ensures.sized (λ N k. c.note_each.ensures.each N k)

pub size_each-returns-in_ok-whole-in-For-clause-next : goal.size_each-returns-in_ok-whole-in-For-clause-next
size_each-returns-in_ok-whole-in-For-clause-next t c =
    let gone = counted_gone (types_at c.args.site.now) c.args.site.now.program c.args.site.now.names.now _ _ (turns_of c.args.form.now) c.args.at c.in-Ok.first (ap turns_of c.in-For.is ∙ turns_counted _ _) c.in-Ok.ensures in
    each_there c.note_each.result _ _ _ c.note_each.ensures.next c.in_ok-whole-in-For.ensures.next gone.ends

pub size_each-returns-in_ok-whole-in-ForIn-clause-sized : goal.size_each-returns-in_ok-whole-in-ForIn-clause-sized
size_each-returns-in_ok-whole-in-ForIn-clause-sized t c = gone_done (types_at c.args.site.now) c.args.site.now.program c.args.site.now.names.now (turns_of c.args.form.now) c.args.at _ c.in-Ok-after_pattern.first (over_gone (types_at c.args.site.now) c.args.site.now.program c.args.site.now.names.now _ _ (turns_of c.args.form.now) c.args.at c.in-Ok-after_pattern.first (ap turns_of c.in-ForIn.is ∙ turns_over _ _) c.in-Ok-after_pattern.ensures) _ _ _ c.in_ok-whole-in-ForIn.whole _ c.in_ok-whole-in-ForIn.ensures.sized (λ N k. c.note_each-in-ForIn.ensures.each N k)

pub size_each-returns-in_ok-whole-in-ForIn-clause-next : goal.size_each-returns-in_ok-whole-in-ForIn-clause-next
size_each-returns-in_ok-whole-in-ForIn-clause-next t c =
    let gone = over_gone (types_at c.args.site.now) c.args.site.now.program c.args.site.now.names.now _ _ (turns_of c.args.form.now) c.args.at c.in-Ok-after_pattern.first (ap turns_of c.in-ForIn.is ∙ turns_over _ _) c.in-Ok-after_pattern.ensures in
    each_there c.note_each-in-ForIn.result _ _ _ c.note_each-in-ForIn.ensures.next c.in_ok-whole-in-ForIn.ensures.next gone.ends

pub size_each-returns-in-While-clause-sized : goal.size_each-returns-in-While-clause-sized
size_each-returns-in-While-clause-sized t c = while_gone (types_at c.args.site.now) c.args.site.now.program c.args.site.now.names.now _ (turns_of c.args.form.now) c.args.at _ _ (ap turns_of c.in-While.is ∙ turns_while _)

pub size_each-returns-in-While-clause-next : goal.size_each-returns-in-While-clause-next
size_each-returns-in-While-clause-next t c = while_ends (turns_of c.args.form.now) _ c.args.at (ap turns_of c.in-While.is ∙ turns_while _)

pub size_turn-returns-in_err-inside-clause-sized : goal.size_turn-returns-in_err-inside-clause-sized
size_turn-returns-in_err-inside-clause-sized t c =
    let p = err_from_is_err_and c.from_residual.result c.from_residual.ensures.1 in
    rw (p.1, p.2) (λ N scope f k within is. enter_stops N (types_at c.args.site.now) c.args.site.now.program k c.args.whole.now c.args.node c.args.at (size_of c.args.first.now) c.args.site.now.names.now scope within f c.in-Ok.carried c.args.tables.now c.in-Ok.ensures.dropped (c.in-Ok.ensures.size N (types_at c.args.site.now)) turn_is _ _ _ (c.in_err-inside.ensures.entered N scope f k within is))

pub size_turn-returns-in_err-body-clause-sized : goal.size_turn-returns-in_err-body-clause-sized
size_turn-returns-in_err-body-clause-sized t c =
    let p = err_from_is_err_and c.from_residual-in_err-body.result c.from_residual-in_err-body.ensures.1 in
    rw (p.1, p.2) (λ N scope f k within is. condition_stops N (types_at c.args.site.now) c.args.site.now.program k c.args.whole.now c.args.node c.args.at (size_of c.args.first.now) c.args.site.now.names.now scope within f c.in-Ok.carried c.args.tables.now c.in-Ok.ensures.dropped (c.in-Ok.ensures.size N (types_at c.args.site.now)) turn_is c.in_ok-inside.inside _ (c.in_ok-inside.ensures.entered N scope f k within is) _ refl _ _ c.args.tables.now _ (c.in_err-body.ensures.sized c.args.at c.requires.begins))

pub size_turn-returns-in_err-given-clause-sized : goal.size_turn-returns-in_err-given-clause-sized
size_turn-returns-in_err-given-clause-sized t c =
    let p = err_from_is_err_and c.from_residual-in_err-given.result c.from_residual-in_err-given.ensures.1 in
    rw (p.1, p.2) (λ N scope f k within is. body_stops N (types_at c.args.site.now) c.args.site.now.program k c.args.whole.now c.args.node c.args.at (size_of c.args.first.now) c.args.site.now.names.now scope within f c.in-Ok.carried c.args.tables.now c.in-Ok.ensures.dropped (c.in-Ok.ensures.size N (types_at c.args.site.now)) turn_is c.in_ok-inside.inside _ (c.in_ok-inside.ensures.entered N scope f k within is) c.in_ok-body.body (c.in_ok-body.ensures.next c.args.at c.requires.begins) _ (c.in_ok-body.ensures.sized c.args.at c.requires.begins) _ _ _ c.in_err-given.ensures.sized)

pub size_turn-returns-clause-sized : goal.size_turn-returns-clause-sized
size_turn-returns-clause-sized t c = λ N scope f k within is. turn_ends N (types_at c.args.site.now) c.args.site.now.program k c.args.whole.now c.args.node c.args.at (size_of c.args.first.now) c.args.site.now.names.now scope within f c.in-Ok.carried c.args.tables.now c.in-Ok.ensures.dropped (c.in-Ok.ensures.size N (types_at c.args.site.now)) turn_is c.in_ok-inside.inside _ (c.in_ok-inside.ensures.entered N scope f k within is) c.in_ok-body.body (c.in_ok-body.ensures.next c.args.at c.requires.begins) _ (c.in_ok-body.ensures.sized c.args.at c.requires.begins) c.in_ok-given.given _ _ c.in-Ok-rename_taken.renamed _ c.in_ok-given.ensures.sized c.in-Ok-rename_taken.ensures (c.end_turn.ensures.turn N (types_at c.args.site.now))

pub size_turn-returns-clause-next : goal.size_turn-returns-clause-next
size_turn-returns-clause-next t c = next_there (λ (z : Turn). z.next) c.end_turn.result _ _ c.end_turn.ensures.next (c.in_ok-given.ensures.next ∙ ap (λ z. z + numbers (term_of c.args.whole.now.body)) (c.in_ok-body.ensures.next c.args.at c.requires.begins))

pub size_turns-loop-turn-init : goal.size_turns-loop-turn-init
size_turns-loop-turn-init t c = λ N scope f k within is. turns_begin N (types_at c.args.site.now) c.args.node (size_of c.args.first.now) (turn_going (types_at c.args.site.now) c.args.whole.now c.args.node c.args.at f N scope) c.args.tables.now _ c.in-Ok.ensures

pub size_turns-returns-in_err-turn-clause-sized : goal.size_turns-returns-in_err-turn-clause-sized
size_turns-returns-in_err-turn-clause-sized t c =
    let p = err_from_is_err_and c.from_residual.result c.from_residual.ensures.1 in
    rw (p.1, p.2) (λ N scope f k within is. turn_stops N (types_at c.args.site.now) c.args.node (size_of c.args.first.now) (turn_going (types_at c.args.site.now) c.args.whole.now c.args.node c.args.at f N scope) c.args.tables.now c.loop-turn.left _ (c.loop-turn.invariant N scope f k within is) (whole_is N) _ _ _ (c.in_err-turn.ensures.sized N scope f k within is))

pub size_turns-returns-in-Some-clause-sized : goal.size_turns-returns-in-Some-clause-sized
size_turns-returns-in-Some-clause-sized t c = λ N scope f k within is. turn_kept N (types_at c.args.site.now) c.args.node (size_of c.args.first.now) (turn_going (types_at c.args.site.now) c.args.whole.now c.args.node c.args.at f N scope) c.args.tables.now c.loop-turn.left _ (c.loop-turn.invariant N scope f k within is) c.in_ok-turn.turn _ (c.in_ok-turn.ensures.sized N scope f k within is) c.in-Some.size c.in-Some.is _ refl

pub size_turns-returns-then-left-eq0-clause-sized : goal.size_turns-returns-then-left-eq0-clause-sized
size_turns-returns-then-left-eq0-clause-sized t c = λ N scope f k within is. turn_last N (types_at c.args.site.now) c.args.node (size_of c.args.first.now) (turn_going (types_at c.args.site.now) c.args.whole.now c.args.node c.args.at f N scope) c.args.tables.now c.loop-turn.left _ (c.loop-turn.invariant N scope f k within is) c.in_ok-turn.turn _ (c.in_ok-turn.ensures.sized N scope f k within is) c.in-None.is c.if-left-eq0.true c.in-Ok-carry.last c.in-Ok-carry.ensures.dropped (c.in-Ok-carry.ensures.size N (types_at c.args.site.now)) _ refl

pub size_turns-loop-turn-preserved : goal.size_turns-loop-turn-preserved
size_turns-loop-turn-preserved t c = λ N scope f k within is. turn_again N (types_at c.args.site.now) c.args.node (size_of c.args.first.now) (turn_going (types_at c.args.site.now) c.args.whole.now c.args.node c.args.at f N scope) c.args.tables.now c.loop-turn.left _ (c.loop-turn.invariant N scope f k within is) c.in_ok-turn.turn _ (c.in_ok-turn.ensures.sized N scope f k within is) c.in-None.is _ (omega (arith, c.if-left-eq0.false))

pub size_loop-returns-in_err-first-clause-sized : goal.size_loop-returns-in_err-first-clause-sized
size_loop-returns-in_err-first-clause-sized t c =
    let p = err_from_is_err_and c.from_residual.result c.from_residual.ensures.1 in
    rw (p.1, p.2) (λ bs. first_stops (types_at c.args.site.now) c.args.site.now.program c.args.site.now.names.now c.args.whole.now bs c.args.node c.in-Ok.value _ c.in-Ok.ensures refl _ (part_is (types_at c.args.site.now)) _ _ _ c.in_err-first.ensures.sized)

pub size_loop-returns-in_err-each-clause-sized : goal.size_loop-returns-in_err-each-clause-sized
size_loop-returns-in_err-each-clause-sized t c =
    let p = err_from_is_err_and c.from_residual-in_err-each.result c.from_residual-in_err-each.ensures.1 in
    rw (p.1, p.2) (λ bs. each_stops (types_at c.args.site.now) c.args.site.now.program c.args.site.now.names.now c.args.whole.now bs c.args.node c.in-Ok.value c.in_ok-first.first.next c.in-Ok.ensures c.in_ok-first.ensures.next _ (part_is (types_at c.args.site.now)) c.in_ok-first.first _ c.in_ok-first.ensures.sized _ _ _ c.in_err-each.ensures.sized)

pub size_loop-returns-in_err-turned-clause-sized : goal.size_loop-returns-in_err-turned-clause-sized
size_loop-returns-in_err-turned-clause-sized t c =
    let p = err_from_is_err_and c.from_residual-in_err-turned.result c.from_residual-in_err-turned.ensures.1 in
    rw (p.1, p.2) (λ bs. turns_stop (types_at c.args.site.now) c.args.site.now.program c.args.site.now.names.now c.args.whole.now bs c.args.node c.in-Ok.value c.in_ok-first.first.next c.in-Ok.ensures c.in_ok-first.ensures.next _ (part_is (types_at c.args.site.now)) c.in_ok-first.first _ c.in_ok-first.ensures.sized c.in_ok-each.each _ c.in_ok-each.ensures.sized _ _ _ (λ N scope f k within is. c.in_err-turned.ensures.sized N scope f k within is))

pub size_loop-returns-clause-sized : goal.size_loop-returns-clause-sized
size_loop-returns-clause-sized t c = λ bs. loop_done (types_at c.args.site.now) c.args.site.now.program c.args.site.now.names.now c.args.whole.now bs c.args.node c.in-Ok.value c.in_ok-first.first.next c.in-Ok.ensures c.in_ok-first.ensures.next _ c.in_ok-first.first _ c.in_ok-first.ensures.sized c.in_ok-each.each _ c.in_ok-each.ensures.sized c.in_ok-turned.turned _ (λ N scope f k within is. c.in_ok-turned.ensures.sized N scope f k within is) _ c.walked.ensures.part

pub size_loop-returns-clause-next : goal.size_loop-returns-clause-next
size_loop-returns-clause-next t c = c.walked.ensures.next ∙ loop_ends c.args.whole.now c.args.node c.in-Ok.value c.in_ok-first.first.next _ c.in-Ok.ensures c.in_ok-first.ensures.next c.in_ok-turned.ensures.next

pub size_wanted-returns-in-Applied : goal.size_wanted-returns-in-Applied
size_wanted-returns-in-Applied t c = λ N k p so. not_wanted N (types_at c.args.site.now) so _ _ _ c.in-Applied.is c.args.node c.args.wanted _

pub size_wanted-returns-in-Waiting : goal.size_wanted-returns-in-Waiting
size_wanted-returns-in-Waiting t c = λ N k p so. lambda_wanted N (types_at c.args.site.now) so c.in-Waiting.exp c.in-Waiting.own c.in-Waiting.names c.in-Waiting.heads c.in-Waiting.is _ _ c.nothing_found-table.ensures c.args.node (size_of c.args.wanted.now) _ _ _ (λ h waits σ holds. c.size_lambda.ensures.sized N k h waits σ holds)

pub compose-returns-in_err-application : goal.compose-returns-in_err-application
compose-returns-in_err-application t c =
    let p = err_from_is_err_and c.from_residual.result c.from_residual.ensures.1 in
    rw (p.1, p.2) (λ N k f g so also. both_stop N (types_at c.args.site.now) c.args.node c.args.left_first c.args.lambda f g c.in-Ok.size c.in-Ok.ensures _ _ _ _ _ (c.in_err-application.ensures.met N k (f ∷ g ∷ []) (one_each so (one_each also none_each))))

pub compose-returns : goal.compose-returns
compose-returns t c = λ N k f g so also. both_met N (types_at c.args.site.now) c.args.node c.args.left_first c.args.lambda f g c.in-Ok.size c.in-Ok.ensures _ _ _ c.in_ok-application.application _ _ (c.in_ok-application.ensures.met N k (f ∷ g ∷ []) (one_each so (one_each also none_each))) (λ m is. c.note_composed.ensures N (types_at c.args.site.now) m is)

pub close-returns-then-endings-eq0 : goal.close-returns-then-endings-eq0
close-returns-then-endings-eq0 t c = λ N k p so. none_closed N (types_at c.args.site.now) c.args.endings.now c.if-endings-eq0.true p _ _ so

pub close-returns-in_err-whole : goal.close-returns-in_err-whole
close-returns-in_err-whole t c =
    let p = err_from_is_err_and c.from_residual.result c.from_residual.ensures.1 in
    rw (p.1, p.2) (λ N k p so. last_stops N (types_at c.args.site.now) c.args.endings.now _ _ (omega (arith, c.if-endings-eq0.false)) p (Is_part N (types_at c.args.site.now)) _ _ _ _ (c.in_err-whole.ensures N k p so))

pub close-returns-in_err-size : goal.close-returns-in_err-size
close-returns-in_err-size t c =
    let p = err_from_is_err_and c.from_residual-in_err-size.result c.from_residual-in_err-size.ensures.1 in
    rw (p.1, p.2) (λ N k p so. last_escapes N (types_at c.args.site.now) c.args.endings.now _ _ (omega (arith, c.if-endings-eq0.false)) p (Is_part N (types_at c.args.site.now)) _ _ c.in_ok-whole.whole (c.in_ok-whole.ensures N k p so) _ _ c.in_err-size.ensures)

pub close-returns-in_err-outer : goal.close-returns-in_err-outer
close-returns-in_err-outer t c =
    let p = err_from_is_err_and c.from_residual-in_err-outer.result c.from_residual-in_err-outer.ensures.1 in
    rw (p.1, p.2) (λ N k p so. outer_stops N (types_at c.args.site.now) c.args.endings.now _ _ (omega (arith, c.if-endings-eq0.false)) p (Is_part N (types_at c.args.site.now)) _ _ c.in_ok-whole.whole (c.in_ok-whole.ensures N k p so) c.in_ok-size.size c.in_ok-size.ensures _ _ _ (c.in_err-outer.ensures N (types_at c.args.site.now)))

pub close-returns : goal.close-returns
close-returns t c = λ N k p so. outer_done N (types_at c.args.site.now) c.args.endings.now _ _ (omega (arith, c.if-endings-eq0.false)) p (Is_part N (types_at c.args.site.now)) _ _ c.in_ok-whole.whole (c.in_ok-whole.ensures N k p so) c.in_ok-size.size c.in_ok-size.ensures c.in_ok-outer.outer _ _ (λ y e. subst (λ z. Is_part N (types_at c.args.site.now) c.whole_part.result z) (sym e) (c.whole_part.ensures N (types_at c.args.site.now))) (c.in_ok-outer.ensures N (types_at c.args.site.now))

pub open_let-returns-in_err-head-clause-opened : goal.open_let-returns-in_err-head-clause-opened
open_let-returns-in_err-head-clause-opened t c =
    let p = err_from_is_err_and c.from_residual.result c.from_residual.ensures.1 in
    rw (p.1, p.2) (heading_stops (types_at c.args.site.now) c.args.site.now.program c.args.site.now.names.now (row_of c.args.one.now) c.args.node _ _ _ (λ N scope within. c.in_err-head.ensures.entered N (types_at c.args.site.now) scope within))

pub open_let-returns-in_err-whole-clause-opened : goal.open_let-returns-in_err-whole-clause-opened
open_let-returns-in_err-whole-clause-opened t c =
    let p = err_from_is_err_and c.from_residual-in_err-whole.result c.from_residual-in_err-whole.ensures.1 in
    rw (p.1, p.2) (value_stops (types_at c.args.site.now) c.args.site.now.program c.args.site.now.names.now (row_of c.args.one.now) c.args.node _ c.in_ok-head.head (λ N scope within. c.in_ok-head.ensures.entered N (types_at c.args.site.now) scope within) _ _ _ (value_term c.args.one.now) c.in_ok-head.ensures.heads c.in_ok-head.ensures.value _ _ _ c.in_err-whole.ensures.sized)

pub open_let-returns-clause-opened : goal.open_let-returns-clause-opened
open_let-returns-clause-opened t c = value_done (types_at c.args.site.now) c.args.site.now.program c.args.site.now.names.now (row_of c.args.one.now) c.args.node _ c.in_ok-head.head (λ N scope within. c.in_ok-head.ensures.entered N (types_at c.args.site.now) scope within) _ _ _ (value_term c.args.one.now) c.in_ok-head.ensures.heads c.in_ok-head.ensures.value _ c.in_ok-whole.whole _ _ c.in_ok-whole.ensures.sized c.bind_let.ensures.bound

pub open_let-returns-clause-ending : goal.open_let-returns-clause-ending
open_let-returns-clause-ending t c = c.bind_let.ensures.ending (value_ends c.args.one.now c.args.node _ _ c.in_ok-head.ensures.value c.in_ok-whole.ensures.next)

pub open_lets-loop-one-init : goal.open_lets-loop-one-init
open_lets-loop-one-init t c = open_begins (types_at c.args.site.now) c.args.site.now.program c.args.site.now.names.now c.args.row.now c.args.node c.args.tables.now _ c.new-endings.ensures.items

pub open_lets-returns-in_err-bound-clause-opened : goal.open_lets-returns-in_err-bound-clause-opened
open_lets-returns-in_err-bound-clause-opened t c =
    let p = err_from_is_err_and c.from_residual.result c.from_residual.ensures.1 in
    rw (p.1, p.2) (open_stops (types_at c.args.site.now) c.args.site.now.program c.args.site.now.names.now c.args.row.now c.args.node c.args.tables.now c.loop-one.one-index c.loop-one.next _ c.loop-one.endings.items _ c.loop-one.invariant _ c.loop-one-test.true opened_is _ _ c.in_err-bound.ensures.opened)

pub open_lets-loop-one-preserved : goal.open_lets-loop-one-preserved
open_lets-loop-one-preserved t c = open_goes (types_at c.args.site.now) c.args.site.now.program c.args.site.now.names.now c.args.row.now c.args.node c.args.tables.now c.loop-one.one-index c.loop-one.next _ c.loop-one.endings.items _ c.loop-one.invariant _ c.loop-one-test.true c.in_ok-bound.bound _ _ c.in_ok-bound.ensures.opened c.in_ok-bound.ensures.ending c.in-Ok.ensures.items

pub open_lets-returns-clause-opened : goal.open_lets-returns-clause-opened
open_lets-returns-clause-opened t c = open_ends (types_at c.args.site.now) c.args.site.now.program c.args.site.now.names.now c.args.row.now c.args.node c.args.tables.now c.loop-one.one-index c.loop-one.next _ c.loop-one.endings.items _ c.loop-one.invariant c.loop-one-test.false _ refl

pub open_lets-returns-clause-endings : goal.open_lets-returns-clause-endings
open_lets-returns-clause-endings t c = ap (map end_of) c.into_bump_slice.ensures ∙ all_ends (types_at c.args.site.now) c.args.site.now.program c.args.site.now.names.now c.args.row.now c.args.node c.args.tables.now c.loop-one.one-index c.loop-one.next _ c.loop-one.endings.items _ c.loop-one.invariant c.loop-one-test.false

pub open_lets-returns-clause-next : goal.open_lets-returns-clause-next
open_lets-returns-clause-next t c = all_behind (types_at c.args.site.now) c.args.site.now.program c.args.site.now.names.now c.args.row.now c.args.node c.args.tables.now c.loop-one.one-index c.loop-one.next _ c.loop-one.endings.items _ c.loop-one.invariant c.loop-one-test.false

pub size_behind-returns-then-row-eq0-clause-sized : goal.size_behind-returns-then-row-eq0-clause-sized
size_behind-returns-then-row-eq0-clause-sized t c = other_term (types_at c.args.site.now) c.args.site.now.program c.args.site.now.names.now (part_is (types_at c.args.site.now)) _ _ _ _ _ (sym (lets_none c.args.row.now (term_of c.args.body.now) c.if-row-eq0.true)) _ _ c.size_part.ensures.sized

pub size_behind-returns-then-row-eq0-clause-next : goal.size_behind-returns-then-row-eq0-clause-next
size_behind-returns-then-row-eq0-clause-next t c = next_there (λ (w : Walked). w.next) c.size_part.result _ _ c.size_part.ensures.next (ap (λ z. c.args.node + numbers z) (sym (lets_none c.args.row.now (term_of c.args.body.now) c.if-row-eq0.true)))

pub size_behind-returns-in-Some-clause-sized : goal.size_behind-returns-in-Some-clause-sized
size_behind-returns-in-Some-clause-sized t c = other_term (types_at c.args.site.now) c.args.site.now.program c.args.site.now.names.now (part_is (types_at c.args.site.now)) _ _ _ _ _ (sym (lets_composed c.args.row.now _ (term_of c.args.body.now) c.if-row-eq0.false c.in-Some.composed c.in-Some.ensures)) _ _ (c.size_composed.ensures.sized c.args.heads.now)

pub size_behind-returns-in-Some-clause-next : goal.size_behind-returns-in-Some-clause-next
size_behind-returns-in-Some-clause-next t c = next_there (λ (w : Walked). w.next) c.size_composed.result _ _ c.size_composed.ensures.next (ap (λ z. c.args.node + numbers z) (sym (lets_composed c.args.row.now _ (term_of c.args.body.now) c.if-row-eq0.false c.in-Some.composed c.in-Some.ensures)))

pub size_lets-returns-in_err-opened-clause-sized : goal.size_lets-returns-in_err-opened-clause-sized
size_lets-returns-in_err-opened-clause-sized t c =
    let p = err_from_is_err_and c.from_residual.result c.from_residual.ensures.1 in
    rw (p.1, p.2) (split_row (types_at c.args.site.now) c.args.site.now.program c.args.site.now.names.now (part_is (types_at c.args.site.now)) _ _ _ c.args.row.now c.plain_lets-count.result (term_of c.args.body.now) c.args.heads.now c.args.node (lets_stop (types_at c.args.site.now) c.args.site.now.program c.args.site.now.names.now _ _ c.args.heads.now c.args.node c.plain_lets-count.ensures.plain c.args.tables.now (part_is (types_at c.args.site.now)) _ _ _ c.in_err-opened.ensures.opened))

pub size_lets-returns-in_err-behind-clause-sized : goal.size_lets-returns-in_err-behind-clause-sized
size_lets-returns-in_err-behind-clause-sized t c =
    let p = err_from_is_err_and c.from_residual-in_err-behind.result c.from_residual-in_err-behind.ensures.1 in
    rw (p.1, p.2) (split_row (types_at c.args.site.now) c.args.site.now.program c.args.site.now.names.now (part_is (types_at c.args.site.now)) _ _ _ c.args.row.now c.plain_lets-count.result (term_of c.args.body.now) c.args.heads.now c.args.node (behind_stops (types_at c.args.site.now) c.args.site.now.program c.args.site.now.names.now _ _ c.args.heads.now c.args.node c.plain_lets-count.ensures.plain c.args.tables.now c.in_ok-opened.opened _ c.in_ok-opened.ensures.opened (part_is (types_at c.args.site.now)) _ _ _ (other_place (types_at c.args.site.now) c.args.site.now.program c.in_ok-opened.opened.names.now (part_is (types_at c.args.site.now)) _ _ _ _ _ _ _ _ _ (rest_of c.args.row.now c.plain_lets-count.result (term_of c.args.body.now)) c.heads_behind-left.ensures c.in_ok-opened.ensures.next c.in_err-behind.ensures.sized)))

pub size_lets-returns-in_err-part-clause-sized : goal.size_lets-returns-in_err-part-clause-sized
size_lets-returns-in_err-part-clause-sized t c =
    let p = err_from_is_err_and c.from_residual-in_err-part.result c.from_residual-in_err-part.ensures.1 in
    rw (p.1, p.2) (split_row (types_at c.args.site.now) c.args.site.now.program c.args.site.now.names.now (part_is (types_at c.args.site.now)) _ _ _ c.args.row.now c.plain_lets-count.result (term_of c.args.body.now) c.args.heads.now c.args.node (close_stops (types_at c.args.site.now) c.args.site.now.program c.args.site.now.names.now _ _ c.args.heads.now c.args.node c.plain_lets-count.ensures.plain c.args.tables.now c.in_ok-opened.opened _ c.in_ok-opened.ensures.opened c.in_ok-behind.behind _ (other_place (types_at c.args.site.now) c.args.site.now.program c.in_ok-opened.opened.names.now (part_is (types_at c.args.site.now)) _ _ _ _ _ _ _ _ _ (rest_of c.args.row.now c.plain_lets-count.result (term_of c.args.body.now)) c.heads_behind-left.ensures c.in_ok-opened.ensures.next c.in_ok-behind.ensures.sized) (part_is (types_at c.args.site.now)) _ _ _ (λ N k y so. ends_there N (types_at c.args.site.now) _ _ c.in_ok-opened.ensures.endings y _ _ _ (c.in_err-part.ensures N k y so))))

pub size_lets-returns-clause-sized : goal.size_lets-returns-clause-sized
size_lets-returns-clause-sized t c = split_row (types_at c.args.site.now) c.args.site.now.program c.args.site.now.names.now (part_is (types_at c.args.site.now)) _ _ _ c.args.row.now c.plain_lets-count.result (term_of c.args.body.now) c.args.heads.now c.args.node (lets_done (types_at c.args.site.now) c.args.site.now.program c.args.site.now.names.now _ _ c.args.heads.now c.args.node c.plain_lets-count.ensures.plain c.args.tables.now c.in_ok-opened.opened _ c.in_ok-opened.ensures.opened c.in_ok-behind.behind _ (other_place (types_at c.args.site.now) c.args.site.now.program c.in_ok-opened.opened.names.now (part_is (types_at c.args.site.now)) _ _ _ _ _ _ _ _ _ (rest_of c.args.row.now c.plain_lets-count.result (term_of c.args.body.now)) c.heads_behind-left.ensures c.in_ok-opened.ensures.next c.in_ok-behind.ensures.sized) _ _ _ (λ N k y so. ends_there N (types_at c.args.site.now) _ _ c.in_ok-opened.ensures.endings y _ _ _ (c.in_ok-part.ensures N k y so)))

pub size_lets-returns-clause-next : goal.size_lets-returns-clause-next
size_lets-returns-clause-next t c = split_ends c.args.row.now c.plain_lets-count.result (term_of c.args.body.now) c.args.node _ _ c.in_ok-opened.ensures.next c.in_ok-behind.ensures.next

pub size_composed-returns-in_err-left-clause-sized : goal.size_composed-returns-in_err-left-clause-sized
size_composed-returns-in_err-left-clause-sized t c =
    let p = err_from_is_err_and c.from_residual.result c.from_residual.ensures.1 in
    rw (p.1, p.2) (λ bs. left_stops (types_at c.args.site.now) c.args.site.now.program c.args.site.now.names.now (row_of c.args.one.now) (row_of c.args.composed.now.second.now) (term_of c.args.composed.now.lambda.now) c.args.composed.now.left_first bs c.args.node c.in-Ok.first _ _ c.requires.composes (omega (arith, c.in-Ok.ensures)) refl refl _ (part_is (types_at c.args.site.now)) _ _ _ (value_given (types_at c.args.site.now) c.args.site.now.program c.args.site.now.names.now c.args.one.now c.in-Ok.first _ _ _ c.in_err-left.ensures.sized))

pub size_composed-returns-in_err-right-clause-sized : goal.size_composed-returns-in_err-right-clause-sized
size_composed-returns-in_err-right-clause-sized t c =
    let p = err_from_is_err_and c.from_residual-in_err-right.result c.from_residual-in_err-right.ensures.1 in
    rw (p.1, p.2) (λ bs. right_stops (types_at c.args.site.now) c.args.site.now.program c.args.site.now.names.now (row_of c.args.one.now) (row_of c.args.composed.now.second.now) (term_of c.args.composed.now.lambda.now) c.args.composed.now.left_first bs c.args.node c.in-Ok.first c.in-Ok-after.value _ c.requires.composes (omega (arith, c.in-Ok.ensures)) (right_at c.args.one.now c.args.composed.now c.args.node c.in-Ok.first c.in-Ok.ensures c.in_ok-left.left.next c.in-Ok-after.value c.in_ok-left.ensures.next c.in-Ok-after.ensures) refl _ (part_is (types_at c.args.site.now)) c.in_ok-left.left _ (value_given (types_at c.args.site.now) c.args.site.now.program c.args.site.now.names.now c.args.one.now c.in-Ok.first _ _ _ c.in_ok-left.ensures.sized) _ _ _ (value_given (types_at c.args.site.now) c.args.site.now.program c.args.site.now.names.now c.args.composed.now.second.now c.in-Ok-after.value _ _ _ c.in_err-right.ensures.sized))

pub size_composed-returns-in_err-size-clause-sized : goal.size_composed-returns-in_err-size-clause-sized
size_composed-returns-in_err-size-clause-sized t c =
    let p = err_from_is_err_and c.from_residual-in_err-size.result c.from_residual-in_err-size.ensures.1 in
    rw (p.1, p.2) (λ bs. met_stops (types_at c.args.site.now) c.args.site.now.program c.args.site.now.names.now (row_of c.args.one.now) (row_of c.args.composed.now.second.now) (term_of c.args.composed.now.lambda.now) c.args.composed.now.left_first bs c.args.node c.in-Ok.first c.in-Ok-after.value c.in_ok-right.right.next c.requires.composes (omega (arith, c.in-Ok.ensures)) (right_at c.args.one.now c.args.composed.now c.args.node c.in-Ok.first c.in-Ok.ensures c.in_ok-left.left.next c.in-Ok-after.value c.in_ok-left.ensures.next c.in-Ok-after.ensures) (lambda_there c.args.one.now c.args.composed.now c.args.node c.in-Ok.first c.in-Ok.ensures c.in_ok-left.left.next c.in-Ok-after.value c.in_ok-left.ensures.next c.in-Ok-after.ensures c.in_ok-right.right.next c.in_ok-right.ensures.next) _ (part_is (types_at c.args.site.now)) c.in_ok-left.left _ (value_given (types_at c.args.site.now) c.args.site.now.program c.args.site.now.names.now c.args.one.now c.in-Ok.first _ _ _ c.in_ok-left.ensures.sized) c.in_ok-right.right _ (value_given (types_at c.args.site.now) c.args.site.now.program c.args.site.now.names.now c.args.composed.now.second.now c.in-Ok-after.value _ _ _ c.in_ok-right.ensures.sized) _ _ _ (λ N k f g so also. c.in_err-size.ensures N k f g so also))

pub size_composed-returns-in_err-names-clause-sized : goal.size_composed-returns-in_err-names-clause-sized
size_composed-returns-in_err-names-clause-sized t c =
    let p = err_from_is_err_and c.from_residual-in_err-names.result c.from_residual-in_err-names.ensures.1 in
    rw (p.1, p.2) (λ bs. entering_stops (types_at c.args.site.now) c.args.site.now.program c.args.site.now.names.now (row_of c.args.one.now) (row_of c.args.composed.now.second.now) (term_of c.args.composed.now.lambda.now) c.args.composed.now.left_first bs c.args.node c.in-Ok.first c.in-Ok-after.value c.in_ok-right.right.next c.requires.composes (omega (arith, c.in-Ok.ensures)) (right_at c.args.one.now c.args.composed.now c.args.node c.in-Ok.first c.in-Ok.ensures c.in_ok-left.left.next c.in-Ok-after.value c.in_ok-left.ensures.next c.in-Ok-after.ensures) (lambda_there c.args.one.now c.args.composed.now c.args.node c.in-Ok.first c.in-Ok.ensures c.in_ok-left.left.next c.in-Ok-after.value c.in_ok-left.ensures.next c.in-Ok-after.ensures c.in_ok-right.right.next c.in_ok-right.ensures.next) _ (part_is (types_at c.args.site.now)) c.in_ok-left.left _ (value_given (types_at c.args.site.now) c.args.site.now.program c.args.site.now.names.now c.args.one.now c.in-Ok.first _ _ _ c.in_ok-left.ensures.sized) c.in_ok-right.right _ (value_given (types_at c.args.site.now) c.args.site.now.program c.args.site.now.names.now c.args.composed.now.second.now c.in-Ok-after.value _ _ _ c.in_ok-right.ensures.sized) c.in_ok-size.size _ (λ N k f g so also. c.in_ok-size.ensures N k f g so also) _ _ _ (c.in_err-names.ensures (second_there c.args.one.now c.args.composed.now c.args.node c.in-Ok.first c.in-Ok.ensures c.in_ok-left.left.next c.in_ok-left.ensures.next)))

pub size_composed-returns-in_err-lambda-clause-sized : goal.size_composed-returns-in_err-lambda-clause-sized
size_composed-returns-in_err-lambda-clause-sized t c =
    let p = err_from_is_err_and c.from_residual-in_err-lambda.result c.from_residual-in_err-lambda.ensures.1 in
    rw (p.1, p.2) (λ bs. lambda_stops (types_at c.args.site.now) c.args.site.now.program c.args.site.now.names.now (row_of c.args.one.now) (row_of c.args.composed.now.second.now) (term_of c.args.composed.now.lambda.now) c.args.composed.now.left_first bs c.args.node c.in-Ok.first c.in-Ok-after.value c.in_ok-right.right.next c.requires.composes (omega (arith, c.in-Ok.ensures)) (right_at c.args.one.now c.args.composed.now c.args.node c.in-Ok.first c.in-Ok.ensures c.in_ok-left.left.next c.in-Ok-after.value c.in_ok-left.ensures.next c.in-Ok-after.ensures) (lambda_there c.args.one.now c.args.composed.now c.args.node c.in-Ok.first c.in-Ok.ensures c.in_ok-left.left.next c.in-Ok-after.value c.in_ok-left.ensures.next c.in-Ok-after.ensures c.in_ok-right.right.next c.in_ok-right.ensures.next) _ (part_is (types_at c.args.site.now)) c.in_ok-left.left _ (value_given (types_at c.args.site.now) c.args.site.now.program c.args.site.now.names.now c.args.one.now c.in-Ok.first _ _ _ c.in_ok-left.ensures.sized) c.in_ok-right.right _ (value_given (types_at c.args.site.now) c.args.site.now.program c.args.site.now.names.now c.args.composed.now.second.now c.in-Ok-after.value _ _ _ c.in_ok-right.ensures.sized) c.in_ok-size.size _ (λ N k f g so also. c.in_ok-size.ensures N k f g so also) c.in_ok-names.names _ (c.in_ok-names.ensures (second_there c.args.one.now c.args.composed.now c.args.node c.in-Ok.first c.in-Ok.ensures c.in_ok-left.left.next c.in_ok-left.ensures.next)) _ _ _ c.in_err-lambda.ensures.sized)

pub size_composed-returns-in_err-given-clause-sized : goal.size_composed-returns-in_err-given-clause-sized
size_composed-returns-in_err-given-clause-sized t c =
    let p = err_from_is_err_and c.from_residual-in_err-given.result c.from_residual-in_err-given.ensures.1 in
    rw (p.1, p.2) (λ bs. wanted_stops (types_at c.args.site.now) c.args.site.now.program c.args.site.now.names.now (row_of c.args.one.now) (row_of c.args.composed.now.second.now) (term_of c.args.composed.now.lambda.now) c.args.composed.now.left_first bs c.args.node c.in-Ok.first c.in-Ok-after.value c.in_ok-right.right.next c.requires.composes (omega (arith, c.in-Ok.ensures)) (right_at c.args.one.now c.args.composed.now c.args.node c.in-Ok.first c.in-Ok.ensures c.in_ok-left.left.next c.in-Ok-after.value c.in_ok-left.ensures.next c.in-Ok-after.ensures) (lambda_there c.args.one.now c.args.composed.now c.args.node c.in-Ok.first c.in-Ok.ensures c.in_ok-left.left.next c.in-Ok-after.value c.in_ok-left.ensures.next c.in-Ok-after.ensures c.in_ok-right.right.next c.in_ok-right.ensures.next) _ (part_is (types_at c.args.site.now)) c.in_ok-left.left _ (value_given (types_at c.args.site.now) c.args.site.now.program c.args.site.now.names.now c.args.one.now c.in-Ok.first _ _ _ c.in_ok-left.ensures.sized) c.in_ok-right.right _ (value_given (types_at c.args.site.now) c.args.site.now.program c.args.site.now.names.now c.args.composed.now.second.now c.in-Ok-after.value _ _ _ c.in_ok-right.ensures.sized) c.in_ok-size.size _ (λ N k f g so also. c.in_ok-size.ensures N k f g so also) c.in_ok-names.names _ (c.in_ok-names.ensures (second_there c.args.one.now c.args.composed.now c.args.node c.in-Ok.first c.in-Ok.ensures c.in_ok-left.left.next c.in_ok-left.ensures.next)) c.in_ok-lambda.lambda _ c.in_ok-lambda.ensures.sized _ _ _ (λ N k y so. c.in_err-given.ensures N k y so))

pub size_composed-returns-in_err-note-clause-sized : goal.size_composed-returns-in_err-note-clause-sized
size_composed-returns-in_err-note-clause-sized t c =
    let p = err_from_is_err_and c.from_residual-in_err-note.result c.from_residual-in_err-note.ensures.1 in
    rw (p.1, p.2) (λ bs. wanted_then (types_at c.args.site.now) c.args.site.now.program c.args.site.now.names.now (row_of c.args.one.now) (row_of c.args.composed.now.second.now) (term_of c.args.composed.now.lambda.now) c.args.composed.now.left_first bs c.args.node c.in-Ok.first c.in-Ok-after.value c.in_ok-right.right.next c.requires.composes (omega (arith, c.in-Ok.ensures)) (right_at c.args.one.now c.args.composed.now c.args.node c.in-Ok.first c.in-Ok.ensures c.in_ok-left.left.next c.in-Ok-after.value c.in_ok-left.ensures.next c.in-Ok-after.ensures) (lambda_there c.args.one.now c.args.composed.now c.args.node c.in-Ok.first c.in-Ok.ensures c.in_ok-left.left.next c.in-Ok-after.value c.in_ok-left.ensures.next c.in-Ok-after.ensures c.in_ok-right.right.next c.in_ok-right.ensures.next) _ (part_is (types_at c.args.site.now)) c.in_ok-left.left _ (value_given (types_at c.args.site.now) c.args.site.now.program c.args.site.now.names.now c.args.one.now c.in-Ok.first _ _ _ c.in_ok-left.ensures.sized) c.in_ok-right.right _ (value_given (types_at c.args.site.now) c.args.site.now.program c.args.site.now.names.now c.args.composed.now.second.now c.in-Ok-after.value _ _ _ c.in_ok-right.ensures.sized) c.in_ok-size.size _ (λ N k f g so also. c.in_ok-size.ensures N k f g so also) c.in_ok-names.names _ (c.in_ok-names.ensures (second_there c.args.one.now c.args.composed.now c.args.node c.in-Ok.first c.in-Ok.ensures c.in_ok-left.left.next c.in_ok-left.ensures.next)) c.in_ok-lambda.lambda _ c.in_ok-lambda.ensures.sized c.in_ok-given.given _ _ _ (λ N k y so. c.in_ok-given.ensures N k y so) (λ N. noted_stops _ _ (second_there c.args.one.now c.args.composed.now c.args.node c.in-Ok.first c.in-Ok.ensures c.in_ok-left.left.next c.in_ok-left.ensures.next) c.in_ok-given.given _ _ (part_is (types_at c.args.site.now) N) _ _ c.in_err-note.ensures))

pub size_composed-returns-clause-sized : goal.size_composed-returns-clause-sized
size_composed-returns-clause-sized t c = λ bs. wanted_then (types_at c.args.site.now) c.args.site.now.program c.args.site.now.names.now (row_of c.args.one.now) (row_of c.args.composed.now.second.now) (term_of c.args.composed.now.lambda.now) c.args.composed.now.left_first bs c.args.node c.in-Ok.first c.in-Ok-after.value c.in_ok-right.right.next c.requires.composes (omega (arith, c.in-Ok.ensures)) (right_at c.args.one.now c.args.composed.now c.args.node c.in-Ok.first c.in-Ok.ensures c.in_ok-left.left.next c.in-Ok-after.value c.in_ok-left.ensures.next c.in-Ok-after.ensures) (lambda_there c.args.one.now c.args.composed.now c.args.node c.in-Ok.first c.in-Ok.ensures c.in_ok-left.left.next c.in-Ok-after.value c.in_ok-left.ensures.next c.in-Ok-after.ensures c.in_ok-right.right.next c.in_ok-right.ensures.next) _ (part_is (types_at c.args.site.now)) c.in_ok-left.left _ (value_given (types_at c.args.site.now) c.args.site.now.program c.args.site.now.names.now c.args.one.now c.in-Ok.first _ _ _ c.in_ok-left.ensures.sized) c.in_ok-right.right _ (value_given (types_at c.args.site.now) c.args.site.now.program c.args.site.now.names.now c.args.composed.now.second.now c.in-Ok-after.value _ _ _ c.in_ok-right.ensures.sized) c.in_ok-size.size _ (λ N k f g so also. c.in_ok-size.ensures N k f g so also) c.in_ok-names.names _ (c.in_ok-names.ensures (second_there c.args.one.now c.args.composed.now c.args.node c.in-Ok.first c.in-Ok.ensures c.in_ok-left.left.next c.in_ok-left.ensures.next)) c.in_ok-lambda.lambda _ c.in_ok-lambda.ensures.sized c.in_ok-given.given _ _ _ (λ N k y so. c.in_ok-given.ensures N k y so) (λ N. noted_done _ _ (second_there c.args.one.now c.args.composed.now c.args.node c.in-Ok.first c.in-Ok.ensures c.in_ok-left.left.next c.in_ok-left.ensures.next) c.in_ok-given.given _ _ N (types_at c.args.site.now) _ _ c.walked.ensures.part c.in_ok-note.ensures)

pub size_composed-returns-clause-next : goal.size_composed-returns-clause-next
size_composed-returns-clause-next t c = c.walked.ensures.next ∙ composed_ends c.args.one.now c.args.composed.now c.args.node c.in-Ok.first c.in-Ok.ensures c.in_ok-left.left.next c.in-Ok-after.value c.in_ok-left.ensures.next c.in-Ok-after.ensures c.in_ok-right.right.next c.in_ok-right.ensures.next c.requires.composes _ c.in_ok-lambda.ensures.next
