use Rattle.std.proofs.Common.{◌≡◌, ◌≤◌, ◌<◌, ◌+◌, ◌++◌, List, [], ◌∷◌, map, take, slice_index_or, subst, sym, ◌∙◌, ap, refl, arith}
use Rattle.fut_flat.specs.Numbers.{numbers, all_numbers}
use Rattle.fut_flat.specs.Erased.{FlatPattern, FlatTerm, operation_of, parameters, term_of, terms}
use Rattle.type_schemes.specs.Uses.{type_numbers}
use Rattle.type_constraints.proofs.Definitions.{definition_err3, definition_ok, definition_own, definition_root, definition_sound, definition_unruled, function_err, function_ok, function_refused, no_record, no_sizes, no_tuple, no_typed, no_wild, row_numbers}
use Rattle.fut_flat.proofs.ErasedForms.{term_use, term_strict, term_apply, term_if, term_lambda, term_lets}
use Rattle.fut_typing.proofs.Ranges.{numbers_some, own_some, pattern_some}
use Rattle.fut_flat.proofs.ErasedPatterns.{pattern_bound, pattern_tuple, pattern_typed, pattern_wild}
use Rattle.fut_typing.specs.Typing.{Function_name}
use Rattle.type_rules.proofs.Adding.{tells, on_ok, if_err}
use Rattle.type_constraints.proofs.Ends.{end_both, end_err, end_next, end_ok, end_three}
use Rattle.type_constraints.proofs.Forms.{apply_ruled, apply_unruled, refused_apply, if_ruled, if_unruled, refused_if, refused_if2, below_two, below_four}
use Rattle.type_constraints.proofs.Rows.{gone_none, gone_more, gone_refused, falls_in, room_in, take_more, at_place, starts_below, Gone_over, strict_ok, refused_strict, strict_err2}
use Rattle.fut_flat.specs.declared.exp.Exp.{Exp}
use Rattle.type_graph.specs.Graph.{Each}
use Rattle.type_constraints.specs.Parts.{starts, pattern_starts, Terms_claim, Terms_homes}
use Rattle.type_constraints.proofs.Functions.{lambda_ok, lambda_safe, lambda_err1, lambda_err2, lambda_err3, starts_below as pattern_starts_below}
use Rattle.fut_flat.specs.Numbers.{all_pattern_numbers}
use Rattle.fut_flat.specs.Erased.{Row, pattern_of, patterns}
use Rattle.fut_flat.proofs.ErasedForms.{row_of}
use Rattle.fut_typing.specs.Rows.{behind, behind_all, env_rows}
use Rattle.type_scopes.specs.Scopes.{Claimed, Opened}
use Rattle.type_scopes.proofs.Binding.{if_ok as ok_also, record_is, take_all}
use Rattle.type_constraints.specs.Parts.{Rows_claim, Rows_homes}
use Rattle.type_constraints.proofs.Lets.{Lets_open, lets_asked, lets_err1, lets_more, lets_none, lets_refused, lets_ruled, lets_unruled, numbers_lets, behind_from, some_rows, row_falls, row_more, row_room, row_same, row_split, value_is}
use Rattle.type_constraints.proofs.Values.{pattern_claimed, value_err1, value_ok, value_ruled, value_unruled, same_within, same_says, same_allowed}
use Rattle.type_rules.specs.declared.demand.Demand.TheVariants as demand
use Rattle.fut_flat.specs.Numbers.{pattern_numbers}
use Rattle.fut_flat.specs.Numbers.{turn_numbers}
use Rattle.fut_flat.specs.Erased.{FlatTurns}
use Rattle.fut_flat.proofs.ErasedForms.{loop_is, turns_of, turns_counted, turns_over, turns_while, term_loop}
use Rattle.type_constraints.specs.Parts.{behind_first, behind_head, Constrained, Unconstrained}
use Rattle.type_constraints.proofs.Loops.{loop_err1, loop_ruled, loop_unruled, while_err1, while_ruled, while_unruled, truth_within, counted_err1, counted_ruled, counted_unruled}
use Rattle.type_constraints.proofs.Overs.{two_claimed, over_err1, over_err2, over_ruled, over_unruled}
use mathlib.Core.Logic.{inl, inr}
use Rattle.type_constraints.proofs.expressions.+constrain.Goals as goal

pub constrain-constrain_use-requires-clause-room : goal.constrain-constrain_use-requires-clause-room
constrain-constrain_use-requires-clause-room t c = subst (λ (x : FlatTerm). c.args.lo + numbers x ≤ c.args.setting.base) (term_use c.args.exp.now c.in-Use.reference c.in-Use.before c.in-Use.is) c.requires.room

pub constrain-returns-in-Use : goal.constrain-returns-in-Use
constrain-returns-in-Use t c = record { next = rw (term_use c.args.exp.now c.in-Use.reference c.in-Use.before c.in-Use.is) c.constrain_use.ensures.next; ok = rw (term_use c.args.exp.now c.in-Use.reference c.in-Use.before c.in-Use.is) c.constrain_use.ensures.ok; err = rw (term_use c.args.exp.now c.in-Use.reference c.in-Use.before c.in-Use.is) c.constrain_use.ensures.err }

pub constrain-constrain_strict-requires : goal.constrain-constrain_strict-requires
constrain-constrain_strict-requires t c = let e = ap (λ (x : FlatTerm). numbers x) (term_strict c.args.exp.now c.in-Strict.act c.in-Strict.mark c.in-Strict.parts c.in-Strict.is) in (omega (arith, e), (c.requires.safe, subst (λ (x : FlatTerm). c.args.lo + numbers x ≤ c.args.setting.base) (term_strict c.args.exp.now c.in-Strict.act c.in-Strict.mark c.in-Strict.parts c.in-Strict.is) c.requires.room))

pub constrain-returns-in-Strict : goal.constrain-returns-in-Strict
constrain-returns-in-Strict t c = record { next = rw (term_strict c.args.exp.now c.in-Strict.act c.in-Strict.mark c.in-Strict.parts c.in-Strict.is) c.constrain_strict.ensures.next; ok = rw (term_strict c.args.exp.now c.in-Strict.act c.in-Strict.mark c.in-Strict.parts c.in-Strict.is) c.constrain_strict.ensures.ok; err = rw (term_strict c.args.exp.now c.in-Strict.act c.in-Strict.mark c.in-Strict.parts c.in-Strict.is) c.constrain_strict.ensures.err }

pub constrain-constrain_apply-requires : goal.constrain-constrain_apply-requires
constrain-constrain_apply-requires t c = let e = ap (λ (x : FlatTerm). numbers x) (term_apply c.args.exp.now c.in-Apply.function c.in-Apply.argument c.in-Apply.is) in (omega (arith, e), (c.requires.safe, subst (λ (x : FlatTerm). c.args.lo + numbers x ≤ c.args.setting.base) (term_apply c.args.exp.now c.in-Apply.function c.in-Apply.argument c.in-Apply.is) c.requires.room))

pub constrain-returns-in-Apply : goal.constrain-returns-in-Apply
constrain-returns-in-Apply t c = record { next = rw (term_apply c.args.exp.now c.in-Apply.function c.in-Apply.argument c.in-Apply.is) c.constrain_apply.ensures.next; ok = rw (term_apply c.args.exp.now c.in-Apply.function c.in-Apply.argument c.in-Apply.is) c.constrain_apply.ensures.ok; err = rw (term_apply c.args.exp.now c.in-Apply.function c.in-Apply.argument c.in-Apply.is) c.constrain_apply.ensures.err }

pub constrain-constrain_if-requires : goal.constrain-constrain_if-requires
constrain-constrain_if-requires t c = let e = ap (λ (x : FlatTerm). numbers x) (term_if c.args.exp.now c.in-If.test c.in-If.yes c.in-If.no c.in-If.is) in (omega (arith, e), (c.requires.safe, subst (λ (x : FlatTerm). c.args.lo + numbers x ≤ c.args.setting.base) (term_if c.args.exp.now c.in-If.test c.in-If.yes c.in-If.no c.in-If.is) c.requires.room))

pub constrain-returns-in-If : goal.constrain-returns-in-If
constrain-returns-in-If t c = record { next = rw (term_if c.args.exp.now c.in-If.test c.in-If.yes c.in-If.no c.in-If.is) c.constrain_if.ensures.next; ok = rw (term_if c.args.exp.now c.in-If.test c.in-If.yes c.in-If.no c.in-If.is) c.constrain_if.ensures.ok; err = rw (term_if c.args.exp.now c.in-If.test c.in-If.yes c.in-If.no c.in-If.is) c.constrain_if.ensures.err }

pub constrain-constrain_lets-requires : goal.constrain-constrain_lets-requires
constrain-constrain_lets-requires t c = let e = ap (λ (x : FlatTerm). numbers x) (term_lets c.args.exp.now c.in-Lets.lets c.in-Lets.body c.in-Lets.is) in (omega (arith, e), (c.requires.safe, subst (λ (x : FlatTerm). c.args.lo + numbers x ≤ c.args.setting.base) (term_lets c.args.exp.now c.in-Lets.lets c.in-Lets.body c.in-Lets.is) c.requires.room))

pub constrain-returns-in-Lets : goal.constrain-returns-in-Lets
constrain-returns-in-Lets t c = record { next = rw (term_lets c.args.exp.now c.in-Lets.lets c.in-Lets.body c.in-Lets.is) c.constrain_lets.ensures.next; ok = rw (term_lets c.args.exp.now c.in-Lets.lets c.in-Lets.body c.in-Lets.is) c.constrain_lets.ensures.ok; err = rw (term_lets c.args.exp.now c.in-Lets.lets c.in-Lets.body c.in-Lets.is) c.constrain_lets.ensures.err }

pub constrain-constrain_lambda-requires : goal.constrain-constrain_lambda-requires
constrain-constrain_lambda-requires t c = let e = ap (λ (x : FlatTerm). numbers x) (term_lambda c.args.exp.now c.in-Lambda.params c.in-Lambda.body c.in-Lambda.is) in (omega (arith, e), (c.requires.safe, subst (λ (x : FlatTerm). c.args.lo + numbers x ≤ c.args.setting.base) (term_lambda c.args.exp.now c.in-Lambda.params c.in-Lambda.body c.in-Lambda.is) c.requires.room))

pub constrain-returns-in-Lambda : goal.constrain-returns-in-Lambda
constrain-returns-in-Lambda t c = record { next = rw (term_lambda c.args.exp.now c.in-Lambda.params c.in-Lambda.body c.in-Lambda.is) c.constrain_lambda.ensures.next; ok = rw (term_lambda c.args.exp.now c.in-Lambda.params c.in-Lambda.body c.in-Lambda.is) c.constrain_lambda.ensures.ok; err = rw (term_lambda c.args.exp.now c.in-Lambda.params c.in-Lambda.body c.in-Lambda.is) c.constrain_lambda.ensures.err }

pub constrain_ruled-returns-in-Err : goal.constrain_ruled-returns-in-Err
constrain_ruled-returns-in-Err t c = record { next = tt; ok = tt; err = tells c.in-Err.error (λ u. inl u) c.in-Err.ensures.err }

pub constrain_ruled-demand-requires : goal.constrain_ruled-demand-requires
constrain_ruled-demand-requires t c = record { safe = c.in-Ok.ensures.ok.later.safe; within = (c.requires.within _) }

pub constrain_ruled-returns : goal.constrain_ruled-returns
constrain_ruled-returns t c = record { next = rw c.and.ensures (end_next _ c.demand.result c.in-Ok.next (c.in-Ok.ensures.next)); ok = rw c.and.ensures (end_ok c.demand.result c.in-Ok.next (λ r. (c.constrain.new.inference, (c.in-Ok.ensures.ok, r))) c.demand.ensures.ok); err = rw c.and.ensures (end_err c.demand.result c.in-Ok.next (λ r. inr (c.constrain.new.inference, (c.in-Ok.ensures.ok, r))) c.demand.ensures.err) }

pub constrain_apply-returns-in-Err : goal.constrain_apply-returns-in-Err
constrain_apply-returns-in-Err t c = record { next = tt; ok = tt; err = tells c.in-Err.error (refused_apply c.args.setting.places c.args.setting.base c.args.setting.depth c.args.lo (term_of c.args.function.now) (term_of c.args.argument.now) c.args.inference.now c.constrain.new.inference) c.in-Err.ensures.err }

pub constrain_apply-constrain_ruled-requires : goal.constrain_apply-constrain_ruled-requires
constrain_apply-constrain_ruled-requires t c = (omega arith, (c.in-Ok.ensures.ok.later.safe, (omega (arith, c.requires.room, c.in-Ok.ensures.next), λ table. c.application-rule.ensures.within table c.args.setting.base (below_two c.args.setting.base _ _ _ (omega (arith, c.requires.room)) (omega (arith, c.requires.room, numbers_some (term_of c.args.function.now), numbers_some (term_of c.args.argument.now))) (omega (arith, c.requires.room, c.in-Ok.ensures.next, numbers_some (term_of c.args.argument.now)))))))

pub constrain_apply-returns : goal.constrain_apply-returns
constrain_apply-returns t c = record { next = ok_also c.constrain_ruled.result (λ n e. omega (arith, e, c.in-Ok.ensures.next)) c.constrain_ruled.ensures.next; ok = on_ok c.constrain_ruled.result (apply_ruled c.args.setting.places c.args.setting.base c.args.setting.depth c.args.lo c.in-Ok.next (term_of c.args.function.now) (term_of c.args.argument.now) c.args.inference.now c.constrain.new.inference c.constrain_ruled.new.inference c.requires.safe c.in-Ok.ensures.next c.application-rule.result c.application-rule.ensures.says c.application-rule.ensures.allowed c.in-Ok.ensures.ok) c.constrain_ruled.ensures.ok; err = if_err c.constrain_ruled.result (apply_unruled c.args.setting.places c.args.setting.base c.args.setting.depth c.args.lo c.in-Ok.next (term_of c.args.function.now) (term_of c.args.argument.now) c.args.inference.now c.constrain.new.inference c.constrain_ruled.new.inference c.requires.safe c.in-Ok.ensures.next c.application-rule.result c.application-rule.ensures.says c.application-rule.ensures.allowed c.in-Ok.ensures.ok) c.constrain_ruled.ensures.err }

pub constrain_if-returns-in-Err : goal.constrain_if-returns-in-Err
constrain_if-returns-in-Err t c = record { next = tt; ok = tt; err = tells c.in-Err.error (refused_if c.args.setting.places c.args.setting.base c.args.setting.depth c.args.lo (term_of c.args.test.now) (term_of c.args.yes.now) (term_of c.args.no.now) c.args.inference.now c.constrain.new.inference) c.in-Err.ensures.err }

pub constrain_if-returns-in-Err-constrain : goal.constrain_if-returns-in-Err-constrain
constrain_if-returns-in-Err-constrain t c = record { next = tt; ok = tt; err = tells c.in-Err-constrain.error (refused_if2 c.args.setting.places c.args.setting.base c.args.setting.depth c.args.lo c.in-Ok.next (term_of c.args.test.now) (term_of c.args.yes.now) (term_of c.args.no.now) c.args.inference.now c.constrain.new.inference c.constrain-2.new.inference c.requires.safe c.in-Ok.ensures.next c.in-Ok.ensures.ok) c.in-Err-constrain.ensures.err }

pub constrain_if-constrain-requires-2 : goal.constrain_if-constrain-requires-2
constrain_if-constrain-requires-2 t c = (omega arith, (c.in-Ok.ensures.ok.later.safe, omega (arith, c.requires.room, c.in-Ok.ensures.next)))

pub constrain_if-constrain_ruled-requires : goal.constrain_if-constrain_ruled-requires
constrain_if-constrain_ruled-requires t c = (omega arith, (c.in-Ok-constrain.ensures.ok.later.safe, (omega (arith, c.requires.room, c.in-Ok.ensures.next, c.in-Ok-constrain.ensures.next), λ table. c.choice-rule.ensures.within table c.args.setting.base (below_four c.args.setting.base _ _ _ _ (omega (arith, c.requires.room)) (omega (arith, c.requires.room, numbers_some (term_of c.args.test.now))) (omega (arith, c.requires.room, c.in-Ok.ensures.next, numbers_some (term_of c.args.yes.now))) (omega (arith, c.requires.room, c.in-Ok.ensures.next, c.in-Ok-constrain.ensures.next, numbers_some (term_of c.args.no.now)))))))

pub constrain_if-returns : goal.constrain_if-returns
constrain_if-returns t c = record { next = ok_also c.constrain_ruled.result (λ n e. omega (arith, e, c.in-Ok.ensures.next, c.in-Ok-constrain.ensures.next)) c.constrain_ruled.ensures.next; ok = on_ok c.constrain_ruled.result (if_ruled c.args.setting.places c.args.setting.base c.args.setting.depth c.args.lo c.in-Ok.next c.in-Ok-constrain.next (term_of c.args.test.now) (term_of c.args.yes.now) (term_of c.args.no.now) c.args.inference.now c.constrain.new.inference c.constrain-2.new.inference c.constrain_ruled.new.inference c.requires.safe c.in-Ok.ensures.next (c.in-Ok-constrain.ensures.next ∙ ap (λ m. m + numbers (term_of c.args.yes.now)) c.in-Ok.ensures.next) c.choice-rule.result c.choice-rule.ensures.says c.choice-rule.ensures.allowed c.in-Ok.ensures.ok c.in-Ok-constrain.ensures.ok) c.constrain_ruled.ensures.ok; err = if_err c.constrain_ruled.result (if_unruled c.args.setting.places c.args.setting.base c.args.setting.depth c.args.lo c.in-Ok.next c.in-Ok-constrain.next (term_of c.args.test.now) (term_of c.args.yes.now) (term_of c.args.no.now) c.args.inference.now c.constrain.new.inference c.constrain-2.new.inference c.constrain_ruled.new.inference c.requires.safe c.in-Ok.ensures.next (c.in-Ok-constrain.ensures.next ∙ ap (λ m. m + numbers (term_of c.args.yes.now)) c.in-Ok.ensures.next) c.choice-rule.result c.choice-rule.ensures.says c.choice-rule.ensures.allowed c.in-Ok.ensures.ok c.in-Ok-constrain.ensures.ok) c.constrain_ruled.ensures.err }

pub constrain_parts-loop-part-init : goal.constrain_parts-loop-part-init
constrain_parts-loop-part-init t c = gone_none c.args.setting.places c.args.setting.base c.args.setting.depth c.args.lo c.args.begins.now c.args.inference.now c.requires.safe

pub constrain_parts-constrain-requires : goal.constrain_parts-constrain-requires
constrain_parts-constrain-requires t c = (falls_in c.args.parts.now c.loop-part.part-index _ t c.loop-part-test.true (omega arith), (c.loop-part.invariant.claimed.later.safe, room_in c.args.parts.now c.loop-part.part-index _ c.args.lo c.loop-part.at c.args.setting.base c.loop-part-test.true c.loop-part.invariant.next c.requires.room))

pub constrain_parts-returns-in-Err-constrain : goal.constrain_parts-returns-in-Err-constrain
constrain_parts-returns-in-Err-constrain t c = record { next = tt; begins = tt; ok = tt; err = let w = at_place c.args.parts.now c.loop-part.part-index _ c.loop-part-test.true in tells c.in-Err-constrain.error (gone_refused c.args.setting.places c.args.setting.base c.args.setting.depth c.args.lo c.loop-part.at (take c.loop-part.part-index c.args.parts.now) (slice_index_or c.args.parts.now c.loop-part.part-index _) c.args.begins.now c.loop-part.begins c.args.inference.now c.loop-part.inference c.constrain.new.inference c.requires.safe c.loop-part.invariant c.args.parts.now w.0 w.1) c.in-Err-constrain.ensures.err }

pub constrain_parts-loop-part-preserved : goal.constrain_parts-loop-part-preserved
constrain_parts-loop-part-preserved t c = subst (λ (l : List Exp). Gone_over c.args.setting.places c.args.setting.base c.args.setting.depth c.args.lo c.in-Ok-constrain.next l c.args.begins.now c.push.new.self c.args.inference.now c.constrain.new.inference) (take_more c.args.parts.now c.loop-part.part-index _ c.loop-part-test.true) (gone_more c.args.setting.places c.args.setting.base c.args.setting.depth c.args.lo c.loop-part.at (take c.loop-part.part-index c.args.parts.now) (slice_index_or c.args.parts.now c.loop-part.part-index _) c.args.begins.now c.loop-part.begins c.args.inference.now c.loop-part.inference c.constrain.new.inference c.requires.safe c.loop-part.invariant c.in-Ok-constrain.next c.push.new.self c.in-Ok.ensures.ok c.in-Ok-constrain.ensures.next c.in-Ok-constrain.ensures.ok)

pub constrain_strict-returns-in-Err : goal.constrain_strict-returns-in-Err
constrain_strict-returns-in-Err t c = record { next = tt; ok = tt; err = tells c.in-Err.error (refused_strict c.args.setting.places c.args.setting.base c.args.setting.depth c.args.lo (c.args.lo + c.own_numbers_of.result) (operation_of c.args.act.now) c.args.mark (terms (map term_of c.args.parts.now)) c.args.inference.now c.constrain_parts.new.inference c.requires.safe (ap (λ n. c.args.lo + n) c.own_numbers_of.ensures)) c.in-Err.ensures.err }

pub constrain_strict-constrain_rule-requires : goal.constrain_strict-constrain_rule-requires
constrain_strict-constrain_rule-requires t c = record { safe = c.in-Ok.ensures.ok.later.safe; room = omega (arith, c.requires.room); parts = (subst (λ l. Each (λ n. n < c.args.setting.base) l) (sym (c.as_slice.ensures ∙ c.in-Ok.ensures.begins ∙ ap (λ l. l ++ starts (terms (map term_of c.args.parts.now)) (c.args.lo + c.own_numbers_of.result)) c.new-begins.ensures)) (starts_below c.args.setting.base (terms (map term_of c.args.parts.now)) (c.args.lo + c.own_numbers_of.result) (omega (arith, c.requires.room, c.own_numbers_of.ensures)))) }

pub constrain_strict-returns : goal.constrain_strict-returns
constrain_strict-returns t c = record { next = rw c.and.ensures (end_next _ c.constrain_rule.result c.in-Ok.next (omega (arith, c.in-Ok.ensures.next, c.own_numbers_of.ensures))); ok = rw c.and.ensures (end_ok c.constrain_rule.result c.in-Ok.next (λ r. strict_ok c.args.setting.places c.args.setting.base c.args.setting.depth c.args.lo (c.args.lo + c.own_numbers_of.result) (operation_of c.args.act.now) c.args.mark (terms (map term_of c.args.parts.now)) c.args.inference.now c.constrain_parts.new.inference c.constrain_rule.new.inference c.requires.safe (ap (λ n. c.args.lo + n) c.own_numbers_of.ensures) c.as_slice.result.now (c.as_slice.ensures ∙ c.in-Ok.ensures.begins ∙ ap (λ l. l ++ starts (terms (map term_of c.args.parts.now)) (c.args.lo + c.own_numbers_of.result)) c.new-begins.ensures) c.in-Ok.ensures.ok (r (c.args.lo + c.own_numbers_of.result + all_numbers (terms (map term_of c.args.parts.now))) (omega (arith, own_some (operation_of c.args.act.now), c.own_numbers_of.ensures)))) c.constrain_rule.ensures.ok); err = rw c.and.ensures (end_err c.constrain_rule.result c.in-Ok.next (λ r. strict_err2 c.args.setting.places c.args.setting.base c.args.setting.depth c.args.lo (c.args.lo + c.own_numbers_of.result) (operation_of c.args.act.now) c.args.mark (terms (map term_of c.args.parts.now)) c.args.inference.now c.constrain_parts.new.inference c.constrain_rule.new.inference c.requires.safe (ap (λ n. c.args.lo + n) c.own_numbers_of.ensures) c.as_slice.result.now (c.as_slice.ensures ∙ c.in-Ok.ensures.begins ∙ ap (λ l. l ++ starts (terms (map term_of c.args.parts.now)) (c.args.lo + c.own_numbers_of.result)) c.new-begins.ensures) c.in-Ok.ensures.ok (r (c.args.lo + c.own_numbers_of.result + all_numbers (terms (map term_of c.args.parts.now))) (omega (arith, own_some (operation_of c.args.act.now), c.own_numbers_of.ensures)))) c.constrain_rule.ensures.err) }

pub constrain_lambda-returns-in-Err : goal.constrain_lambda-returns-in-Err
constrain_lambda-returns-in-Err t c = record { next = tt; ok = tt; err = tells c.in-Err.error (lambda_err1 c.args.setting.places c.args.setting.base c.args.setting.depth c.args.lo (1 + c.args.lo + all_pattern_numbers (patterns (map pattern_of c.args.params.now))) (patterns (map pattern_of c.args.params.now)) (term_of c.args.body.now) refl c.args.inference.now c.constrain_parameters.new.inference) c.in-Err.ensures.err }

pub constrain_lambda-constrain-requires : goal.constrain_lambda-constrain-requires
constrain_lambda-constrain-requires t c = (omega arith, (c.in-Ok.ensures.ok.later.safe, omega (arith, c.requires.room, c.in-Ok.ensures.next)))

pub constrain_lambda-returns-in-Err-constrain : goal.constrain_lambda-returns-in-Err-constrain
constrain_lambda-returns-in-Err-constrain t c = record { next = tt; ok = tt; err = tells c.in-Err-constrain.error (lambda_err2 c.args.setting.places c.args.setting.base c.args.setting.depth c.args.lo c.in-Ok.next (patterns (map pattern_of c.args.params.now)) (term_of c.args.body.now) c.in-Ok.ensures.next c.args.inference.now c.constrain_parameters.new.inference c.in-Ok.ensures.ok c.constrain.new.inference) c.in-Err-constrain.ensures.err }

pub constrain_lambda-constrain_arrows-requires-clause-safe : goal.constrain_lambda-constrain_arrows-requires-clause-safe
constrain_lambda-constrain_arrows-requires-clause-safe t c = lambda_safe c.args.setting.places c.args.setting.base c.args.setting.depth c.args.lo c.in-Ok.next (patterns (map pattern_of c.args.params.now)) (term_of c.args.body.now) c.in-Ok.ensures.next c.args.inference.now c.constrain_parameters.new.inference c.in-Ok.ensures.ok c.constrain.new.inference c.take_back.new.inference c.requires.safe c.in-Ok-constrain.ensures.ok (λ before added e l. c.take_back.ensures before added e (l ∙ sym c.mark_of-mark.ensures))

pub constrain_lambda-constrain_arrows-requires-clause-number : goal.constrain_lambda-constrain_arrows-requires-clause-number
constrain_lambda-constrain_arrows-requires-clause-number t c = omega (arith, c.requires.room)

pub constrain_lambda-constrain_arrows-requires-clause-params : goal.constrain_lambda-constrain_arrows-requires-clause-params
constrain_lambda-constrain_arrows-requires-clause-params t c = subst (λ l. Each (λ n. n < c.args.setting.base) l) (sym (c.as_slice.ensures ∙ c.in-Ok.ensures.begins ∙ ap (λ l. l ++ pattern_starts (patterns (map pattern_of c.args.params.now)) (1 + c.args.lo)) c.new-begins.ensures)) (pattern_starts_below c.args.setting.base (patterns (map pattern_of c.args.params.now)) (1 + c.args.lo) (omega (arith, c.requires.room)))

pub constrain_lambda-constrain_arrows-requires-clause-body : goal.constrain_lambda-constrain_arrows-requires-clause-body
constrain_lambda-constrain_arrows-requires-clause-body t c = omega (arith, c.requires.room, c.in-Ok.ensures.next, numbers_some (term_of c.args.body.now))

pub constrain_lambda-returns : goal.constrain_lambda-returns
constrain_lambda-returns t c = record { next = rw c.and.ensures (end_next _ c.constrain_arrows.result c.in-Ok-constrain.next (omega (arith, c.in-Ok.ensures.next, c.in-Ok-constrain.ensures.next))); ok = rw c.and.ensures (end_ok c.constrain_arrows.result c.in-Ok-constrain.next (lambda_ok c.args.setting.places c.args.setting.base c.args.setting.depth c.args.lo c.in-Ok.next (patterns (map pattern_of c.args.params.now)) (term_of c.args.body.now) c.in-Ok.ensures.next c.args.inference.now c.constrain_parameters.new.inference c.in-Ok.ensures.ok c.constrain.new.inference c.take_back.new.inference c.requires.safe c.in-Ok-constrain.ensures.ok (λ before added e l. c.take_back.ensures before added e (l ∙ sym c.mark_of-mark.ensures)) c.constrain_arrows.new.inference c.as_slice.result.now (c.as_slice.ensures ∙ c.in-Ok.ensures.begins ∙ ap (λ l. l ++ pattern_starts (patterns (map pattern_of c.args.params.now)) (1 + c.args.lo)) c.new-begins.ensures)) c.constrain_arrows.ensures.ok); err = rw c.and.ensures (end_err c.constrain_arrows.result c.in-Ok-constrain.next (lambda_err3 c.args.setting.places c.args.setting.base c.args.setting.depth c.args.lo c.in-Ok.next (patterns (map pattern_of c.args.params.now)) (term_of c.args.body.now) c.in-Ok.ensures.next c.args.inference.now c.constrain_parameters.new.inference c.in-Ok.ensures.ok c.constrain.new.inference c.take_back.new.inference c.requires.safe c.in-Ok-constrain.ensures.ok (λ before added e l. c.take_back.ensures before added e (l ∙ sym c.mark_of-mark.ensures)) c.constrain_arrows.new.inference c.as_slice.result.now (c.as_slice.ensures ∙ c.in-Ok.ensures.begins ∙ ap (λ l. l ++ pattern_starts (patterns (map pattern_of c.args.params.now)) (1 + c.args.lo)) c.new-begins.ensures)) c.constrain_arrows.ensures.err) }

pub constrain_lets-constrain_rows-requires : goal.constrain_lets-constrain_rows-requires
constrain_lets-constrain_rows-requires t c = (omega (arith, numbers_lets (map row_of c.args.lets.now) (term_of c.args.body.now), numbers_some (term_of c.args.body.now)), (c.requires.safe, omega (arith, c.requires.room, numbers_lets (map row_of c.args.lets.now) (term_of c.args.body.now), behind_from (map row_of c.args.lets.now) c.args.lo)))

pub constrain_lets-returns-in-Err : goal.constrain_lets-returns-in-Err
constrain_lets-returns-in-Err t c = record { next = tt; ok = tt; err = tells c.in-Err.error (lets_err1 c.args.setting.places c.args.setting.base c.args.setting.depth c.args.lo (behind_all (map row_of c.args.lets.now) c.args.lo) (map row_of c.args.lets.now) (term_of c.args.body.now) refl c.args.inference.now c.constrain_rows.new.inference) c.in-Err.ensures.err }

pub constrain_lets-constrain_ruled-requires : goal.constrain_lets-constrain_ruled-requires
constrain_lets-constrain_ruled-requires t c = (omega (arith, numbers_lets (map row_of c.args.lets.now) (term_of c.args.body.now), some_rows c.args.lets.now (omega (arith, c.if-lets-eq0.false))), (c.in-Ok.ensures.ok.later.safe, (omega (arith, c.requires.room, c.in-Ok.ensures.next, numbers_lets (map row_of c.args.lets.now) (term_of c.args.body.now), behind_from (map row_of c.args.lets.now) c.args.lo), λ table. same_within table c.args.setting.base c.args.lo c.in-Ok.next (omega (arith, c.requires.room, numbers_lets (map row_of c.args.lets.now) (term_of c.args.body.now), behind_from (map row_of c.args.lets.now) c.args.lo, numbers_some (term_of c.args.body.now))) (omega (arith, c.requires.room, c.in-Ok.ensures.next, numbers_lets (map row_of c.args.lets.now) (term_of c.args.body.now), behind_from (map row_of c.args.lets.now) c.args.lo, numbers_some (term_of c.args.body.now))))))

pub constrain_lets-returns-in-Err-constrain_ruled : goal.constrain_lets-returns-in-Err-constrain_ruled
constrain_lets-returns-in-Err-constrain_ruled t c = record { next = tt; ok = tt; err = tells c.in-Err-constrain_ruled.error (lets_unruled c.args.setting.places c.args.setting.base c.args.setting.depth c.args.lo c.in-Ok.next (map row_of c.args.lets.now) (term_of c.args.body.now) c.in-Ok.ensures.next c.args.inference.now c.constrain_rows.new.inference c.in-Ok.ensures.ok c.constrain_ruled.new.inference) c.in-Err-constrain_ruled.ensures.err }

pub constrain_lets-returns : goal.constrain_lets-returns
constrain_lets-returns t c = record { next = omega (arith, c.in-Ok-constrain_ruled.ensures.next, c.in-Ok.ensures.next, numbers_lets (map row_of c.args.lets.now) (term_of c.args.body.now), behind_from (map row_of c.args.lets.now) c.args.lo); ok = lets_ruled c.args.setting.places c.args.setting.base c.args.setting.depth c.args.lo c.in-Ok.next (map row_of c.args.lets.now) (term_of c.args.body.now) c.in-Ok.ensures.next c.args.inference.now c.constrain_rows.new.inference c.in-Ok.ensures.ok c.constrain_ruled.new.inference c.take_back.new.inference c.requires.safe c.in-Ok-constrain_ruled.ensures.ok (λ before added e l. c.take_back.ensures before added e (l ∙ sym c.mark_of-mark.ensures)); err = tt }

pub constrain_rows-loop-one-init : goal.constrain_rows-loop-one-init
constrain_rows-loop-one-init t c = lets_none c.args.setting.places c.args.setting.base c.args.setting.depth c.args.lo c.args.inference.now c.requires.safe

pub constrain_rows-constrain_row-requires : goal.constrain_rows-constrain_row-requires
constrain_rows-constrain_row-requires t c = (row_falls c.args.lets.now c.loop-one.one-index _ t c.loop-one-test.true (omega arith), (c.loop-one.invariant.opened.later.safe, row_room c.args.lets.now c.loop-one.one-index _ c.args.lo c.loop-one.at c.args.setting.base c.loop-one-test.true c.loop-one.invariant.next c.requires.room))

pub constrain_rows-loop-one-preserved : goal.constrain_rows-loop-one-preserved
constrain_rows-loop-one-preserved t c = subst (λ l. Lets_open c.args.setting.places c.args.setting.base c.args.setting.depth c.args.lo c.in-Ok.next l c.args.inference.now c.demand.new.inference) (row_more c.args.lets.now c.loop-one.one-index _ c.loop-one-test.true) (lets_more c.args.setting.places c.args.setting.base c.args.setting.depth c.args.lo c.loop-one.at (map row_of (take c.loop-one.one-index c.args.lets.now)) _ c.args.inference.now c.loop-one.inference c.constrain_row.new.inference c.loop-one.invariant c.demand.new.inference c.in-Ok.ensures.ok c.in-Ok.next c.in-Ok.ensures.next c.in-Ok-demand.ensures.ok)

pub constrain_rows-returns : goal.constrain_rows-returns
constrain_rows-returns t c = record { next = subst (λ l. c.loop-one.at ≡ behind_all (map row_of l) c.args.lo) (take_all c.args.lets.now c.loop-one.one-index c.loop-one-test.false) c.loop-one.invariant.next; ok = subst (λ l. Opened c.args.setting.places c.args.setting.base c.args.setting.depth c.args.lo (behind_all (map row_of l) c.args.lo) (Rows_claim c.args.setting.places c.args.lo (map row_of l) c.args.lo) (Rows_homes c.args.setting.depth (map row_of l) c.args.lo) (env_rows (map row_of l) c.args.lo) c.args.inference.now c.loop-one.inference) (take_all c.args.lets.now c.loop-one.one-index c.loop-one-test.false) c.loop-one.invariant.opened; err = tt }

pub constrain_bound-returns-in-Err-constrain_pattern : goal.constrain_bound-returns-in-Err-constrain_pattern
constrain_bound-returns-in-Err-constrain_pattern t c = record { next = tt; ok = tt; err = tells c.in-Err-constrain_pattern.error (value_err1 c.args.setting.places c.args.setting.base c.args.setting.depth c.args.lo (1 + c.args.lo + pattern_numbers (pattern_of c.args.pat.now)) c.args.sizes.now (pattern_of c.args.pat.now) (term_of c.args.value.now) refl c.args.inference.now c.enter_sizes.new.inference (c.in-Ok.ensures.ok (1 + c.args.lo)) c.constrain_pattern.new.inference) c.in-Err-constrain_pattern.ensures.err }

pub constrain_bound-constrain_ruled-requires : goal.constrain_bound-constrain_ruled-requires
constrain_bound-constrain_ruled-requires t c = (omega (arith, pattern_some (pattern_of c.args.pat.now)), ((pattern_claimed c.args.setting.places c.args.setting.base c.args.setting.depth c.args.lo c.in-Ok-constrain_pattern.next c.args.sizes.now (pattern_of c.args.pat.now) (term_of c.args.value.now) c.in-Ok-constrain_pattern.ensures.next c.args.inference.now c.enter_sizes.new.inference (c.in-Ok.ensures.ok (1 + c.args.lo)) c.constrain_pattern.new.inference c.take_back.new.inference c.requires.safe c.in-Ok-constrain_pattern.ensures.ok (λ before added e l. c.take_back.ensures before added e (l ∙ sym c.mark_of-mark.ensures))).later.safe, (omega (arith, c.requires.room, c.in-Ok-constrain_pattern.ensures.next), λ table. same_within table c.args.setting.base (1 + c.args.lo) c.in-Ok-constrain_pattern.next (omega (arith, c.requires.room, c.in-Ok-constrain_pattern.ensures.next, numbers_some (term_of c.args.value.now))) (omega (arith, c.requires.room, c.in-Ok-constrain_pattern.ensures.next, numbers_some (term_of c.args.value.now))))))

pub constrain_bound-returns : goal.constrain_bound-returns
constrain_bound-returns t c = record { next = ok_also c.constrain_ruled.result (λ n e. omega (arith, e, c.in-Ok-constrain_pattern.ensures.next)) c.constrain_ruled.ensures.next; ok = on_ok c.constrain_ruled.result (value_ruled c.args.setting.places c.args.setting.base c.args.setting.depth c.args.lo c.in-Ok-constrain_pattern.next c.args.sizes.now (pattern_of c.args.pat.now) (term_of c.args.value.now) c.in-Ok-constrain_pattern.ensures.next c.args.inference.now c.take_back.new.inference c.requires.safe (pattern_claimed c.args.setting.places c.args.setting.base c.args.setting.depth c.args.lo c.in-Ok-constrain_pattern.next c.args.sizes.now (pattern_of c.args.pat.now) (term_of c.args.value.now) c.in-Ok-constrain_pattern.ensures.next c.args.inference.now c.enter_sizes.new.inference (c.in-Ok.ensures.ok (1 + c.args.lo)) c.constrain_pattern.new.inference c.take_back.new.inference c.requires.safe c.in-Ok-constrain_pattern.ensures.ok (λ before added e l. c.take_back.ensures before added e (l ∙ sym c.mark_of-mark.ensures))) c.constrain_ruled.new.inference (demand.Same (1 + c.args.lo) c.in-Ok-constrain_pattern.next ∷ []) (same_says (1 + c.args.lo) c.in-Ok-constrain_pattern.next) (same_allowed (1 + c.args.lo) c.in-Ok-constrain_pattern.next)) c.constrain_ruled.ensures.ok; err = if_err c.constrain_ruled.result (value_unruled c.args.setting.places c.args.setting.base c.args.setting.depth c.args.lo c.in-Ok-constrain_pattern.next c.args.sizes.now (pattern_of c.args.pat.now) (term_of c.args.value.now) c.in-Ok-constrain_pattern.ensures.next c.args.inference.now c.take_back.new.inference c.requires.safe (pattern_claimed c.args.setting.places c.args.setting.base c.args.setting.depth c.args.lo c.in-Ok-constrain_pattern.next c.args.sizes.now (pattern_of c.args.pat.now) (term_of c.args.value.now) c.in-Ok-constrain_pattern.ensures.next c.args.inference.now c.enter_sizes.new.inference (c.in-Ok.ensures.ok (1 + c.args.lo)) c.constrain_pattern.new.inference c.take_back.new.inference c.requires.safe c.in-Ok-constrain_pattern.ensures.ok (λ before added e l. c.take_back.ensures before added e (l ∙ sym c.mark_of-mark.ensures))) c.constrain_ruled.new.inference (demand.Same (1 + c.args.lo) c.in-Ok-constrain_pattern.next ∷ []) (same_says (1 + c.args.lo) c.in-Ok-constrain_pattern.next) (same_allowed (1 + c.args.lo) c.in-Ok-constrain_pattern.next)) c.constrain_ruled.ensures.err }

pub constrain_value-constrain_bound-requires : goal.constrain_value-constrain_bound-requires
constrain_value-constrain_bound-requires t c = (omega arith, (c.requires.safe, omega (arith, c.requires.room)))

pub constrain_value-returns : goal.constrain_value-returns
constrain_value-returns t c = record { next = rw c.and.ensures (end_next _ c.enter_bound.result c.in-Ok.next (c.in-Ok.ensures.next)); ok = rw c.and.ensures (end_ok c.enter_bound.result c.in-Ok.next (λ r. value_ok c.args.setting.places c.args.setting.base c.args.setting.depth c.args.lo (1 + c.args.lo + pattern_numbers (pattern_of c.args.pat.now)) c.args.sizes.now (pattern_of c.args.pat.now) (term_of c.args.value.now) refl c.args.inference.now c.constrain_bound.new.inference c.enter_bound.new.inference r c.requires.safe c.in-Ok.ensures.ok) c.enter_bound.ensures.ok); err = rw c.and.ensures (end_err c.enter_bound.result c.in-Ok.next (λ z. absurd z) c.enter_bound.ensures.err) }

pub constrain-constrain_loop-requires : goal.constrain-constrain_loop-requires
constrain-constrain_loop-requires t c = let e = ap (λ (x : FlatTerm). numbers x) (term_loop c.args.exp.now c.in-Loop.whole c.in-Loop.is) in (omega (arith, e), (c.requires.safe, subst (λ (x : FlatTerm). c.args.lo + numbers x ≤ c.args.setting.base) (term_loop c.args.exp.now c.in-Loop.whole c.in-Loop.is) c.requires.room))

pub constrain-returns-in-Loop : goal.constrain-returns-in-Loop
constrain-returns-in-Loop t c = record { next = rw (term_loop c.args.exp.now c.in-Loop.whole c.in-Loop.is) c.constrain_loop.ensures.next; ok = rw (term_loop c.args.exp.now c.in-Loop.whole c.in-Loop.is) c.constrain_loop.ensures.ok; err = rw (term_loop c.args.exp.now c.in-Loop.whole c.in-Loop.is) c.constrain_loop.ensures.err }

pub constrain_loop-constrain_head-requires : goal.constrain_loop-constrain_head-requires
constrain_loop-constrain_head-requires t c = let e = (ap (λ (x : FlatTerm). numbers x) (loop_is c.args.whole.now)) in (omega (arith, e, numbers_some (term_of c.args.whole.now.body)), (c.requires.safe, omega (arith, e, c.requires.room)))

pub constrain_loop-returns-in-Err : goal.constrain_loop-returns-in-Err
constrain_loop-returns-in-Err t c = record { next = tt; ok = tt; err = tells c.in-Err.error (λ r. subst (λ (x : FlatTerm). Unconstrained c.args.setting.places c.args.setting.base c.args.setting.depth c.args.lo x c.args.inference.now c.constrain_head.new.inference) (sym (loop_is c.args.whole.now)) (loop_err1 c.args.setting.places c.args.setting.base c.args.setting.depth c.args.lo (behind_head (pattern_of c.args.whole.now.pat) (term_of c.args.whole.now.first) (turns_of c.args.whole.now.form) c.args.lo) c.args.whole.now.mark c.args.whole.now.sizes.now (pattern_of c.args.whole.now.pat) (term_of c.args.whole.now.first) (turns_of c.args.whole.now.form) (term_of c.args.whole.now.body) refl c.args.inference.now c.constrain_head.new.inference r)) c.in-Err.ensures.err }

pub constrain_loop-constrain_ruled-requires : goal.constrain_loop-constrain_ruled-requires
constrain_loop-constrain_ruled-requires t c = let e = (ap (λ (x : FlatTerm). numbers x) (loop_is c.args.whole.now)) in (omega (arith, e, numbers_some (term_of c.args.whole.now.first)), (c.in-Ok.ensures.ok.later.safe, (omega (arith, e, c.requires.room, c.in-Ok.ensures.next), λ table. c.carried-rule.ensures.within table c.args.setting.base (below_two c.args.setting.base _ _ _ (omega (arith, e, c.requires.room)) (omega (arith, e, c.requires.room, numbers_some (term_of c.args.whole.now.body))) (omega (arith, e, c.requires.room, c.in-Ok.ensures.next, numbers_some (term_of c.args.whole.now.body)))))))

pub constrain_loop-returns-in-Err-constrain_ruled : goal.constrain_loop-returns-in-Err-constrain_ruled
constrain_loop-returns-in-Err-constrain_ruled t c = record { next = tt; ok = tt; err = tells c.in-Err-constrain_ruled.error (λ r. subst (λ (x : FlatTerm). Unconstrained c.args.setting.places c.args.setting.base c.args.setting.depth c.args.lo x c.args.inference.now c.constrain_ruled.new.inference) (sym (loop_is c.args.whole.now)) (loop_unruled c.args.setting.places c.args.setting.base c.args.setting.depth c.args.lo c.in-Ok.next c.args.whole.now.mark c.args.whole.now.sizes.now (pattern_of c.args.whole.now.pat) (term_of c.args.whole.now.first) (turns_of c.args.whole.now.form) (term_of c.args.whole.now.body) c.in-Ok.ensures.next c.args.inference.now c.constrain_head.new.inference c.in-Ok.ensures.ok c.carried-rule.result c.carried-rule.ensures.says c.carried-rule.ensures.allowed c.constrain_ruled.new.inference r)) c.in-Err-constrain_ruled.ensures.err }

pub constrain_loop-returns : goal.constrain_loop-returns
constrain_loop-returns t c = record { next = let e = (ap (λ (x : FlatTerm). numbers x) (loop_is c.args.whole.now)) in omega (arith, e, c.in-Ok.ensures.next, c.in-Ok-constrain_ruled.ensures.next); ok = subst (λ (x : FlatTerm). Constrained c.args.setting.places c.args.setting.base c.args.setting.depth c.args.lo x c.args.inference.now c.take_back.new.inference) (sym (loop_is c.args.whole.now)) (loop_ruled c.args.setting.places c.args.setting.base c.args.setting.depth c.args.lo c.in-Ok.next c.args.whole.now.mark c.args.whole.now.sizes.now (pattern_of c.args.whole.now.pat) (term_of c.args.whole.now.first) (turns_of c.args.whole.now.form) (term_of c.args.whole.now.body) c.in-Ok.ensures.next c.args.inference.now c.constrain_head.new.inference c.in-Ok.ensures.ok c.carried-rule.result c.carried-rule.ensures.says c.carried-rule.ensures.allowed c.constrain_ruled.new.inference c.take_back.new.inference c.requires.safe c.in-Ok-constrain_ruled.ensures.ok (λ before added e l. c.take_back.ensures before added e (l ∙ sym c.mark_of-mark.ensures))); err = tt }

pub constrain_while-returns-in-Err : goal.constrain_while-returns-in-Err
constrain_while-returns-in-Err t c = record { next = tt; ok = tt; err = tells c.in-Err.error (while_err1 c.args.setting.places c.args.setting.base c.args.setting.depth c.args.lo (behind_first (pattern_of c.args.whole.now.pat) (term_of c.args.whole.now.first) c.args.lo) c.args.whole.now.sizes.now (pattern_of c.args.whole.now.pat) (term_of c.args.whole.now.first) (term_of c.args.test.now) refl c.args.inference.now c.constrain_value.new.inference) c.in-Err.ensures.err }

pub constrain_while-constrain_ruled-requires : goal.constrain_while-constrain_ruled-requires
constrain_while-constrain_ruled-requires t c = (omega (arith, numbers_some (term_of c.args.whole.now.first)), (c.in-Ok.ensures.ok.later.safe, (omega (arith, c.requires.room, c.in-Ok.ensures.next), λ table. truth_within table c.args.setting.base c.in-Ok.next (omega (arith, c.requires.room, c.in-Ok.ensures.next, numbers_some (term_of c.args.test.now))))))

pub constrain_while-returns : goal.constrain_while-returns
constrain_while-returns t c = record { next = ok_also c.constrain_ruled.result (λ n e. omega (arith, e, c.in-Ok.ensures.next)) c.constrain_ruled.ensures.next; ok = on_ok c.constrain_ruled.result (while_ruled c.args.setting.places c.args.setting.base c.args.setting.depth c.args.lo c.in-Ok.next c.args.whole.now.sizes.now (pattern_of c.args.whole.now.pat) (term_of c.args.whole.now.first) (term_of c.args.test.now) c.in-Ok.ensures.next c.args.inference.now c.constrain_value.new.inference c.in-Ok.ensures.ok c.constrain_ruled.new.inference) c.constrain_ruled.ensures.ok; err = if_err c.constrain_ruled.result (while_unruled c.args.setting.places c.args.setting.base c.args.setting.depth c.args.lo c.in-Ok.next c.args.whole.now.sizes.now (pattern_of c.args.whole.now.pat) (term_of c.args.whole.now.first) (term_of c.args.test.now) c.in-Ok.ensures.next c.args.inference.now c.constrain_value.new.inference c.in-Ok.ensures.ok c.constrain_ruled.new.inference) c.constrain_ruled.ensures.err }

pub constrain_while-constrain_value-requires : goal.constrain_while-constrain_value-requires
constrain_while-constrain_value-requires t c = (omega (arith, numbers_some (term_of c.args.test.now)), (c.requires.safe, omega (arith, c.requires.room)))

pub constrain_head-constrain_while-requires : goal.constrain_head-constrain_while-requires
constrain_head-constrain_while-requires t c = let e = ap (λ (x : FlatTurns). turn_numbers x) (ap turns_of c.in-While.is ∙ turns_while c.in-While.test) in (omega (arith, e), (c.requires.safe, omega (arith, e, c.requires.room)))

pub constrain_head-returns-in-While : goal.constrain_head-returns-in-While
constrain_head-returns-in-While t c = record { next = rw (ap turns_of c.in-While.is ∙ turns_while c.in-While.test) c.constrain_while.ensures.next; ok = rw (ap turns_of c.in-While.is ∙ turns_while c.in-While.test) c.constrain_while.ensures.ok; err = rw (ap turns_of c.in-While.is ∙ turns_while c.in-While.test) c.constrain_while.ensures.err }

pub constrain_head-constrain_counted-requires : goal.constrain_head-constrain_counted-requires
constrain_head-constrain_counted-requires t c = let e = ap (λ (x : FlatTurns). turn_numbers x) (ap turns_of c.in-For.is ∙ turns_counted c.in-For.name c.in-For.bound) in (omega (arith, e), (c.requires.safe, omega (arith, e, c.requires.room)))

pub constrain_head-returns-in-For : goal.constrain_head-returns-in-For
constrain_head-returns-in-For t c = record { next = rw (ap turns_of c.in-For.is ∙ turns_counted c.in-For.name c.in-For.bound) c.constrain_counted.ensures.next; ok = rw (ap turns_of c.in-For.is ∙ turns_counted c.in-For.name c.in-For.bound) c.constrain_counted.ensures.ok; err = rw (ap turns_of c.in-For.is ∙ turns_counted c.in-For.name c.in-For.bound) c.constrain_counted.ensures.err }

pub constrain_counted-constrain_bound-requires : goal.constrain_counted-constrain_bound-requires
constrain_counted-constrain_bound-requires t c = (omega arith, (c.requires.safe, omega (arith, c.requires.room)))

pub constrain_counted-returns-in-Err : goal.constrain_counted-returns-in-Err
constrain_counted-returns-in-Err t c = record { next = tt; ok = tt; err = tells c.in-Err.error (counted_err1 c.args.setting.places c.args.setting.base c.args.setting.depth c.args.lo (behind_first (pattern_of c.args.whole.now.pat) (term_of c.args.whole.now.first) c.args.lo) c.args.whole.now.sizes.now (pattern_of c.args.whole.now.pat) (term_of c.args.whole.now.first) (term_of c.args.bound.now) c.args.name refl c.args.inference.now c.constrain_bound.new.inference) c.in-Err.ensures.err }

pub constrain_counted-constrain_ruled-requires : goal.constrain_counted-constrain_ruled-requires
constrain_counted-constrain_ruled-requires t c = (omega arith, (c.in-Ok.ensures.ok.later.safe, (omega (arith, c.requires.room, c.in-Ok.ensures.next), λ table. c.counted-rule.ensures.within table c.args.setting.base (omega (arith, c.requires.room, c.in-Ok.ensures.next), (omega (arith, c.requires.room, c.in-Ok.ensures.next, numbers_some (term_of c.args.bound.now)), tt)))))

pub constrain_counted-returns-in-Err-constrain_ruled : goal.constrain_counted-returns-in-Err-constrain_ruled
constrain_counted-returns-in-Err-constrain_ruled t c = record { next = tt; ok = tt; err = tells c.in-Err-constrain_ruled.error (counted_unruled c.args.setting.places c.args.setting.base c.args.setting.depth c.args.lo c.in-Ok.next c.args.whole.now.sizes.now (pattern_of c.args.whole.now.pat) (term_of c.args.whole.now.first) (term_of c.args.bound.now) c.args.name c.in-Ok.ensures.next c.args.inference.now c.constrain_bound.new.inference c.constrain_ruled.new.inference c.requires.safe c.in-Ok.ensures.ok c.counted-rule.result c.counted-rule.ensures.says c.counted-rule.ensures.allowed) c.in-Err-constrain_ruled.ensures.err }

pub constrain_counted-enter_bound-requires : goal.constrain_counted-enter_bound-requires
constrain_counted-enter_bound-requires t c = record { safe = (c.in-Ok-constrain_ruled.ensures.ok.1.1 c.args.setting.places 0 0).later.safe; room = omega (arith, c.requires.room) }

pub constrain_counted-returns-in-Err-enter_bound : goal.constrain_counted-returns-in-Err-enter_bound
constrain_counted-returns-in-Err-enter_bound t c = record { next = tt; ok = tt; err = tt }

pub constrain_counted-returns : goal.constrain_counted-returns
constrain_counted-returns t c = record { next = rw c.and.ensures (end_next _ c.enter.result c.in-Ok-constrain_ruled.next (omega (arith, c.in-Ok.ensures.next, c.in-Ok-constrain_ruled.ensures.next))); ok = rw c.and.ensures (end_three c.enter.result c.in-Ok-constrain_ruled.next (counted_ruled c.args.setting.places c.args.setting.base c.args.setting.depth c.args.lo c.in-Ok.next c.args.whole.now.sizes.now (pattern_of c.args.whole.now.pat) (term_of c.args.whole.now.first) (term_of c.args.bound.now) c.args.name c.in-Ok.ensures.next c.args.inference.now c.constrain_bound.new.inference c.constrain_ruled.new.inference c.requires.safe c.in-Ok.ensures.ok c.counted-rule.result c.counted-rule.ensures.says c.counted-rule.ensures.allowed c.in-Ok-constrain_ruled.ensures.ok c.enter_bound.new.inference c.enter.new.inference c.in-Ok-enter_bound.ensures.ok c.in-Ok-enter_bound.ensures.safe (omega (arith, c.requires.room, c.in-Ok.ensures.next))) c.enter.ensures.within c.enter.ensures.fresh c.enter.ensures.ok); err = rw c.and.ensures (end_err c.enter.result c.in-Ok-constrain_ruled.next (λ z. absurd z) c.enter.ensures.err) }

pub constrain_head-constrain_over-requires : goal.constrain_head-constrain_over-requires
constrain_head-constrain_over-requires t c = let e = ap (λ (x : FlatTurns). turn_numbers x) (ap turns_of c.in-ForIn.is ∙ turns_over c.in-ForIn.part c.in-ForIn.array) in (omega (arith, e), (c.requires.safe, omega (arith, e, c.requires.room)))

pub constrain_head-returns-in-ForIn : goal.constrain_head-returns-in-ForIn
constrain_head-returns-in-ForIn t c = record { next = rw (ap turns_of c.in-ForIn.is ∙ turns_over c.in-ForIn.part c.in-ForIn.array) c.constrain_over.ensures.next; ok = rw (ap turns_of c.in-ForIn.is ∙ turns_over c.in-ForIn.part c.in-ForIn.array) c.constrain_over.ensures.ok; err = rw (ap turns_of c.in-ForIn.is ∙ turns_over c.in-ForIn.part c.in-ForIn.array) c.constrain_over.ensures.err }

pub constrain_over-constrain_value-requires : goal.constrain_over-constrain_value-requires
constrain_over-constrain_value-requires t c = (omega (arith, numbers_some (term_of c.args.array.now)), (c.requires.safe, omega (arith, c.requires.room)))

pub constrain_over-returns-in-Err : goal.constrain_over-returns-in-Err
constrain_over-returns-in-Err t c = record { next = tt; ok = tt; err = tells c.in-Err.error (over_err1 c.args.setting.places c.args.setting.base c.args.setting.depth c.args.lo (behind_first (pattern_of c.args.whole.now.pat) (term_of c.args.whole.now.first) c.args.lo) ((behind_first (pattern_of c.args.whole.now.pat) (term_of c.args.whole.now.first) c.args.lo) + pattern_numbers (pattern_of c.args.part.now)) c.args.whole.now.sizes.now (pattern_of c.args.whole.now.pat) (term_of c.args.whole.now.first) (pattern_of c.args.part.now) (term_of c.args.array.now) refl refl c.args.inference.now c.constrain_value.new.inference) c.in-Err.ensures.err }

pub constrain_over-constrain_pattern-requires-clause-safe : goal.constrain_over-constrain_pattern-requires-clause-safe
constrain_over-constrain_pattern-requires-clause-safe t c = c.in-Ok.ensures.ok.later.safe

pub constrain_over-constrain_pattern-requires-clause-room : goal.constrain_over-constrain_pattern-requires-clause-room
constrain_over-constrain_pattern-requires-clause-room t c = omega (arith, c.requires.room, c.in-Ok.ensures.next)

pub constrain_over-returns-in-Err-constrain_pattern : goal.constrain_over-returns-in-Err-constrain_pattern
constrain_over-returns-in-Err-constrain_pattern t c = record { next = tt; ok = tt; err = tells c.in-Err-constrain_pattern.error (over_err2 c.args.setting.places c.args.setting.base c.args.setting.depth c.args.lo c.in-Ok.next (c.in-Ok.next + pattern_numbers (pattern_of c.args.part.now)) c.args.whole.now.sizes.now (pattern_of c.args.whole.now.pat) (term_of c.args.whole.now.first) (pattern_of c.args.part.now) (term_of c.args.array.now) c.in-Ok.ensures.next refl c.args.inference.now c.constrain_value.new.inference c.in-Ok.ensures.ok c.constrain_pattern.new.inference) c.in-Err-constrain_pattern.ensures.err }

pub constrain_over-constrain_ruled-requires : goal.constrain_over-constrain_ruled-requires
constrain_over-constrain_ruled-requires t c = (omega (arith, numbers_some (term_of c.args.whole.now.first)), ((two_claimed c.args.setting.places c.args.setting.base c.args.setting.depth c.args.lo c.in-Ok.next c.in-Ok-constrain_pattern.next c.args.whole.now.sizes.now (pattern_of c.args.whole.now.pat) (term_of c.args.whole.now.first) (pattern_of c.args.part.now) (term_of c.args.array.now) c.in-Ok.ensures.next c.in-Ok-constrain_pattern.ensures.next c.args.inference.now c.constrain_value.new.inference c.in-Ok.ensures.ok c.constrain_pattern.new.inference c.take_back.new.inference c.requires.safe c.in-Ok-constrain_pattern.ensures.ok (λ before added e l. c.take_back.ensures before added e (l ∙ sym c.mark_of-mark.ensures))).later.safe, (omega (arith, c.requires.room, c.in-Ok.ensures.next, c.in-Ok-constrain_pattern.ensures.next), λ table. c.gone_over-rule.ensures.within table c.args.setting.base (omega (arith, c.requires.room, c.in-Ok.ensures.next, numbers_some (term_of c.args.array.now)), (omega (arith, c.requires.room, c.in-Ok.ensures.next, c.in-Ok-constrain_pattern.ensures.next, numbers_some (term_of c.args.array.now)), tt)))))

pub constrain_over-returns-in-Err-constrain_ruled : goal.constrain_over-returns-in-Err-constrain_ruled
constrain_over-returns-in-Err-constrain_ruled t c = record { next = tt; ok = tt; err = tells c.in-Err-constrain_ruled.error (over_unruled c.args.setting.places c.args.setting.base c.args.setting.depth c.args.lo c.in-Ok.next c.in-Ok-constrain_pattern.next c.args.whole.now.sizes.now (pattern_of c.args.whole.now.pat) (term_of c.args.whole.now.first) (pattern_of c.args.part.now) (term_of c.args.array.now) c.in-Ok.ensures.next c.in-Ok-constrain_pattern.ensures.next c.args.inference.now c.take_back.new.inference c.constrain_ruled.new.inference c.requires.safe (two_claimed c.args.setting.places c.args.setting.base c.args.setting.depth c.args.lo c.in-Ok.next c.in-Ok-constrain_pattern.next c.args.whole.now.sizes.now (pattern_of c.args.whole.now.pat) (term_of c.args.whole.now.first) (pattern_of c.args.part.now) (term_of c.args.array.now) c.in-Ok.ensures.next c.in-Ok-constrain_pattern.ensures.next c.args.inference.now c.constrain_value.new.inference c.in-Ok.ensures.ok c.constrain_pattern.new.inference c.take_back.new.inference c.requires.safe c.in-Ok-constrain_pattern.ensures.ok (λ before added e l. c.take_back.ensures before added e (l ∙ sym c.mark_of-mark.ensures))) c.gone_over-rule.result c.gone_over-rule.ensures.says c.gone_over-rule.ensures.allowed) c.in-Err-constrain_ruled.ensures.err }

pub constrain_over-enter_bound-requires : goal.constrain_over-enter_bound-requires
constrain_over-enter_bound-requires t c = record { safe = (c.in-Ok-constrain_ruled.ensures.ok.1.1 c.args.setting.places 0 0).later.safe; room = omega (arith, c.requires.room) }

pub constrain_over-returns-in-Err-enter_bound : goal.constrain_over-returns-in-Err-enter_bound
constrain_over-returns-in-Err-enter_bound t c = record { next = tt; ok = tt; err = tt }

pub constrain_over-enter_pattern-requires : goal.constrain_over-enter_pattern-requires
constrain_over-enter_pattern-requires t c = record { safe = c.in-Ok-enter_bound.ensures.safe; room = (omega (arith, c.requires.room, c.in-Ok.ensures.next)) }

pub constrain_over-returns : goal.constrain_over-returns
constrain_over-returns t c = record { next = rw c.and.ensures (end_next _ c.enter_pattern.result c.in-Ok-constrain_ruled.next (omega (arith, c.in-Ok.ensures.next, c.in-Ok-constrain_pattern.ensures.next, c.in-Ok-constrain_ruled.ensures.next))); ok = rw c.and.ensures (end_ok c.enter_pattern.result c.in-Ok-constrain_ruled.next (λ r. over_ruled c.args.setting.places c.args.setting.base c.args.setting.depth c.args.lo c.in-Ok.next c.in-Ok-constrain_pattern.next c.args.whole.now.sizes.now (pattern_of c.args.whole.now.pat) (term_of c.args.whole.now.first) (pattern_of c.args.part.now) (term_of c.args.array.now) c.in-Ok.ensures.next c.in-Ok-constrain_pattern.ensures.next c.args.inference.now c.take_back.new.inference c.constrain_ruled.new.inference c.requires.safe (two_claimed c.args.setting.places c.args.setting.base c.args.setting.depth c.args.lo c.in-Ok.next c.in-Ok-constrain_pattern.next c.args.whole.now.sizes.now (pattern_of c.args.whole.now.pat) (term_of c.args.whole.now.first) (pattern_of c.args.part.now) (term_of c.args.array.now) c.in-Ok.ensures.next c.in-Ok-constrain_pattern.ensures.next c.args.inference.now c.constrain_value.new.inference c.in-Ok.ensures.ok c.constrain_pattern.new.inference c.take_back.new.inference c.requires.safe c.in-Ok-constrain_pattern.ensures.ok (λ before added e l. c.take_back.ensures before added e (l ∙ sym c.mark_of-mark.ensures))) c.gone_over-rule.result c.gone_over-rule.ensures.says c.gone_over-rule.ensures.allowed c.in-Ok-constrain_ruled.ensures.ok c.enter_bound.new.inference c.enter_pattern.new.inference c.in-Ok-enter_bound.ensures.ok r) c.enter_pattern.ensures.ok); err = rw c.and.ensures (end_err c.enter_pattern.result c.in-Ok-constrain_ruled.next (λ z. absurd z) c.enter_pattern.ensures.err) }

pub constrain_definition-generalise-requires : goal.constrain_definition-generalise-requires
constrain_definition-generalise-requires t c = record {
  sound = definition_sound c.args.setting.places c.args.setting.base c.args.setting.depth c.args.lo c.args.name (parameters c.args.heads.now) (term_of c.args.value.now) c.args.inference.now c.enter_parameters.new.inference c.requires.safe c.in-Ok.ensures.ok (omega (arith, c.if-depth-ge4294967294.false)) c.in-Ok-constrain_ruled.ensures.ok.0 c.constrain_ruled.new.inference c.in-Ok-constrain_ruled.ensures.ok.1.0 c.in-Ok-constrain_ruled.ensures.ok.1.1 c.requires.room c.take_back.new.inference (λ before added e l. c.take_back.ensures before added e (l ∙ sym c.mark_of-mark.ensures)) c.as_slice.result.now (c.as_slice.ensures ∙ c.in-Ok.ensures.own ∙ ap (λ l. l ++ type_numbers (parameters c.args.heads.now)) c.new-own.ensures);
  root = definition_root c.args.setting.places c.args.setting.base c.args.setting.depth c.args.lo c.args.name (parameters c.args.heads.now) (term_of c.args.value.now) c.args.inference.now c.enter_parameters.new.inference c.requires.safe c.in-Ok.ensures.ok (omega (arith, c.if-depth-ge4294967294.false)) c.in-Ok-constrain_ruled.ensures.ok.0 c.constrain_ruled.new.inference c.in-Ok-constrain_ruled.ensures.ok.1.0 c.in-Ok-constrain_ruled.ensures.ok.1.1 c.requires.room c.take_back.new.inference (λ before added e l. c.take_back.ensures before added e (l ∙ sym c.mark_of-mark.ensures)) c.as_slice.result.now (c.as_slice.ensures ∙ c.in-Ok.ensures.own ∙ ap (λ l. l ++ type_numbers (parameters c.args.heads.now)) c.new-own.ensures);
  own = definition_own c.args.setting.places c.args.setting.base c.args.setting.depth c.args.lo c.args.name (parameters c.args.heads.now) (term_of c.args.value.now) c.args.inference.now c.enter_parameters.new.inference c.requires.safe c.in-Ok.ensures.ok (omega (arith, c.if-depth-ge4294967294.false)) c.in-Ok-constrain_ruled.ensures.ok.0 c.constrain_ruled.new.inference c.in-Ok-constrain_ruled.ensures.ok.1.0 c.in-Ok-constrain_ruled.ensures.ok.1.1 c.requires.room c.take_back.new.inference (λ before added e l. c.take_back.ensures before added e (l ∙ sym c.mark_of-mark.ensures)) c.as_slice.result.now (c.as_slice.ensures ∙ c.in-Ok.ensures.own ∙ ap (λ l. l ++ type_numbers (parameters c.args.heads.now)) c.new-own.ensures);
}

pub constrain_definition-returns : goal.constrain_definition-returns
constrain_definition-returns t c = record { next = rw c.and.ensures (end_next _ c.generalise.result c.in-Ok-constrain_ruled.next (omega (arith, c.in-Ok-constrain_ruled.ensures.next))); ok = rw c.and.ensures (end_ok c.generalise.result c.in-Ok-constrain_ruled.next (definition_ok c.args.setting.places c.args.setting.base c.args.setting.depth c.args.lo c.args.name (parameters c.args.heads.now) (term_of c.args.value.now) c.args.inference.now c.enter_parameters.new.inference c.requires.safe c.in-Ok.ensures.ok (omega (arith, c.if-depth-ge4294967294.false)) c.in-Ok-constrain_ruled.ensures.ok.0 c.constrain_ruled.new.inference c.in-Ok-constrain_ruled.ensures.ok.1.0 c.in-Ok-constrain_ruled.ensures.ok.1.1 c.requires.room c.take_back.new.inference (λ before added e l. c.take_back.ensures before added e (l ∙ sym c.mark_of-mark.ensures)) c.as_slice.result.now (c.as_slice.ensures ∙ c.in-Ok.ensures.own ∙ ap (λ l. l ++ type_numbers (parameters c.args.heads.now)) c.new-own.ensures) c.generalise.new.inference) c.generalise.ensures.ok); err = rw c.and.ensures (end_both c.generalise.result c.in-Ok-constrain_ruled.next (λ x e. definition_err3 c.args.setting.places c.args.setting.base c.args.setting.depth c.args.lo c.args.name (parameters c.args.heads.now) (term_of c.args.value.now) c.args.inference.now c.enter_parameters.new.inference c.requires.safe c.in-Ok.ensures.ok (omega (arith, c.if-depth-ge4294967294.false)) c.in-Ok-constrain_ruled.ensures.ok.0 c.constrain_ruled.new.inference c.in-Ok-constrain_ruled.ensures.ok.1.0 c.in-Ok-constrain_ruled.ensures.ok.1.1 c.requires.room c.take_back.new.inference (λ before added e l. c.take_back.ensures before added e (l ∙ sym c.mark_of-mark.ensures)) c.as_slice.result.now (c.as_slice.ensures ∙ c.in-Ok.ensures.own ∙ ap (λ l. l ++ type_numbers (parameters c.args.heads.now)) c.new-own.ensures) c.generalise.new.inference x e) c.generalise.ensures.err c.generalise.ensures.same) }

pub constrain_apply-constrain-requires : goal.constrain_apply-constrain-requires
constrain_apply-constrain-requires t c = (omega arith, (c.requires.safe, omega (arith, c.requires.room)))

pub constrain_if-constrain-requires : goal.constrain_if-constrain-requires
constrain_if-constrain-requires t c = (omega arith, (c.requires.safe, omega (arith, c.requires.room)))

pub constrain_parts-returns : goal.constrain_parts-returns
constrain_parts-returns t c = record { next = subst (λ (l : List Exp). c.loop-part.at ≡ c.args.lo + all_numbers (terms (map term_of l))) (take_all c.args.parts.now c.loop-part.part-index c.loop-part-test.false) c.loop-part.invariant.next; begins = subst (λ (l : List Exp). c.loop-part.begins ≡ c.args.begins.now ++ starts (terms (map term_of l)) c.args.lo) (take_all c.args.parts.now c.loop-part.part-index c.loop-part-test.false) c.loop-part.invariant.noted; ok = subst (λ (l : List Exp). Claimed c.args.setting.places c.args.setting.base c.args.setting.depth c.args.lo (Terms_claim c.args.setting.places (terms (map term_of l)) c.args.lo) (Terms_homes c.args.setting.depth (terms (map term_of l)) c.args.lo) c.args.inference.now c.loop-part.inference) (take_all c.args.parts.now c.loop-part.part-index c.loop-part-test.false) c.loop-part.invariant.claimed; err = tt }

pub constrain_strict-constrain_parts-requires : goal.constrain_strict-constrain_parts-requires
constrain_strict-constrain_parts-requires t c = (omega (arith, own_some (operation_of c.args.act.now)), (c.requires.safe, omega (arith, c.requires.room, c.own_numbers_of.ensures)))

pub constrain_parts-returns-in-Err : goal.constrain_parts-returns-in-Err
constrain_parts-returns-in-Err t c = record { next = tt; begins = tt; ok = tt; err = tt }

pub constrain_rows-returns-in-Err : goal.constrain_rows-returns-in-Err
constrain_rows-returns-in-Err t c = record { next = tt; ok = tt; err = let w = row_split c.args.lets.now c.loop-one.one-index _ c.loop-one-test.true in tells c.in-Err.error (lets_refused c.args.setting.places c.args.setting.base c.args.setting.depth c.args.lo c.loop-one.at (map row_of (take c.loop-one.one-index c.args.lets.now)) _ c.args.inference.now c.loop-one.inference c.constrain_row.new.inference c.loop-one.invariant (map row_of c.args.lets.now) w.0 w.1) c.in-Err.ensures.err }

pub constrain_rows-demand-requires : goal.constrain_rows-demand-requires
constrain_rows-demand-requires t c = record { safe = c.in-Ok.ensures.ok.later.safe; within = (row_same c.args.lets.now c.loop-one.one-index c.args.lo c.loop-one.at c.args.setting.base _ c.loop-one-test.true c.loop-one.invariant.next c.requires.room) }

pub constrain_rows-returns-in-Err-demand : goal.constrain_rows-returns-in-Err-demand
constrain_rows-returns-in-Err-demand t c = record { next = tt; ok = tt; err = let w = row_split c.args.lets.now c.loop-one.one-index _ c.loop-one-test.true in tells c.in-Err-demand.error (lets_asked c.args.setting.places c.args.setting.base c.args.setting.depth c.args.lo c.loop-one.at (map row_of (take c.loop-one.one-index c.args.lets.now)) _ c.args.inference.now c.loop-one.inference c.constrain_row.new.inference c.loop-one.invariant c.demand.new.inference c.in-Ok.ensures.ok (map row_of c.args.lets.now) w.0 w.1) c.in-Err-demand.ensures.err }

pub constrain_lets-returns-then-lets-eq0 : goal.constrain_lets-returns-then-lets-eq0
constrain_lets-returns-then-lets-eq0 t c = record { next = tt; ok = tt; err = tt }

pub constrain_bound-returns-in-Err : goal.constrain_bound-returns-in-Err
constrain_bound-returns-in-Err t c = record { next = tt; ok = tt; err = tt }

pub constrain_definition-returns-then-depth-ge4294967294 : goal.constrain_definition-returns-then-depth-ge4294967294
constrain_definition-returns-then-depth-ge4294967294 t c = record { next = tt; ok = tt; err = tt }

pub constrain_definition-returns-in-Err : goal.constrain_definition-returns-in-Err
constrain_definition-returns-in-Err t c = record { next = tt; ok = tt; err = tt }

pub constrain_row-returns-then-one-gt0 : goal.constrain_row-returns-then-one-gt0
constrain_row-returns-then-one-gt0 t c = record { next = tt; ok = tt; err = tt }

pub constrain_row-constrain_value-requires : goal.constrain_row-constrain_value-requires
constrain_row-constrain_value-requires t c = let e = ap (λ (l : Row). behind l 0) (value_is c.args.one.now c.if-not-one.true (omega (arith, c.if-one-gt0.false))) in (omega (arith, e), (c.requires.safe, subst (λ (l : Row). behind l c.args.lo ≤ c.args.setting.base) (value_is c.args.one.now c.if-not-one.true (omega (arith, c.if-one-gt0.false))) c.requires.room))

pub constrain_row-returns-then-not-one : goal.constrain_row-returns-then-not-one
constrain_row-returns-then-not-one t c = record { next = rw (value_is c.args.one.now c.if-not-one.true (omega (arith, c.if-one-gt0.false))) c.constrain_value.ensures.next; ok = rw (value_is c.args.one.now c.if-not-one.true (omega (arith, c.if-one-gt0.false))) c.constrain_value.ensures.ok; err = rw (value_is c.args.one.now c.if-not-one.true (omega (arith, c.if-one-gt0.false))) c.constrain_value.ensures.err }

pub constrain_row-returns-then-one-gt0-2 : goal.constrain_row-returns-then-one-gt0-2
constrain_row-returns-then-one-gt0-2 t c = record { next = tt; ok = tt; err = function_refused c.args.setting.places c.args.setting.base c.args.setting.depth c.args.lo c.args.one.now c.if-not-one.false c.args.inference.now c.requires.safe (no_sizes c.args.one.now.sizes.now (pattern_of c.args.one.now.pat) (omega (arith, c.if-one-gt0-2.true))) }

pub constrain_row-constrain_definition-requires : goal.constrain_row-constrain_definition-requires
constrain_row-constrain_definition-requires t c = let e = row_numbers c.args.setting.places c.args.setting.base c.args.setting.depth 0 c.args.one.now c.if-not-one.false c.args.inference.now c.in-Bound.bind (pattern_bound c.args.one.now.pat c.in-Bound.bind c.in-Bound.is) (omega (arith, c.if-one-gt0-2.false)) c.args.inference.now in
    let z = row_numbers c.args.setting.places c.args.setting.base c.args.setting.depth c.args.lo c.args.one.now c.if-not-one.false c.args.inference.now c.in-Bound.bind (pattern_bound c.args.one.now.pat c.in-Bound.bind c.in-Bound.is) (omega (arith, c.if-one-gt0-2.false)) c.args.inference.now in (omega (arith, e), (c.requires.safe, omega (arith, z, c.requires.room)))

pub constrain_row-returns-in-Bound : goal.constrain_row-returns-in-Bound
constrain_row-returns-in-Bound t c = record { next = ok_also c.constrain_definition.result (λ n e. e ∙ sym (row_numbers c.args.setting.places c.args.setting.base c.args.setting.depth c.args.lo c.args.one.now c.if-not-one.false c.args.inference.now c.in-Bound.bind (pattern_bound c.args.one.now.pat c.in-Bound.bind c.in-Bound.is) (omega (arith, c.if-one-gt0-2.false)) c.constrain_definition.new.inference)) c.constrain_definition.ensures.next; ok = on_ok c.constrain_definition.result (function_ok c.args.setting.places c.args.setting.base c.args.setting.depth c.args.lo c.args.one.now c.if-not-one.false c.args.inference.now c.in-Bound.bind (pattern_bound c.args.one.now.pat c.in-Bound.bind c.in-Bound.is) (omega (arith, c.if-one-gt0-2.false)) c.constrain_definition.new.inference) c.constrain_definition.ensures.ok; err = if_err c.constrain_definition.result (function_err c.args.setting.places c.args.setting.base c.args.setting.depth c.args.lo c.args.one.now c.if-not-one.false c.args.inference.now c.in-Bound.bind (pattern_bound c.args.one.now.pat c.in-Bound.bind c.in-Bound.is) (omega (arith, c.if-one-gt0-2.false)) c.constrain_definition.new.inference) c.constrain_definition.ensures.err }

pub constrain_row-returns-in-Wild : goal.constrain_row-returns-in-Wild
constrain_row-returns-in-Wild t c = record { next = tt; ok = tt; err = function_refused c.args.setting.places c.args.setting.base c.args.setting.depth c.args.lo c.args.one.now c.if-not-one.false c.args.inference.now c.requires.safe (subst (λ (p : FlatPattern). Function_name c.args.one.now.sizes.now p → ⊥) (sym (pattern_wild c.args.one.now.pat c.in-Wild.is)) (no_wild c.args.one.now.sizes.now)) }

pub constrain_row-returns-in-Tuple : goal.constrain_row-returns-in-Tuple
constrain_row-returns-in-Tuple t c = record { next = tt; ok = tt; err = function_refused c.args.setting.places c.args.setting.base c.args.setting.depth c.args.lo c.args.one.now c.if-not-one.false c.args.inference.now c.requires.safe (subst (λ (p : FlatPattern). Function_name c.args.one.now.sizes.now p → ⊥) (sym (pattern_tuple c.args.one.now.pat c.in-Tuple.field-0 c.in-Tuple.is)) (no_tuple c.args.one.now.sizes.now _)) }

pub constrain_row-returns-in-Record : goal.constrain_row-returns-in-Record
constrain_row-returns-in-Record t c = record { next = tt; ok = tt; err = function_refused c.args.setting.places c.args.setting.base c.args.setting.depth c.args.lo c.args.one.now c.if-not-one.false c.args.inference.now c.requires.safe (subst (λ (p : FlatPattern). Function_name c.args.one.now.sizes.now p → ⊥) (sym (record_is c.args.one.now.pat c.in-Record.field-0 c.in-Record.is)) (no_record c.args.one.now.sizes.now _ _)) }

pub constrain_row-returns-in-Typed : goal.constrain_row-returns-in-Typed
constrain_row-returns-in-Typed t c = record { next = tt; ok = tt; err = function_refused c.args.setting.places c.args.setting.base c.args.setting.depth c.args.lo c.args.one.now c.if-not-one.false c.args.inference.now c.requires.safe (subst (λ (p : FlatPattern). Function_name c.args.one.now.sizes.now p → ⊥) (sym (pattern_typed c.args.one.now.pat c.in-Typed.field-0 c.in-Typed.field-1 c.in-Typed.is)) (no_typed c.args.one.now.sizes.now _ _)) }

pub constrain_definition-constrain_ruled-requires : goal.constrain_definition-constrain_ruled-requires
constrain_definition-constrain_ruled-requires t c = (omega arith, (c.in-Ok.ensures.safe, (omega (arith, c.requires.room), λ table. same_within table c.args.setting.base c.args.lo (1 + c.args.lo) (omega (arith, c.requires.room, numbers_some (term_of c.args.value.now))) (omega (arith, c.requires.room, numbers_some (term_of c.args.value.now))))))

pub constrain_definition-returns-in-Err-constrain_ruled : goal.constrain_definition-returns-in-Err-constrain_ruled
constrain_definition-returns-in-Err-constrain_ruled t c = record { next = tt; ok = tt; err = tells c.in-Err-constrain_ruled.error (definition_unruled c.args.setting.places c.args.setting.base c.args.setting.depth c.args.lo c.args.name (parameters c.args.heads.now) (term_of c.args.value.now) c.args.inference.now c.enter_parameters.new.inference c.requires.safe c.in-Ok.ensures.ok (omega (arith, c.if-depth-ge4294967294.false)) c.constrain_ruled.new.inference) c.in-Err-constrain_ruled.ensures.err }

pub constrain_value-returns-in-Err : goal.constrain_value-returns-in-Err
constrain_value-returns-in-Err t c = record { next = tt; ok = tt; err = c.in-Err.ensures.err }

pub constrain_value-enter_bound-requires : goal.constrain_value-enter_bound-requires
constrain_value-enter_bound-requires t c = record { safe = c.in-Ok.ensures.ok.later.safe; room = omega (arith, c.requires.room) }

pub constrain_lambda-constrain_parameters-requires : goal.constrain_lambda-constrain_parameters-requires
constrain_lambda-constrain_parameters-requires t c = record { safe = c.requires.safe; room = omega (arith, c.requires.room) }

pub constrain_bound-constrain_pattern-requires : goal.constrain_bound-constrain_pattern-requires
constrain_bound-constrain_pattern-requires t c = record { safe = c.in-Ok.ensures.safe; room = omega (arith, c.requires.room) }

pub constrain_ruled-constrain-requires : goal.constrain_ruled-constrain-requires
constrain_ruled-constrain-requires t c = (omega arith, (c.requires.safe, c.requires.room))
