use Rattle.std.proofs.Common.{ℕ, List, arith, map, refl, ap, ◌∙◌}
use Rattle.std.specs.Borrow.{Bor}
use Rattle.fut_flat.specs.Erased.{term_of, terms}
use Rattle.alias_values.specs.Trees.{value_of}
use Rattle.alias_loops.specs.Labels.{labelled_of}
use Rattle.alias_loops.proofs.StartForms.{also, as_record, as_tuple, field_end, field_more, form_apply, form_if, form_lambda, form_lets, form_loop, form_no_let, form_strict, form_use, tuple_end, tuple_more}
use Rattle.alias_loops.proofs.starting.+starts.Goals as goal

pub exp_starts-returns-then-row-eq0 : goal.exp_starts-returns-then-row-eq0
exp_starts-returns-then-row-eq0 t c = λ N k. also _ (λ (s : Bor (List ℕ)) h. form_no_let N c.args.exp.now c.args.node (value_of c.args.value.now) s.now _ _ c.in-Lets.is c.if-row-eq0.true h) (c.exp_starts.ensures N k)

pub exp_starts-returns-in-Strict : goal.exp_starts-returns-in-Strict
exp_starts-returns-in-Strict t c = λ N k. also _ (λ (s : Bor (List ℕ)) h. form_strict N c.args.exp.now c.args.node (value_of c.args.value.now) s.now _ _ _ c.in-Strict.is h) (c.strict_starts.ensures N _ k)

pub exp_starts-returns-else-row-eq0 : goal.exp_starts-returns-else-row-eq0
exp_starts-returns-else-row-eq0 t c = λ N k. also _ (λ (s : Bor (List ℕ)) h. form_lets N c.args.exp.now c.args.node (value_of c.args.value.now) s.now h _ _ c.in-Lets.is c.if-row-eq0.false) c.each_at.ensures

pub exp_starts-returns-in-Use : goal.exp_starts-returns-in-Use
exp_starts-returns-in-Use t c = λ N k. also _ (λ (s : Bor (List ℕ)) h. form_use N c.args.exp.now c.args.node (value_of c.args.value.now) s.now h _ _ c.in-Use.is) c.each_at-in-Use.ensures

pub exp_starts-returns-in-Lambda : goal.exp_starts-returns-in-Lambda
exp_starts-returns-in-Lambda t c = λ N k. also _ (λ (s : Bor (List ℕ)) h. form_lambda N c.args.exp.now c.args.node (value_of c.args.value.now) s.now h _ _ c.in-Lambda.is) c.each_at-in-Lambda.ensures

pub exp_starts-returns-in-Apply : goal.exp_starts-returns-in-Apply
exp_starts-returns-in-Apply t c = λ N k. also _ (λ (s : Bor (List ℕ)) h. form_apply N c.args.exp.now c.args.node (value_of c.args.value.now) s.now h _ _ c.in-Apply.is) c.each_at-in-Apply.ensures

pub exp_starts-returns-in-If : goal.exp_starts-returns-in-If
exp_starts-returns-in-If t c = λ N k. also _ (λ (s : Bor (List ℕ)) h. form_if N c.args.exp.now c.args.node (value_of c.args.value.now) s.now h _ _ _ c.in-If.is) c.each_at-in-If.ensures

pub exp_starts-returns-in-Loop : goal.exp_starts-returns-in-Loop
exp_starts-returns-in-Loop t c = λ N k. also _ (λ (s : Bor (List ℕ)) h. form_loop N c.args.exp.now c.args.node (value_of c.args.value.now) s.now h _ c.in-Loop.is) c.each_at-in-Loop.ensures

pub strict_starts-returns-in_ok-first-in-Tuple : goal.strict_starts-returns-in_ok-first-in-Tuple
strict_starts-returns-in_ok-first-in-Tuple t c = λ N mark k. also _ (λ (s : Bor (List ℕ)) h. as_tuple N c.args.act.now mark (terms (map term_of c.args.parts.now)) c.args.node (value_of c.args.value.now) _ _ _ s.now c.written_as.ensures c.in-Tuple.is c.in_ok-first-in-Tuple.ensures h) (c.tuple_starts.ensures N k)

pub strict_starts-returns-in_ok-labelled-in-Record : goal.strict_starts-returns-in_ok-labelled-in-Record
strict_starts-returns-in_ok-labelled-in-Record t c = λ N mark k. also _ (λ (s : Bor (List ℕ)) h. as_record N c.args.act.now mark (terms (map term_of c.args.parts.now)) c.args.node (value_of c.args.value.now) _ _ _ _ _ s.now _ c.written_as.ensures c.in-Record.is c.in_ok-first-in-Record.ensures (c.in_ok-labels-in-Record.ensures N k) (c.in_ok-labelled-in-Record.ensures N k) h) c.in_order.ensures

pub tuple_starts-loop-i-preserved : goal.tuple_starts-loop-i-preserved
tuple_starts-loop-i-preserved t c = λ N k. tuple_more N c.args.parts.now c.args.values.now c.args.node c.loop-i.i c.loop-i.next c.in_ok-next.next _ c.index-values-i.result c.loop-i.made.items _ c.in_ok-nodes.nodes.now (omega (arith, c.loop-i-test.true, c.min-i-end.ensures)) (omega (arith, c.loop-i-test.true, c.min-i-end.ensures)) (c.loop-i.invariant N k)
    (rw (← c.index-values-i.is) (c.in_ok-nodes.ensures N k)) c.in_ok-extend_from_slice.ensures.items c.in_ok-next.ensures

pub tuple_starts-returns : goal.tuple_starts-returns
tuple_starts-returns t c = λ N k. tuple_end N c.args.parts.now c.args.values.now c.args.node _ c.loop-i.i c.loop-i.next c.loop-i.made.items _ c.min-i-end.ensures c.loop-i.auto.i-end c.loop-i-test.false c.into_bump_slice.ensures (c.loop-i.invariant N k)

pub fields_start-loop-i-preserved : goal.fields_start-loop-i-preserved
fields_start-loop-i-preserved t c = λ N k. field_more N c.args.fields.now c.args.parts.now c.args.node (value_of c.args.value.now) c.loop-i.i c.loop-i.next c.in_ok-next.next c.in_ok-label.label _ _ (value_of c.in_ok-part.part.now) c.loop-i.made.items _ _ (omega (arith, c.loop-i-test.true, c.min-i-end.ensures)) (omega (arith, c.loop-i-test.true, c.min-i-end.ensures)) (c.loop-i.invariant N k)
    (c.in_ok-label.ensures N k) (c.in_ok-part.ensures N k) refl (c.in_ok-nodes.ensures N k) c.in_ok-push.ensures.items c.in_ok-next.ensures

pub fields_start-returns : goal.fields_start-returns
fields_start-returns t c = λ N k. ap labelled_of c.into_bump_slice.ensures ∙ field_end N c.args.fields.now c.args.parts.now c.args.node (value_of c.args.value.now) _ c.loop-i.i c.loop-i.next c.loop-i.made.items c.min-i-end.ensures c.loop-i.auto.i-end c.loop-i-test.false (c.loop-i.invariant N k)
