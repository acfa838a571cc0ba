use Rattle.std.proofs.Common.{◌-◌, length, sym, subst, le_refl, arith, rules}
use Rattle.std.proofs.lemmas.List.Sorted.{answers_always}
use Rattle.told_rows.proofs.OrderForms.{Listed, name_before, names_rank, listed_start, listed_on, listed_end}
use Rattle.told_rows.proofs.told.in_order.Goals as goal

pub loop-at-init : goal.loop-at-init
loop-at-init c = (le_refl _, subst (λ z. Listed c.args.names.now c.args.parts.now z (length c.args.parts.now)) (sym c.new-fields.ensures.items) (listed_start c.args.names.now c.args.parts.now (length c.args.parts.now) (omega (arith, c.if-names-parts.false))))

pub loop-at-preserved : goal.loop-at-preserved
loop-at-preserved c = (omega (arith, c.loop-at.invariant.0), listed_on c.args.names.now c.args.parts.now (c.loop-at.at - 1) c.loop-at.at _ c.index-parts-at.result c.loop-at.fields.items _ (omega (arith, c.if-names-parts.false, c.loop-at.invariant.0, c.loop-at-test.true)) (omega (arith, c.loop-at.invariant.0, c.loop-at-test.true)) c.index-parts-at.is (omega (arith, c.loop-at-test.true)) c.in_ok-push.ensures.items c.loop-at.invariant.1)

pub returns-in-Ok : goal.returns-in-Ok
returns-in-Ok c = listed_end c.args.names.now c.args.parts.now _ _ c.loop-at.at c.into_bump_slice.result (omega (arith, c.loop-at-test.false)) c.loop-at.invariant.1 (c.in-Ok.ensures.sorted name_before names_rank (answers_always _ _ _ (λ f a r g k. search rules))) (c.in-Ok.ensures.stable name_before names_rank (answers_always _ _ _ (λ f a r g k. search rules))) c.into_bump_slice.ensures
