use Rattle.std.proofs.Common.{length, refl, sym, subst, le_refl, arith, rules}
use Rattle.std.proofs.lemmas.List.Sorted.{answers_always}
use Rattle.unfold_parts.proofs.Fielding.{Recorded, name_before, names_rank, recorded_start, recorded_on, recorded_end, recorded_many}
use Rattle.unfold_parts.specs.Parts.{not_recorded}
use Rattle.unfold_parts.specs.Refused.{no_memory}
use Rattle.unfold_parts.proofs.records.record_of.Goals as goal

pub loop-at-init : goal.loop-at-init
loop-at-init c = (le_refl _, subst (λ z. Recorded c.args.names.now c.args.parts.now z (length c.args.parts.now)) (sym c.new-fields.ensures.items) (recorded_start c.args.names.now c.args.parts.now (length c.args.parts.now) (omega (arith, c.if-names-parts.false))))

pub loop-at-preserved : goal.loop-at-preserved
loop-at-preserved c = (omega (arith, c.loop-at.invariant.0), recorded_on c.args.names.now c.args.parts.now _ c.loop-at.at _ _ _ _ (omega (arith, c.if-names-parts.false, c.loop-at.invariant.0, c.loop-at-test.true)) (omega (arith, c.loop-at.invariant.0, c.loop-at-test.true)) (omega (arith, c.loop-at-test.true)) c.in-Ok.ensures.items c.loop-at.invariant.1)

pub returns-in-Ok-sort_by : goal.returns-in-Ok-sort_by
returns-in-Ok-sort_by c = recorded_end c.args.names.now c.args.parts.now _ _ c.loop-at.at _ _ (omega (arith, c.if-names-parts.false)) (omega (arith, c.loop-at-test.false)) c.loop-at.invariant.1 (c.in-Ok-sort_by.ensures.sorted name_before names_rank (answers_always _ _ _ (λ f a r g k. search rules))) (c.in-Ok-sort_by.ensures.stable name_before names_rank (answers_always _ _ _ (λ f a r g k. search rules))) c.into_bump_slice.ensures refl

pub returns-then-names-parts : goal.returns-then-names-parts
returns-then-names-parts c = recorded_many _ _ c.if-names-parts.true

pub returns-in-Err : goal.returns-in-Err
returns-in-Err c = not_recorded no_memory

pub returns : goal.returns
returns c = not_recorded no_memory
