use Rattle.std.proofs.Common.{arith, ◌∙◌}
use Rattle.record_places.proofs.PlaceForms.{noted_begin, noted_more, noted_end}
use Rattle.record_places.proofs.places.written_places.Goals as goal

pub loop-at-init : goal.loop-at-init
loop-at-init c = noted_begin c.args.names.now c.args.number c.args.fields.now _ c.in_ok-count.ensures.known c.in_ok-count.ensures.count _ (c.in_ok-places.ensures.items_if_clones_equal (λ y e. e))

pub loop-at-preserved : goal.loop-at-preserved
loop-at-preserved c = noted_more c.args.names.now c.args.number c.args.fields.now _ c.in_ok-count.ensures.known c.in_ok-count.ensures.count c.requires.table c.in_ok-count.ensures.few _ _ c.loop-at.at _ _ _ (omega (arith, c.loop-at-test.true)) c.loop-at.invariant c.in_ok-place.ensures c.note.ensures

pub returns : goal.returns
returns c = λ N k. c.into_bump_slice.ensures ∙ noted_end c.args.names.now c.args.number c.args.fields.now _ _ c.loop-at.invariant (omega (arith, c.loop-at-test.false)) N k
