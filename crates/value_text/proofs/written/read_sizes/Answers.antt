use Rattle.std.proofs.Common.{◌≡◌, ◌-◌, length, length-drop, refl, arith, ap, ◌∙◌}
use Rattle.value_text.specs.Written.{size_at}
use Rattle.value_text.proofs.WrittenSizes.{one_dimension}
use Rattle.value_text.proofs.written.read_sizes.Goals as goal

pub loop-turn-preserved : goal.loop-turn-preserved
loop-turn-preserved c =
    let short : length c.behind-rest.result.now ≡ length c.loop-turn.rest.now - c.in-Ok.more = ap length c.behind-rest.ensures ∙ length-drop c.in-Ok.more c.loop-turn.rest.now in
    record {
      within = omega (arith, short, c.in-Ok.ensures.within, c.loop-turn.invariant.within);
      place = c.beyond_at-beyond.ensures.place (length c.args.text.now) c.loop-turn.invariant.place (omega (arith, c.digits_from-from.ensures.within, c.loop-turn.invariant.within));
      going = one_dimension _ _ _ _ _ _ _ c.loop-turn.invariant.going _ c.in-Ok.more c.digits_from-from.result c.size_at-size.result _ _ _ _ (omega (arith, c.loop-turn-test.true)) c.in-Ok.ensures.value c.digits_from-from.ensures.value
          (c.size_at-size.ensures.value ∙ ap size_at c.behind.ensures) c.in_ok-push.ensures.ok c.beyond_at-beyond.ensures.value refl c.behind-rest.ensures;
    }
