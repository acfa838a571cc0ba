use Rattle.std.proofs.Common.{◌≡◌, ◌-◌, length, length-drop, arith, sym, ap, ◌∙◌}
use Rattle.value_text.proofs.Dimensions.{dimensions_more}
use Rattle.value_text.proofs.empties.dimensions.Goals as goal

pub loop-turn-preserved : goal.loop-turn-preserved
loop-turn-preserved c =
    let short : length c.behind-rest.result.now ≡ length c.loop-turn.rest.now - c.in-Ok.more = ap length c.behind-rest.ensures ∙ length-drop c.in-Ok.more c.loop-turn.rest.now in
    record {
      within = omega (arith, short, c.in-Ok.ensures.within, c.loop-turn.invariant.within);
      same = dimensions_more (length c.args.text.now) c.loop-turn.turn c.loop-turn.length c.gap.result c.loop-turn.rest.now c.behind.result.now _ c.loop-turn-test.true c.loop-turn.invariant.same c.gap.ensures.value c.behind.ensures
          (sym c.begins_with.ensures ∙ c.if-not-begins_with.false) c.in-Ok.more c.behind-rest.result.now (sym c.in-Ok.ensures.value) c.behind-rest.ensures;
    }
